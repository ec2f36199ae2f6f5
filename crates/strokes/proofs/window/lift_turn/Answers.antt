-- `window::lift_turn` meets its contract: the row calls one after the other. Assumes nothing.
use mathlib.Core.Path.{◌∙◌}
use lib.ListN.{length}
use Rattle.strokes.proofs.CallLaws.{turn-lifted}
use Rattle.strokes.proofs.window.lift_turn.Goals as goal

pub returns : goal.returns
returns c =
    let a = c.args in
    turn-lifted (length a.area.now) a.stride a.width a.height a.n _ _ _ _ _ _ _ _ c.row_after.ensures.0
    c.row_before.ensures.0 c.change_row.auto.area (c.change_row-2.auto.area ∙ c.change_row.auto.area)
    c.change_row.ensures.area_after c.change_row-2.ensures.area_after c.lift_last.ensures
