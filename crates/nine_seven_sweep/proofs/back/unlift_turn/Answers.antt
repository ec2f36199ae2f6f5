-- `back::unlift_turn` meets its contract: the two steps one after the other. Assumes nothing.
use mathlib.Core.Path.{◌∙◌}
use Prim.Native.Nat.{◌-◌, ◌%◌}
use native.Mathlib.Omega.{arith}
use Rattle.numbers.specs.Word.{wrap32}
use Rattle.lifting.specs.Grid.{side, place}
use Rattle.nine_seven.specs.NineSeven.{unpredicted}
use Rattle.nine_seven_sweep.specs.Passes.{high_turn}
use Rattle.nine_seven_sweep.proofs.CallLaws.{one-after}
use Rattle.nine_seven_sweep.proofs.back.unlift_turn.Goals as goal

pub unupdate_next-requires : goal.unupdate_next-requires
unupdate_next-requires c = (c.requires.0, c.requires.2)

pub unpredict_behind-requires : goal.unpredict_behind-requires
unpredict_behind-requires c =
    let p = c.requires in
    (p.0, p.1, omega (arith, c.unupdate_next.auto.area))

pub shape_of-area : goal.shape_of-area
shape_of-area c = c.unpredict_behind.auto.area ∙ c.unupdate_next.auto.area

pub returns : goal.returns
returns c =
    let a = c.args in
    let H = side a.y a.height in
    one-after (λ k x. high_turn (unpredicted wrap32) (place H) k a.stride a.width H a.n (2 - a.y % 2) x) _ _ _ _ _
    c.unupdate_next.auto.area c.unupdate_next.ensures c.unpredict_behind.ensures
