-- `passes::lift_one` meets its contract: the only row, doubled at an odd coordinate, and lifted. Assumes nothing.
use mathlib.Core.Path.{◌∙◌}
use native.Mathlib.Omega.{arith}
use Rattle.map_levels.proofs.GridSweep.{row_room, rows-kept}
use Rattle.map_levels.proofs.OneRow.{raise-one}
use Rattle.map_levels.proofs.passes.lift_one.Goals as goal

pub lift_single-requires : goal.lift_single-requires
lift_single-requires c = let R = c.requires.0 in omega (arith, row_room _ _ _ _ 0 R R.some)

pub lift_row-requires : goal.lift_row-requires
lift_row-requires c =
    let R = rows-kept c.lift_single.auto.area c.requires.0 in
    (R.wide, row_room _ _ _ _ 0 R R.some)

pub shape_of-area : goal.shape_of-area
shape_of-area c = c.lift_row.auto.area ∙ c.lift_single.auto.area

pub returns : goal.returns
returns c =
    raise-one _ _ _ _ _ _ _ c.requires.0 c.requires.1 c.lift_single.ensures c.lift_row.ensures
