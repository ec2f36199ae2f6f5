-- `passes::lift_nine_seven` meets its contract: the columns, then the rows. Assumes nothing.
use mathlib.Core.Path.{◌∙◌}
use Rattle.lifting.specs.Grid.{side}
use Rattle.map_levels.proofs.GridSweep.{rows-kept}
use Rattle.map_levels.proofs.ByFilterLaws.{nine-seven-columns, nine-seven-rows}
use Rattle.map_levels.proofs.passes.lift_nine_seven.Goals as goal

pub lift_rows-requires : goal.lift_rows-requires
lift_rows-requires c = rows-kept c.lift_columns.auto.area c.requires

pub shape_of-area : goal.shape_of-area
shape_of-area c = c.lift_rows.auto.area ∙ c.lift_columns.auto.area

pub returns : goal.returns
returns c =
    let a = c.args in
    let R = c.requires in
    let W = side a.sides.x a.sides.width in
    let H = side a.sides.y a.sides.height in
    nine-seven-rows _ W H _ _ _ R.apart R.wide (nine-seven-columns _ _ _ H _ _ R c.lift_columns.ensures.area) c.lift_rows.ensures
