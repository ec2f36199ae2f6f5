-- `sweep::put_high` meets its contract, by cases. Assumes nothing.
use mathlib.Core.Path.{◌∙◌}
use native.Mathlib.Omega.{arith}
use Rattle.lifting.specs.Line.{hi}
use Rattle.lifting.specs.Grid.{side, count}
use Rattle.lifting.proofs.GridLaws.{counts}
use Rattle.map_levels.proofs.GridSweep.{row_room, rows-kept}
use Rattle.map_levels.proofs.SweepSets.{high-put, high-left}
use Rattle.map_levels.proofs.sweep.put_high.Goals as goal

pub overflow_sub-sides : goal.overflow_sub-sides
overflow_sub-sides c = let a = c.args in omega (arith, c.low_count-low.ensures, counts (side a.sides.y a.sides.height))

pub returns-then-sides-low : goal.returns-then-sides-low
returns-then-sides-low c =
    λ _. let a = c.args in high-left a.n (count hi (side a.sides.y a.sides.height)) _ _ (omega (
      arith,
      c.low_count-low.ensures,
      counts
          (side a.sides.y a.sides.height),
    ))

pub overflow_add-r : goal.overflow_add-r
overflow_add-r c = omega arith

pub lay_line-requires : goal.lay_line-requires
lay_line-requires c =
    let a = c.args in
    let R = c.requires.2 in
    let low = c.low_count-low.ensures in
    let k = counts (side a.sides.y a.sides.height) in
    (omega arith, c.requires.1, R.wide, row_room _ _ _ _ _ R (omega arith))

pub lift_row-requires : goal.lift_row-requires
lift_row-requires c =
    let a = c.args in
    let R = rows-kept c.lay_line.auto.plane c.requires.2 in
    let low = c.low_count-low.ensures in
    let k = counts (side a.sides.y a.sides.height) in
    (R.wide, row_room _ _ _ _ _ R (omega arith))

pub shape_of-plane : goal.shape_of-plane
shape_of-plane c = c.lift_row.auto.area ∙ c.lay_line.auto.plane

pub returns : goal.returns
returns c =
    let a = c.args in
    let k = counts (side a.sides.y a.sides.height) in
    λ small.
    high-put _ _ a.n _ _ (count hi (side a.sides.y a.sides.height)) _ _ _ c.low_count-low.ensures (omega (arith, c.low_count-low.ensures))
    (c.lay_line.ensures small _ c.lift_row.ensures)
