-- `back_rows::low_place` meets its contract: the part is no larger than the whole. Assumes nothing.
use mathlib.Core.Path.{refl}
use native.Mathlib.Omega.{arith}
use Rattle.lifting.specs.Grid.{side}
use Rattle.map_levels.specs.SweepBack.{low_place}
use Rattle.map_levels.proofs.SweepLevels.{low-least}
use Rattle.map_levels.proofs.back_rows.low_place.Goals as goal

pub overflow_mul-result-2 : goal.overflow_mul-result-2
overflow_mul-result-2 c =
    let a = c.args in
    rw (c.low_count.ensures, c.low_count-2.ensures)
    (omega (arith, low-least (side a.sides.x a.sides.width) (side a.sides.y a.sides.height), c.requires))

pub overflow_sub-result : goal.overflow_sub-result
overflow_sub-result c =
    let a = c.args in
    rw (c.low_count.ensures, c.low_count-2.ensures) (low-least (side a.sides.x a.sides.width) (side a.sides.y a.sides.height))

pub returns : goal.returns
unfolding low_place
returns c = rw (c.low_count.ensures, c.low_count-2.ensures) refl
