-- `back_rows::fetch_high` meets its contract: the row stands in the plane. Assumes nothing.
use mathlib.Core.Path.{ap}
use Prim.Native.Nat.{◌+◌, ◌*◌, ◌/◌, ◌<◌, ◌≤◌}
use native.Mathlib.Omega.{arith}
use lib.ListN.{length}
use Rattle.numbers.specs.Signal.{at}
use Rattle.lifting.specs.Grid.{side}
use Rattle.map_levels.specs.SweepBack.{short_unlifted}
use Rattle.map_levels.proofs.CellLaws.{is-high}
use Rattle.map_levels.proofs.GridSweep.{row_room, few}
use Rattle.map_levels.proofs.BackRowLaws.{high_half, high-row-at, line-by}
use Rattle.map_levels.proofs.back_rows.fetch_high.Goals as goal

-- its place there
module _ (c : goal.After-low_count) where
  row_is : c.low_count.result + c.args.r / 2 < c.args.sides.height
  row_is =
      rw c.low_count.ensures (high_half (side c.args.sides.y c.args.sides.height) c.args.r c.requires.2 c.requires.4)

  row_in : (c.low_count.result + c.args.r / 2) * c.args.across + c.args.sides.width ≤ length c.args.plane.now
  row_in = row_room _ _ _ _ _ c.requires.0 row_is

pub overflow_add-a : goal.overflow_add-a
overflow_add-a c = omega (arith, row_is c, few _ _ _ _ c.requires.0)

pub overflow_mul-a : goal.overflow_mul-a
overflow_mul-a c = omega (arith, row_in c)

pub unlift_whole-requires : goal.unlift_whole-requires
unlift_whole-requires c = (c.requires.1, row_in c.before, c.requires.3)

pub returns : goal.returns
returns c =
    let a = c.args in
    let W = side a.sides.x a.sides.width in
    let H = side a.sides.y a.sides.height in
    λ x₀.
    line-by a.to a.sides.width _ _ _ _
    (ap (short_unlifted W)
    (rw c.low_count.ensures (high-row-at a.across W H (at a.plane.now) x₀ a.r c.requires.2 (is-high H a.r c.requires.4))))
    c.unlift_whole.ensures
