-- `back_rows::fetch_low` meets its contract: the row stands in the plane, its low half in the work area. Assumes nothing.
use mathlib.Core.Path.{ap}
use Prim.Native.Nat.{◌+◌, ◌*◌, ◌/◌, ◌<◌, ◌≤◌}
use native.Mathlib.Omega.{arith}
use lib.ListN.{length}
use Rattle.numbers.specs.Signal.{at}
use Rattle.lifting.specs.Line.{lo}
use Rattle.lifting.specs.Grid.{side, count}
use Rattle.lifting.proofs.GridLaws.{counts}
use Rattle.map_levels.specs.SweepBack.{short_unlifted, low_place}
use Rattle.map_levels.proofs.CellLaws.{is-low}
use Rattle.map_levels.proofs.GridSweep.{row_room}
use Rattle.map_levels.proofs.BackRowLaws.{low_half, low-row-in, low-row-at, line-by}
use Rattle.map_levels.proofs.back_rows.fetch_low.Goals as goal

-- the row's low half in the work area, and the row in the plane
module _ (c : goal.After-low_count) where
  low-row : c.args.r / 2 < count lo (side c.args.sides.y c.args.sides.height)
  low-row =
      (low_half (side c.args.sides.y c.args.sides.height) c.args.r c.requires.3 c.requires.5).0

  low-room : low_place (side c.args.sides.x c.args.sides.width) (side c.args.sides.y c.args.sides.height)
      + c.args.r / 2 * count lo (side c.args.sides.x c.args.sides.width)
      + count lo (side c.args.sides.x c.args.sides.width) ≤ length c.args.work.now
  low-room =
      let a = c.args in
      omega (arith, low-row-in (side a.sides.x a.sides.width) (side a.sides.y a.sides.height) (a.r / 2) low-row, c.requires.1)

  row_in : c.args.r / 2 * c.args.across + c.args.sides.width ≤ length c.args.plane.now
  row_in =
      row_room _ _ _ _ (c.args.r / 2) c.requires.0 (omega (arith, low-row, counts (side c.args.sides.y c.args.sides.height)))

pub overflow_mul-b : goal.overflow_mul-b
overflow_mul-b c = rw c.low_count.ensures (omega (arith, low-room c))

pub overflow_add-b : goal.overflow_add-b
overflow_add-b c = rw (c.low_place.ensures, c.low_count.ensures) (omega (arith, low-room c))

pub overflow_mul-n : goal.overflow_mul-n
overflow_mul-n c = omega (arith, row_in c)

pub unlift_part-requires : goal.unlift_part-requires
unlift_part-requires c =
    (c.requires.2, rw (c.low_place.ensures, c.low_count.ensures) (low-room c.before), row_in c.before, c.requires.4)

pub returns : goal.returns
returns c =
    let a = c.args in
    let W = side a.sides.x a.sides.width in
    let H = side a.sides.y a.sides.height in
    line-by a.to a.sides.width _ _ _ _
    (ap (short_unlifted W)
    (rw (c.low_place.ensures, c.low_count.ensures)
    (low-row-at a.across W H (at a.plane.now) (at a.work.now) a.r c.requires.3 (is-low H a.r c.requires.5))))
    c.unlift_part.ensures
