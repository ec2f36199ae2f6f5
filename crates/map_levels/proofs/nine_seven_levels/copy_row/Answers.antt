-- `nine_seven_levels::copy_row` meets its contract: one copy, from the first number that is not made. Assumes nothing.
use Prim.Native.Nat.{◌+◌, ◌*◌, ◌≤◌}
use native.Mathlib.Omega.{arith}
use lib.ListN.{length}
use Rattle.lifting.specs.Grid.{side}
use Rattle.map_levels.proofs.GridSweep.{row_room}
use Rattle.map_levels.proofs.LevelCalls.{made-few, row-copied}
use Rattle.map_levels.proofs.nine_seven_levels.copy_row.Goals as goal

-- what the row has: its numbers that are made, and room in the plane and in the work area
module _ (c : goal.After-plane_row) where
  few : c.made_of-made.result ≤ c.args.width
  few =
      rw (c.made_of-made.ensures c.args.height) (made-few (side c.args.y c.args.height) c.args.r _ _ c.requires.2)

  from-room : c.plane_row.result * c.args.across + c.args.width ≤ length c.args.plane.now
  from-room = row_room _ _ _ _ _ c.requires.0 c.plane_row.ensures.1

  to_room : c.args.r * c.args.stride + c.args.width ≤ length c.args.work.now
  to_room = row_room _ _ _ _ _ c.requires.1 c.requires.3

pub plane_row-requires : goal.plane_row-requires
plane_row-requires c = c.requires.3

pub overflow_mul-a : goal.overflow_mul-a
overflow_mul-a c = omega (arith, from-room c)

pub overflow_mul-b : goal.overflow_mul-b
overflow_mul-b c = omega (arith, to_room c)

pub overflow_add-a : goal.overflow_add-a
overflow_add-a c = omega (arith, from-room c, few c)

pub overflow_add-b : goal.overflow_add-b
overflow_add-b c = omega (arith, to_room c.before, few c.before)

pub overflow_sub-width : goal.overflow_sub-width
overflow_sub-width c = omega (arith, few c.before)

pub copy_part-requires : goal.copy_part-requires
copy_part-requires c =
    let f = few c.before in
    (omega (arith, from-room c.before), omega (arith, to_room c.before))

pub shape_of-work : goal.shape_of-work
shape_of-work c = c.copy_part.auto.to

pub returns : goal.returns
returns c =
    let a = c.args in
    row-copied _ _ _ _ (side a.y a.height) a.r _ _ _ _ _ c.copy_part.ensures (c.made_of-made.ensures a.height) c.plane_row.ensures.0
