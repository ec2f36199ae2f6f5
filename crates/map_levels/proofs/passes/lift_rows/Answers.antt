use Prim.Native.Nat.{◌+◌, ◌-◌, ◌*◌, ◌≤◌}
use native.Mathlib.Omega.{arith}
use lib.ListN.{length}
use Rattle.lifting.specs.Grid.{side}
use Rattle.nine_seven.specs.Memory.{lifted_in_place}
use Rattle.map_levels.proofs.GridSweep.{pass-start, pass-end, pass-room, map-turn, mapped-past}
use Rattle.map_levels.proofs.passes.lift_rows.Goals as goal

pub loop-r-init : goal.loop-r-init
loop-r-init c = pass-start _ _ _ _ _ 0 c.requires (λ r k lt. absurd (omega arith))

pub overflow_mul-a : goal.overflow_mul-a
overflow_mul-a c =
    let room : c.loop-r.r * c.args.stride + c.args.width ≤ length
    c.loop-r.area = pass-room c.loop-r.invariant c.loop-r-test.true in
    omega (arith, room)

pub overflow_add-e : goal.overflow_add-e
overflow_add-e c =
    let room : c.loop-r.r * c.args.stride + c.args.width ≤ length
    c.loop-r.area = pass-room c.loop-r.invariant c.loop-r-test.true in
    omega (arith, room)

pub offset_bounds-area-a : goal.offset_bounds-area-a
offset_bounds-area-a c =
    let room : c.loop-r.r * c.args.stride + c.args.width ≤ length
    c.loop-r.area = pass-room c.loop-r.invariant c.loop-r-test.true in
    omega (arith, room)

pub slice_bounds-lift-end : goal.slice_bounds-lift-end
slice_bounds-lift-end c =
    let room : c.loop-r.r * c.args.stride + c.args.width ≤ length
    c.loop-r.area = pass-room c.loop-r.invariant c.loop-r-test.true in
    omega (arith, room)

pub loop-r-preserved : goal.loop-r-preserved
loop-r-preserved c =
    let part = c.lift in
    let args = c.args in
    let a = c.loop-r.r * args.stride in
    map-turn (λ n. lifted_in_place (side args.x n)) _ _ _ _ _ (a + args.width - a) _ part.new.line (omega arith) c.loop-r-test.true part.auto.line
    part.ensures c.loop-r.invariant

pub shape_of-area : goal.shape_of-area
shape_of-area c = c.loop-r.invariant.size

pub returns : goal.returns
returns c = pass-end c.loop-r.invariant (λ r k le. mapped-past _ _ _ _ r k (omega arith))
