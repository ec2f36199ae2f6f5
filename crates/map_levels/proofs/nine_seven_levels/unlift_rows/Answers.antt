use Prim.Native.Nat.{◌+◌, ◌-◌, ◌*◌, ◌≤◌}
use native.Mathlib.Omega.{arith}
use lib.ListN.{length}
use Rattle.map_levels.proofs.GridSweep.{pass-start, pass-end, pass-room, mapped-past}
use Rattle.map_levels.proofs.NineSevenBack.{unlifted-turn}
use Rattle.map_levels.proofs.nine_seven_levels.unlift_rows.Goals as goal

pub loop-r-init : goal.loop-r-init
loop-r-init c = pass-start _ _ _ _ _ 0 c.requires.0 (λ r k lt. absurd (omega arith))

pub overflow_mul-a : goal.overflow_mul-a
overflow_mul-a c =
    let room : c.loop-r.r * c.args.stride + c.args.width ≤ length
    c.loop-r.work = pass-room c.loop-r.invariant c.loop-r-test.true in
    omega (arith, room)

pub overflow_add-e : goal.overflow_add-e
overflow_add-e c =
    let room : c.loop-r.r * c.args.stride + c.args.width ≤ length
    c.loop-r.work = pass-room c.loop-r.invariant c.loop-r-test.true in
    omega (arith, room)

pub offset_bounds-work-a : goal.offset_bounds-work-a
offset_bounds-work-a c =
    let room : c.loop-r.r * c.args.stride + c.args.width ≤ length
    c.loop-r.work = pass-room c.loop-r.invariant c.loop-r-test.true in
    omega (arith, room)

pub slice_bounds-unlift-end : goal.slice_bounds-unlift-end
slice_bounds-unlift-end c =
    let room : c.loop-r.r * c.args.stride + c.args.width ≤ length
    c.loop-r.work = pass-room c.loop-r.invariant c.loop-r-test.true in
    omega (arith, room)

pub loop-r-preserved : goal.loop-r-preserved
loop-r-preserved c =
    let part = c.unlift in
    let args = c.args in
    let a = c.loop-r.r * args.stride in
    unlifted-turn _ _ _ _ _ _ (a + args.width - a) _ part.new.line c.requires.1 (omega arith) c.loop-r-test.true part.auto.line
    part.ensures.line_after c.loop-r.invariant

pub shape_of-work : goal.shape_of-work
shape_of-work c = c.loop-r.invariant.size

pub returns : goal.returns
returns c = pass-end c.loop-r.invariant (λ r k le. mapped-past _ _ _ _ r k (omega arith))
