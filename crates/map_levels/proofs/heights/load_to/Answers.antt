-- `map_levels::heights::load_to` meets its contract: the part lent, loaded and come back. Assumes nothing.
use Prim.Native.Nat.{◌+◌, ◌-◌, ◌*◌}
use native.Mathlib.Omega.{arith}
use Rattle.map_levels.proofs.ForwardCalls.{height-part}
use Rattle.map_levels.proofs.heights.load_to.Goals as goal

pub overflow_mul-a : goal.overflow_mul-a
overflow_mul-a c = omega arith

pub overflow_add-e : goal.overflow_add-e
overflow_add-e c = omega arith

pub overflow_mul-b : goal.overflow_mul-b
overflow_mul-b c = omega arith

pub overflow_add-f : goal.overflow_add-f
overflow_add-f c = omega arith

pub returns : goal.returns
returns c =
    let called = c.part_line in
    let args = c.args in
    let w = args.width in
    let a = args.m * w in
    let b = args.r * w in
    height-part args.x w args.m args.r (b + w - b) (a + w - a) args.heights.now args.plane.now called.new.row c.requires.0
    (omega arith) (omega arith) c.requires.1 c.requires.2 called.auto.row called.ensures.area
