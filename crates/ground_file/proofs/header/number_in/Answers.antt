use mathlib.Core.Path.{refl}
use Prim.Native.Nat.{◌+◌, ◌-◌}
use native.Mathlib.Omega.{arith}
use Rattle.ground_file.proofs.HeaderLaws.{reading-start, reading-room, reading-next, reading-end}
use Rattle.ground_file.proofs.header.number_in.Goals as goal

pub loop-i-init : goal.loop-i-init
loop-i-init c = reading-start c.requires.0 c.requires.1 (omega arith)

pub overflow_mul-r : goal.overflow_mul-r
overflow_mul-r c = omega (arith, reading-room c.loop-i.invariant (omega arith))

pub overflow_add-r : goal.overflow_add-r
overflow_add-r c = let s = c.loop-i.invariant in omega (arith, s.there, s.some, s.short)

pub bounds-bytes-from : goal.bounds-bytes-from
bounds-bytes-from c = let s = c.loop-i.invariant in omega (arith, s.there, s.some)

pub overflow_cast-r : goal.overflow_cast-r
overflow_cast-r c =
    record { fits = omega (arith, c.shared_slice_known-1.given (c.args.from + (c.loop-i.i - 1))) }

pub overflow_add-r-in-loop-i : goal.overflow_add-r-in-loop-i
overflow_add-r-in-loop-i c =
    record { fits = omega (arith, c.shared_slice_known-1.given (c.args.from + (c.loop-i.i - 1)), reading-room c.loop-i.invariant (omega arith)) }

pub loop-i-preserved : goal.loop-i-preserved
loop-i-preserved c =
    let byte = c.shared_slice_known-1.given (c.args.from + (c.loop-i.i - 1)) in
    reading-next c.loop-i.invariant (omega arith) _ refl (omega (arith, byte))

pub returns : goal.returns
returns c = reading-end c.loop-i.invariant (omega arith)
