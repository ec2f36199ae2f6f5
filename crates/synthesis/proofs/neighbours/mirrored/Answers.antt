-- `synthesis::neighbours::mirrored` meets its contract: in the line, or so far from an end. Assumes nothing.
use Prim.Native.Nat.{◌-◌, ◌*◌, ◌<◌, ◌%◌}
use native.Mathlib.Nat.{mod-lt}
use native.Mathlib.Omega.{arith}
use Rattle.synthesis.proofs.NeighbourLaws.{mirror-in, mirror-on, mirror-back}
use mathlib.Core.Path.{refl}
use Rattle.synthesis.proofs.neighbours.mirrored.Goals as goal

pub returns-then-p-n : goal.returns-then-p-n
returns-then-p-n c = let a = c.args in (mirror-in a.n a.p (omega arith) c.if-p-n.true, c.if-p-n.true)

pub overflow_sub-back : goal.overflow_sub-back
overflow_sub-back c =
    let a = c.args in
    let less : a.p % (2 * (a.n - 1)) < 2 * (a.n - 1) = mod-lt a.p (omega arith) in
    omega arith

pub returns-then-on-back : goal.returns-then-on-back
returns-then-on-back c = let a = c.args in (mirror-on a.n a.p (a.p % (2 * (a.n - 1))) refl c.if-on-back.true, omega arith)

pub returns-else-on-back : goal.returns-else-on-back
returns-else-on-back c = let a = c.args in (mirror-back a.n a.p (a.p % (2 * (a.n - 1))) refl (omega arith), omega arith)
