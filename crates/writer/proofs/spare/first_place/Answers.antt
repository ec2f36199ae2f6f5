-- `spare::first_place` meets its contract. Assumes nothing.
use native.Mathlib.Omega.{arith}
use Prim.Native.Nat.{◌%◌}
use borrow.Author.Tests.{eq-eqb, ne_eqb}
use Rattle.writer.proofs.spare.first_place.Goals as goal

pub returns-then-x-eq0 : goal.returns-then-x-eq0
returns-then-x-eq0 c = simp (eq-eqb (c.args.x % 2) 0 (omega arith))

pub returns-else-x-eq0 : goal.returns-else-x-eq0
returns-else-x-eq0 c = simp (ne_eqb (c.args.x % 2) 0 (λ e. omega arith))
