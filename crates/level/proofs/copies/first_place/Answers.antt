-- `copies::first_place` meets its contract. Assumes nothing.
use native.Mathlib.Omega.{arith}
use Prim.Native.Nat.{◌%◌}
use borrow.Author.Tests.{eq-eqb, ne_eqb}
use Rattle.level.proofs.copies.first_place.Goals as goal

pub returns-then-start-eq0 : goal.returns-then-start-eq0
returns-then-start-eq0 c = simp (eq-eqb (c.args.start % 2) 0 (omega arith))

pub returns-else-start-eq0 : goal.returns-else-start-eq0
returns-else-start-eq0 c = simp (ne_eqb (c.args.start % 2) 0 (λ e. omega arith))
