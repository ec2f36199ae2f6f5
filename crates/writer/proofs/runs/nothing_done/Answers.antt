-- `runs::nothing_done` meets its contract: neither number is above 0. Assumes nothing.
use mathlib.Core.Path.{◌≡◌, sym, ap, ◌∙◌}
use Prim.Native.Nat.{ℕ, ◌+◌, ◌<◌}
use native.Mathlib.Omega.{arith}
use mathlib.Core.Bool.{false}
use lib.Dec.{eqb}
use borrow.Author.Tests.{ne_eqb}
use Rattle.writer.proofs.runs.nothing_done.Goals as goal

some : (a b : ℕ) → 0 < a → false ≡ eqb (a + b) 0
some a b h = sym (ne_eqb (a + b) 0 (λ e. omega arith))

none : (a b : ℕ) → a ≡ 0 → eqb b 0 ≡ eqb (a + b) 0
none a b h = let e : b ≡ a + b = omega arith in ap (λ (i : ℕ). eqb i 0) e

pub returns-then-done-eq0 : goal.returns-then-done-eq0
returns-then-done-eq0 c = let d = c.args.done in none d.taken d.rows (omega arith)

pub returns-else-done-eq0 : goal.returns-else-done-eq0
returns-else-done-eq0 c = let d = c.args.done in ne_eqb d.taken 0 c.if-done-eq0.false ∙ some d.taken d.rows (omega arith)
