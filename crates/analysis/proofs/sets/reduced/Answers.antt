-- `sets::reduced` meets its contract. Assumes nothing.
use native.Mathlib.Omega.{arith}
use borrow.Author.Tests.{lt-ltb, le-ltb}
use Rattle.analysis.proofs.sets.reduced.Goals as goal

pub returns-then-n-lt4 : goal.returns-then-n-lt4
returns-then-n-lt4 c = let a = c.args in simp (lt-ltb a.n 4 (omega arith))

pub returns-else-n-lt4 : goal.returns-else-n-lt4
returns-else-n-lt4 c = let a = c.args in simp (le-ltb a.n 4 (omega arith))
