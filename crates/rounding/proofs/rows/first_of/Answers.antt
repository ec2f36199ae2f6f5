-- `rows::first_of` meets its contract. Assumes nothing.
use native.Mathlib.Omega.{arith}
use borrow.Author.Tests.{lt-ltb, le-ltb}
use Rattle.rounding.proofs.rows.first_of.Goals as goal

pub returns-then-r-top : goal.returns-then-r-top
returns-then-r-top c = let a = c.args in rw (lt-ltb a.r a.top (omega arith))

pub returns-else-r-top : goal.returns-else-r-top
returns-else-r-top c = let a = c.args in rw (le-ltb a.r a.top (omega arith))
