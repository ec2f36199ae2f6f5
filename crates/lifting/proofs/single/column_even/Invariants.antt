-- `lifting::single::column_even` meets its contract: the numbers passed are even, and past the end of the area stands 0. Assumes nothing.
use mathlib.Core.Path.{◌≡◌}
use lib.ListN.{length}
use Rattle.lifting.proofs.SingleTests.{Column}
use Rattle.lifting.proofs.single.column_even.Given as goal

abbrev pub invariant-loop : goal.invariant-loop
invariant-loop l = Column l.area l.stride l.n l.p l.counter × (l.len ≡ length l.area)
