-- `lifting::line::copy_evens` meets its contract: a sweep over the front of `out`. Assumes nothing.
use Prim.Native.Nat.{◌≤◌}
use lib.ListN.{length}
use Rattle.numbers.specs.Signal.{at}
use Rattle.numbers.proofs.Sweep.{Swept}
use Rattle.lifting.specs.Passes.{evens_copied}
use Rattle.lifting.proofs.line.copy_evens.Given as goal

abbrev pub invariant-loop-j : goal.invariant-loop-j
invariant-loop-j l = (l.j ≤ l.low) × Swept (length l.initial.out) (evens_copied (length l.line) (at l.line) (at l.initial.out)) (at l.initial.out) l.j l.out
