-- `areas::copies::copy` meets its contract: a sweep over the front of `to`. Assumes nothing.
use Prim.Native.Nat.{◌≤◌}
use lib.ListN.{length}
use Rattle.numbers.specs.Signal.{at}
use Rattle.numbers.proofs.Sweep.{Swept}
use Rattle.lifting.specs.Halves.{fronted}
use Rattle.areas.proofs.copies.copy.Given as goal

abbrev pub invariant-loop-i : goal.invariant-loop-i
invariant-loop-i l =
    (l.i ≤ l.n) × Swept (length l.initial.to) (fronted (length l.from) (at l.from) (at l.initial.to)) (at l.initial.to) l.i l.to
