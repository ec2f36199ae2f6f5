-- `rows::round_between` meets its contract: a sweep from the first place to the end. Assumes nothing.
use Prim.Native.Nat.{◌≤◌}
use lib.ListN.{length}
use Rattle.numbers.specs.Signal.{at}
use Rattle.numbers.proofs.Sweep.{Swept}
use Rattle.rounding.specs.Step.{Divides, rounded_from}
use Rattle.rounding.proofs.rows.round_between.Given as goal

abbrev pub invariant-loop-i : goal.invariant-loop-i
invariant-loop-i l =
    (l.end ≤ length l.initial.plane) × Divides l.q
    × Swept (length l.initial.plane) (rounded_from l.q.step l.first l.end (at l.initial.plane)) (at l.initial.plane) l.i l.plane
