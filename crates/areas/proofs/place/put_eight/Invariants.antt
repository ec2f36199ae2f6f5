-- `areas::place::put_eight` meets its contract: a sweep over eight places. Assumes nothing.
use Prim.Native.Nat.{◌+◌, ◌≤◌}
use lib.ListN.{length}
use Rattle.numbers.specs.Signal.{at, spliced}
use Rattle.numbers.proofs.Sweep.{Swept}
use Rattle.areas.proofs.place.put_eight.Given as goal

abbrev pub invariant-loop-i : goal.invariant-loop-i
invariant-loop-i l =
    (l.p + 8 ≤ length l.initial.area) × (l.i ≤ 8) × Swept (length l.initial.area) (spliced l.p 8 (at l.eight) (at l.initial.area)) (at l.initial.area) (l.p + l.i) l.area
