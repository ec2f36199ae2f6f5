-- `areas::lines::interleave_pairs` meets its contract: a sweep from place `to` on, eight places a turn, and the rest by `interleave_rest`. Assumes nothing.
use mathlib.Core.Path.{◌≡◌}
use Prim.Native.Nat.{◌+◌, ◌-◌, ◌*◌, ◌/◌, ◌≤◌}
use lib.ListN.{length}
use Rattle.numbers.specs.Signal.{at}
use Rattle.numbers.proofs.Sweep.{Swept}
use Rattle.areas.proofs.InterleaveLaws.{interleaved}
use Rattle.areas.proofs.lines.interleave_pairs.Given as goal

abbrev pub invariant-loop-j : goal.invariant-loop-j
invariant-loop-j l =
    (l.to + l.n ≤ l.even) × (l.to + l.n ≤ l.odd) × (l.even + (l.n - l.n / 2) ≤ length l.initial.area) × (l.odd + l.n / 2 ≤ length l.initial.area) × (l.end ≡ l.n / 2) × (l.j ≤ l.end)
    × (length l.area ≡ length l.initial.area) × Swept (length l.initial.area) (interleaved l.to l.even l.odd l.n (at l.initial.area)) (at l.initial.area) (l.to + 2 * l.j) l.area

abbrev pub decreases-loop-j : goal.decreases-loop-j
decreases-loop-j l = l.end - l.j
