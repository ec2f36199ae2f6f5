-- `areas::place::eight_at` meets its contract: a sweep over the eight numbers, two a turn. Assumes nothing.
use Prim.Native.Nat.{◌+◌, ◌*◌, ◌≤◌}
use lib.ListN.{length}
use Rattle.numbers.specs.Signal.{at}
use Rattle.numbers.proofs.Sweep.{Swept}
use Rattle.areas.proofs.InterleaveLaws.{turns}
use Rattle.areas.proofs.place.eight_at.Given as goal

abbrev pub invariant-loop-i : goal.invariant-loop-i
invariant-loop-i l =
    (l.a + 4 ≤ length l.area) × (l.b + 4 ≤ length l.area)
    × Swept 8 (turns (λ v. v) 8 (λ k. at l.area (l.a + k)) (λ k. at l.area (l.b + k)) (at l.initial.v)) (at l.initial.v) (2 * l.i) l.v
