-- `patch::copy_to` meets its contract: a sweep over the places written. Assumes nothing.
use Rattle.std.proofs.Common.{◌+◌, ◌≤◌, length}
use Rattle.numbers.specs.Signal.{at, spliced}
use Rattle.numbers.proofs.Sweep.{Swept}
use Rattle.strokes.proofs.patch.copy_to.Given as goal

abbrev pub invariant-loop-i : goal.invariant-loop-i
invariant-loop-i g l =
    (l.a + l.n ≤ length l.from)
    × (l.b + l.n ≤ length l.initial.to)
    × Swept (length l.initial.to) (spliced l.b l.n (λ j. g.T.Element.read l.from (l.a + j)) (at l.initial.to)) (at l.initial.to) (l.b + l.i) l.to
