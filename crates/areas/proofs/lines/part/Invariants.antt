-- `areas::lines::part` meets its contract: a sweep over the places of the row. Assumes nothing.
use Prim.Native.Nat.{◌+◌, ◌*◌, ◌≤◌}
use lib.ListN.{length}
use Rattle.numbers.specs.Signal.{at, spliced}
use Rattle.numbers.proofs.Sweep.{Swept}
use Rattle.areas.proofs.lines.part.Given as goal

abbrev pub invariant-loop-j : goal.invariant-loop-j
invariant-loop-j g l =
    (l.to + l.n ≤ length l.initial.row)
    × Swept (length l.initial.row) (spliced l.to l.n (λ i. g.T.Element.read l.line (2 * i + g.row.FIRST)) (at l.initial.row)) (at l.initial.row) (l.to + l.j) l.row
