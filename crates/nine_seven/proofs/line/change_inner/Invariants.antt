-- `nine_seven::line::change_inner` meets its contract: a sweep over the high numbers, none of whose neighbours is mirrored. Assumes nothing.
use Prim.Native.Nat.{◌+◌, ◌<◌, ◌≤◌}
use lib.ListN.{length}
use Rattle.nine_seven.proofs.HighLaws.{Highs}
use Rattle.nine_seven.proofs.line.change_inner.Given as goal

abbrev pub invariant-loop-n : goal.invariant-loop-n
invariant-loop-n g l =
    (2 ≤ l.from) × (l.low + l.to < length l.initial.line) × (l.to + l.o < l.low) × Highs g.S.WideStep.op l.initial.line l.low l.o l.from l.to l.n l.line
