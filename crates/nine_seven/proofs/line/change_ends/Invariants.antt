-- `nine_seven::line::change_ends` meets its contract: a sweep over the high numbers. Assumes nothing.
use Rattle.nine_seven.proofs.HighLaws.{Highs}
use Rattle.nine_seven.proofs.line.change_ends.Given as goal

abbrev pub invariant-loop-n : goal.invariant-loop-n
invariant-loop-n g l = Highs g.S.WideStep.op l.initial.line l.low l.o l.from l.to l.n l.line
