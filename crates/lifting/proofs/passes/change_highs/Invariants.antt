-- `lifting::passes::change_highs` meets its contract: a sweep over the high numbers, the first before the loop and the last after it. Assumes nothing.
use Rattle.lifting.proofs.PassLaws.{Highs}
use Rattle.lifting.proofs.passes.change_highs.Given as goal

-- `line₀` is the line after the first store
abbrev pub invariant-loop-n : goal.invariant-loop-n
invariant-loop-n g l = Highs g.S.Step.op l.initial.line l.low l.o l.end l.n l.line
