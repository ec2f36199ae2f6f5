-- `lifting::passes::change_lows` meets its contract: a sweep over the low numbers, the first before the loop and the last after it. Assumes nothing.
use Rattle.lifting.proofs.PassLaws.{Lows}
use Rattle.lifting.proofs.passes.change_lows.Given as goal

-- `line₀` is the line after the first store
abbrev pub invariant-loop-n : goal.invariant-loop-n
invariant-loop-n g l = Lows g.S.Step.op l.initial.line l.low l.o l.high l.end l.n l.line
