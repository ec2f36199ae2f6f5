-- `lifting::halves::unlift_lows` meets its contract: a sweep over the low numbers of `out`, the first before the loop and the last after it.
-- Assumes nothing.
use Rattle.numbers.specs.Word.{wrap32}
use Rattle.lifting.specs.Line.{unupdated}
use Rattle.lifting.proofs.LiftLaws.{LowsBy}
use Rattle.lifting.proofs.halves.unlift_lows.Given as goal

-- `out₀` is `out` after the first store
abbrev pub invariant-loop-n : goal.invariant-loop-n
invariant-loop-n l = LowsBy (unupdated wrap32) l.row l.initial.out l.low l.o l.high l.end l.n l.out
