-- `lifting::halves::unlift_highs` meets its contract: a sweep over the high numbers of `out`, the first before the loop and the last after it.
-- Assumes nothing.
use Rattle.numbers.specs.Word.{wrap32}
use Rattle.lifting.specs.Line.{unpredicted}
use Rattle.lifting.proofs.LiftLaws.{HighsBy}
use Rattle.lifting.proofs.halves.unlift_highs.Given as goal

-- `out₀` is `out` after the first store
abbrev pub invariant-loop-n : goal.invariant-loop-n
invariant-loop-n l = HighsBy (unpredicted wrap32) l.row l.initial.out l.low l.o l.end l.n l.out
