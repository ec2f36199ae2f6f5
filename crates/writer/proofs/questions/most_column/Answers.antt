-- `questions::most_column` meets its contract: the definition's cases. Assumes nothing.
use native.Mathlib.Omega.{arith}
use Rattle.wavelet.specs.Limits.{max_height}
use Rattle.writer.proofs.QuestionLaws.{most-begun, most-finished, most-full, most-open}
use Rattle.writer.proofs.questions.most_column.Goals as goal

pub returns-then-s-eq0 : goal.returns-then-s-eq0
returns-then-s-eq0 c = most-begun _ _ _ (omega arith) c.minus.ensures

pub returns-then-s : goal.returns-then-s
returns-then-s c = most-finished _ _ (omega arith) c.if-s.true

pub returns-then-s-ge-MAX_HEIGHT : goal.returns-then-s-ge-MAX_HEIGHT
unfolding max_height
returns-then-s-ge-MAX_HEIGHT c = most-full _ _ (omega arith) c.if-s.false (omega arith)

pub returns : goal.returns
unfolding max_height
returns c = most-open _ _ (omega arith) c.if-s.false (omega arith)
