-- `view::keep` meets its contract: the definition's two tests. Assumes nothing.
use borrow.Author.Tests.{lt-ltb, le-ltb}
use Rattle.wavelet.specs.Span.{kept_span}
use Rattle.wavelet.proofs.view.keep.Goals as goal

pub returns-then-row-rows : goal.returns-then-row-rows
unfolding kept_span
returns-then-row-rows c = simp (lt-ltb _ _ c.if-length-gt0.true, lt-ltb _ _ c.if-row-rows.true)

pub returns-else-row-rows : goal.returns-else-row-rows
unfolding kept_span
returns-else-row-rows c = simp (lt-ltb _ _ c.if-length-gt0.true, le-ltb _ _ c.if-row-rows.false)

pub returns-else-length-gt0 : goal.returns-else-length-gt0
unfolding kept_span
returns-else-length-gt0 c = simp (le-ltb _ _ c.if-length-gt0.false)
