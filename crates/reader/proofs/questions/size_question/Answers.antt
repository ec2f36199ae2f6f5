-- `reader::questions::size_question` meets its contract: the definition's tests, in its order. Assumes nothing.
use mathlib.Core.Path.{sym, ◌∙◌}
use borrow.Author.Tests.{not-true, not-false}
use Rattle.wavelet.specs.Limits.{max_width, max_height}
use Rattle.reader.proofs.QuestionLaws.{levels-asked, size-2, size-3, size-18, size-4, size-0}
use Rattle.reader.proofs.questions.size_question.Goals as goal

pub returns-then-not-is_within : goal.returns-then-not-is_within
unfolding max_width max_height
returns-then-not-is_within c = size-2 _ _ _ _ (sym c.is_within.ensures ∙ not-true _ c.if-not-is_within.true-raw)

pub returns-then-not-is_within-2 : goal.returns-then-not-is_within-2
unfolding max_width max_height
returns-then-not-is_within-2 c =
    size-3 _ _ _ _ (sym c.is_within.ensures ∙ not-false _ c.if-not-is_within.false-raw) (sym c.is_within-2.ensures ∙ not-true _ c.if-not-is_within-2.true-raw)

pub returns-then-not-is_filter : goal.returns-then-not-is_filter
unfolding max_width max_height
returns-then-not-is_filter c =
    size-18 _ _ _ _ (sym c.is_within.ensures ∙ not-false _ c.if-not-is_within.false-raw) (sym c.is_within-2.ensures ∙ not-false _ c.if-not-is_within-2.false-raw)
    (sym c.is_filter.ensures ∙ not-true _ c.if-not-is_filter.true-raw)

pub returns-then-not-is_within-3 : goal.returns-then-not-is_within-3
unfolding max_width max_height
returns-then-not-is_within-3 c =
    size-4 _ _ _ _ (sym c.is_within.ensures ∙ not-false _ c.if-not-is_within.false-raw) (sym c.is_within-2.ensures ∙ not-false _ c.if-not-is_within-2.false-raw)
    (sym c.is_filter.ensures ∙ not-false _ c.if-not-is_filter.false-raw)
    (levels-asked _ _ _ _ _ c.most_levels.ensures c.is_within-3.ensures (not-true _ c.if-not-is_within-3.true-raw))

pub returns : goal.returns
unfolding max_width max_height
returns c =
    size-0 _ _ _ _ (sym c.is_within.ensures ∙ not-false _ c.if-not-is_within.false-raw) (sym c.is_within-2.ensures ∙ not-false _ c.if-not-is_within-2.false-raw)
    (sym c.is_filter.ensures ∙ not-false _ c.if-not-is_filter.false-raw)
    (levels-asked _ _ _ _ _ c.most_levels.ensures c.is_within-3.ensures (not-false _ c.if-not-is_within-3.false-raw))
