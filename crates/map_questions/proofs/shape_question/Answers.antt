-- `shape_question` meets its contract: each test is the definition's, in its order. Assumes nothing.
use mathlib.Core.Path.{sym, ◌∙◌}
use mathlib.Core.Bool.{true, false}
use borrow.Author.Tests.{not-true, not-false}
use Rattle.wavelet.specs.Limits.{max_width, max_height}
use Rattle.map_questions.proofs.QuestionLaws.{two, three, unknown, four}
use Rattle.map_questions.proofs.shape_question.Goals as goal

pub returns-then-not-is_within : goal.returns-then-not-is_within
unfolding max_width
returns-then-not-is_within c = two _ _ _ _ (sym c.is_within.ensures ∙ not-true _ c.if-not-is_within.true-raw)

pub returns-then-not-is_within-2 : goal.returns-then-not-is_within-2
unfolding max_width max_height
returns-then-not-is_within-2 c =
    three _ _ _ _ (sym c.is_within.ensures ∙ not-false _ c.if-not-is_within.false-raw) (sym c.is_within-2.ensures ∙ not-true _ c.if-not-is_within-2.true-raw)

pub returns-then-not-is_filter : goal.returns-then-not-is_filter
unfolding max_width max_height
returns-then-not-is_filter c =
    unknown _ _ _ _ (sym c.is_within.ensures ∙ not-false _ c.if-not-is_within.false-raw) (sym c.is_within-2.ensures ∙ not-false _ c.if-not-is_within-2.false-raw)
    (sym c.is_filter.ensures ∙ not-true _ c.if-not-is_filter.true-raw)

pub returns-then-not-is_within-3 : goal.returns-then-not-is_within-3
unfolding max_width max_height
returns-then-not-is_within-3 c =
    four _ _ _ _ (sym c.is_within.ensures ∙ not-false _ c.if-not-is_within.false-raw) (sym c.is_within-2.ensures ∙ not-false _ c.if-not-is_within-2.false-raw) false _
    (sym c.is_filter.ensures ∙ not-false _ c.if-not-is_filter.false-raw)
    c.most_levels.ensures (sym c.is_within-3.ensures ∙ not-true _ c.if-not-is_within-3.true-raw)

pub returns : goal.returns
unfolding max_width max_height
returns c =
    four _ _ _ _ (sym c.is_within.ensures ∙ not-false _ c.if-not-is_within.false-raw) (sym c.is_within-2.ensures ∙ not-false _ c.if-not-is_within-2.false-raw) true _
    (sym c.is_filter.ensures ∙ not-false _ c.if-not-is_filter.false-raw)
    c.most_levels.ensures (sym c.is_within-3.ensures ∙ not-false _ c.if-not-is_within-3.false-raw)
