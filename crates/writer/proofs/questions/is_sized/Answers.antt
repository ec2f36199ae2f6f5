-- `questions::is_sized` meets its contract: each test is the definition's, in its order. Assumes nothing.
use mathlib.Core.Path.{sym, ap, ◌∙◌}
use borrow.Author.Tests.{not-true, not-false}
use Rattle.wavelet.specs.Limits.{max_width}
use Rattle.wavelet.specs.Questions.{within}
use Rattle.filters.specs.Figures.{streamable}
use Rattle.writer.proofs.questions.is_sized.Goals as goal

pub returns-then-not-is_filter : goal.returns-then-not-is_filter
unfolding streamable
returns-then-not-is_filter c = simp (sym c.is_filter.ensures ∙ not-true _ c.if-not-is_filter.true-raw)

pub returns-then-not-is_within : goal.returns-then-not-is_within
unfolding streamable max_width
returns-then-not-is_within c = simp (
  sym c.is_filter.ensures ∙ not-false _ c.if-not-is_filter.false-raw,
  sym c.is_within.ensures ∙ not-true _ c.if-not-is_within.true-raw,
)

pub returns : goal.returns
unfolding streamable max_width
returns c =
    c.is_within-2.ensures
    ∙ ap (λ m. within 1 m c.args.levels) c.most_levels.ensures
    ∙ simp (sym c.is_filter.ensures ∙ not-false _ c.if-not-is_filter.false-raw, sym c.is_within.ensures ∙ not-false _ c.if-not-is_within.false-raw)
