-- `error::error_bound` meets its contract: its two questions, and then the figure. Assumes nothing.
use mathlib.Core.Path.{sym, ◌∙◌}
use borrow.Author.Tests.{not-true, not-false}
use Rattle.wavelet.specs.Limits.{max_levels}
use Rattle.wavelet.proofs.QuestionLaws.{within-true}
use Rattle.rounding.specs.Figure.{max_step}
use Rattle.rounding.proofs.CallLaws.{no-levels, no_bound, both_yes}
use Rattle.rounding.proofs.error.error_bound.Goals as goal

pub returns-then-not-is_within : goal.returns-then-not-is_within
unfolding max_levels
returns-then-not-is_within c = record { value = no-levels _ _ (sym c.is_within.ensures ∙ not-true _ c.if-not-is_within.true-raw); bound = tt }

pub returns-then-not-is_within-2 : goal.returns-then-not-is_within-2
unfolding max_levels max_step
returns-then-not-is_within-2 c =
    record { value = no_bound _ _ (sym c.is_within.ensures ∙ not-false _ c.if-not-is_within.false-raw) (sym c.is_within-2.ensures ∙ not-true _ c.if-not-is_within-2.true-raw); bound = tt }

pub bound_of-requires : goal.bound_of-requires
unfolding max_levels max_step
bound_of-requires c =
    let l = within-true 1 max_levels _ (sym c.is_within.ensures ∙ not-false _ c.if-not-is_within.false-raw) in
    let s = within-true 1 max_step _ (sym c.is_within-2.ensures ∙ not-false _ c.if-not-is_within-2.false-raw) in
    (l.1, s.0, s.1)

pub returns : goal.returns
unfolding max_levels max_step
returns c =
    record { value = both_yes _ _ (sym c.is_within.ensures ∙ not-false _ c.if-not-is_within.false-raw) (sym c.is_within-2.ensures ∙ not-false _ c.if-not-is_within-2.false-raw); bound = c.bound_of.ensures }
