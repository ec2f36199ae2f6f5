-- `reader::questions::counts_fit` meets its contract: the three tests, the second one short where there is no stop. Assumes nothing.
use mathlib.Core.Path.{sym, ◌∙◌}
use borrow.Author.Tests.{not-true, not-false}
use Rattle.reader.proofs.QuestionLaws.{inside-levels, counts-outside, counts-spare, counts-stopless, counts-stopped, counts-strict}
use Rattle.reader.proofs.questions.counts_fit.Goals as goal

pub returns-then-not-counts_inside : goal.returns-then-not-counts_inside
returns-then-not-counts_inside c = counts-outside _ (sym c.counts_inside.ensures ∙ not-true _ c.if-not-counts_inside.true-raw)

pub returns-then-s-ne0 : goal.returns-then-s-ne0
returns-then-s-ne0 c =
    counts-spare _ (sym c.counts_inside.ensures ∙ not-false _ c.if-not-counts_inside.false-raw) c.if-s-eq0.true c.if-s-ne0.true

pub admission_fits-requires : goal.admission_fits-requires
admission_fits-requires c = c.if-s-eq0.true

pub returns-then-s-eq0 : goal.returns-then-s-eq0
returns-then-s-eq0 c =
    c.admission_fits.ensures
    ∙ counts-stopless _ (sym c.counts_inside.ensures ∙ not-false _ c.if-not-counts_inside.false-raw) c.if-s-eq0.true c.if-s-ne0.false

pub returns-then-s-ne0-2 : goal.returns-then-s-ne0-2
returns-then-s-ne0-2 c =
    counts-stopped _ (sym c.counts_inside.ensures ∙ not-false _ c.if-not-counts_inside.false-raw) c.if-s-eq0.false c.if-s-ne0-2.true

pub stop_fits-requires : goal.stop_fits-requires
stop_fits-requires c =
    inside-levels _ (sym c.counts_inside.ensures ∙ not-false _ c.if-not-counts_inside.false-raw)

pub returns : goal.returns
returns c =
    c.stop_fits.ensures ∙ counts-strict _ (sym c.counts_inside.ensures ∙ not-false _ c.if-not-counts_inside.false-raw) c.if-s-ne0-2.false
