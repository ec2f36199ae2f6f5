-- `reader::runs::run_question` meets its contract: the questions of a reader without levels, or of one with levels. Assumes nothing.
use mathlib.Core.Path.{sym, ◌∙◌}
use native.Mathlib.Omega.{arith}
use borrow.Author.Tests.{not-true, not-false}
use Rattle.reader.proofs.QuestionLaws.{counts-in}
use Rattle.reader.proofs.RunOver.{asks-last, asks-1, asks-store}
use Rattle.reader.proofs.runs.run_question.Goals as goal

pub returns-then-s-eq0 : goal.returns-then-s-eq0
returns-then-s-eq0 c = c.store_question.ensures ∙ asks-last _ _ c.if-s-eq0.true

pub returns-then-not-counts_fit : goal.returns-then-not-counts_fit
returns-then-not-counts_fit c =
    asks-1 _ _ c.if-s-eq0.false (sym c.counts_fit.ensures ∙ not-true _ c.if-not-counts_fit.true-raw)

pub store_question-requires-2 : goal.store_question-requires-2
store_question-requires-2 c = counts-in _ (sym c.counts_fit.ensures ∙ not-false _ c.if-not-counts_fit.false-raw)

pub returns : goal.returns
returns c =
    c.store_question-2.ensures
    ∙ asks-store _ _ c.if-s-eq0.false (sym c.counts_fit.ensures ∙ not-false _ c.if-not-counts_fit.false-raw)
