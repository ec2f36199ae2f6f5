-- `reader::last::store_question` meets its contract: the definition's tests, in its order. Assumes nothing.
use mathlib.Core.Path.{sym, ◌∙◌}
use native.Mathlib.Omega.{arith}
use borrow.Author.Tests.{not-true, not-false}
use Rattle.reader.proofs.LastLaws.{store-1, store-5, store-9, store-0}
use Rattle.reader.proofs.last.store_question.Goals as goal

pub returns-then-not-counts_fit : goal.returns-then-not-counts_fit
returns-then-not-counts_fit c = store-1 _ _ (sym c.counts_fit.ensures ∙ not-true _ c.if-not-counts_fit.true-raw)

pub returns-then-length-s : goal.returns-then-length-s
returns-then-length-s c =
    store-5 _ _ (sym c.counts_fit.ensures ∙ not-false _ c.if-not-counts_fit.false-raw) c.if-length-s.true

pub returns-then-s : goal.returns-then-s
returns-then-s c =
    store-9 _ _ (sym c.counts_fit.ensures ∙ not-false _ c.if-not-counts_fit.false-raw) c.if-length-s.false c.if-s.true

pub returns : goal.returns
returns c =
    store-0 _ _ (sym c.counts_fit.ensures ∙ not-false _ c.if-not-counts_fit.false-raw) c.if-length-s.false c.if-s.false
