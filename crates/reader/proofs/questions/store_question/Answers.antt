-- `reader::questions::store_question` meets its contract: the definition's tests, in its order. Assumes nothing.
use mathlib.Core.Path.{◌∙◌, sym}
use borrow.Author.Tests.{not-true, not-false}
use Rattle.reader.proofs.QuestionLaws.{store-5, store-9, store-0}
use Rattle.reader.proofs.questions.store_question.Goals as goal

pub store_fits-requires : goal.store_fits-requires
store_fits-requires c = c.requires

pub returns-then-not-store_fits : goal.returns-then-not-store_fits
returns-then-not-store_fits c = store-5 _ _ (sym c.store_fits.ensures ∙ not-true _ c.if-not-store_fits.true-raw)

pub returns-then-s : goal.returns-then-s
returns-then-s c = store-9 _ _ (sym c.store_fits.ensures ∙ not-false _ c.if-not-store_fits.false-raw) c.if-s.true

pub returns : goal.returns
returns c = store-0 _ _ (sym c.store_fits.ensures ∙ not-false _ c.if-not-store_fits.false-raw) c.if-s.false
