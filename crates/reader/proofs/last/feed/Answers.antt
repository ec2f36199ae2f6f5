-- `reader::last::feed` meets its contract: refused by a question, or the run at the front of the store. Assumes nothing.
use mathlib.Core.Path.{ap, sym, ◌∙◌}
use native.Mathlib.Omega.{arith}
use lib.ListN.{length}
use borrow.Author.Tests.{le-leb}
use Rattle.numbers.specs.Signal.{at}
use Rattle.areas.proofs.AreaLaws.{did}
use Rattle.reader.proofs.LastLaws.{feed-early, feed-late, feed-yes, store_in, row-asked, last-in}
use Rattle.reader.proofs.Clauses.{result_value-store_after}
use Rattle.reader.specs.Answers.{of_fed}
use Rattle.refusal.proofs.Laws.{number-some, handed-on}
use Rattle.reader.proofs.last.feed.Goals as goal

pub returns-in_err-store_question : goal.returns-in_err-store_question
returns-in_err-store_question c =
    let a = c.args in
    let p = (feed-early a.s (length a.store.now) (length a.run.now) (at a.run.now) (at a.store.now) _ c.in_err-store_question.ensures
    (number-some _)) in
    let e = handed-on c.from_residual.result c.from_residual.ensures.1 in
    record { result_value = ap of_fed e ∙ p.0; store_after = p.1 }

pub row_question-requires : goal.row_question-requires
row_question-requires c =
    let p = store_in _ _ (sym c.in_ok-store_question.ensures) in
    (last-in _ p.0).0

pub returns-in_err-row_question : goal.returns-in_err-row_question
returns-in_err-row_question c =
    let a = c.args in
    let p = (feed-late a.s (length a.store.now) (length a.run.now) (at a.run.now) (at a.store.now)
    (sym c.in_ok-store_question.ensures) _ c.in_err-row_question.ensures (number-some _)) in
    let e = handed-on c.from_residual-in_err-row_question.result c.from_residual-in_err-row_question.ensures.1 in
    record { result_value = ap of_fed e ∙ p.0; store_after = p.1 }

pub shape_of-store : goal.shape_of-store
shape_of-store c = c.copy.auto.to

pub returns : goal.returns
returns c =
    let a = c.args in
    let n = length a.store.now in
    let m = length a.run.now in
    let one = sym c.in_ok-store_question.ensures in
    let two = sym c.in_ok-row_question.ensures in
    let p = store_in _ _ one in
    let room = le-leb m n (omega (arith, row-asked a.s m (at a.run.now) two, (last-in _ p.0).4, p.1)) in
    result_value-store_after (feed-yes a.s n m (at a.run.now) (at a.store.now) one two _ _ c.moved.ensures (did _ _ _ _ room c.copy.ensures.area))
