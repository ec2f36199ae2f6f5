-- `reader::Reader::feed_set` meets its contract: refused by a question, or fed, or ended. Assumes nothing.
use mathlib.Core.Path.{ap, ◌∙◌, sym}
use native.Mathlib.Nat.{le_trans, le_of_eq}
use native.Mathlib.Omega.{arith}
use lib.ListN.{length}
use borrow.Author.Tests.{not-true, not-false}
use Rattle.numbers.specs.Signal.{at}
use Rattle.filters.specs.Figures.{store_by}
use Rattle.reader.specs.State.{columns, rows, needs}
use Rattle.reader.specs.State as state
use Rattle.reader.proofs.StepLaws.{near, fed-level}
use Rattle.level.proofs.WorkLaws.{told-no, told-yes}
use Rattle.reader.proofs.QuestionLaws.{counts-in, counts-small, store_in, row-asked}
use Rattle.reader.proofs.CallLaws.{store-14, row-14, feed-1, feed-early, feed-late, feed-last, feed-no, feed-yes, feed-end}
use Rattle.reader.proofs.CallLaws.{fits-yes, fits-no, fed-reader, zero-kept}
use Rattle.reader.proofs.Keeps.{feed-also}
use Rattle.reader.proofs.Clauses.{answer-kept-meaning}
use Rattle.reader.specs.Answers.{of_fed}
use Rattle.refusal.proofs.Laws.{number-some, handed-on}
use Rattle.reader.proofs.Reader.feed_set.Goals as goal

pub returns-then-not-counts_fit : goal.returns-then-not-counts_fit
returns-then-not-counts_fit c =
    let a = c.args in
    let n = length a.store.now in
    let m = length a.run.now in
    let v = at a.run.now in
    let x = at a.store.now in
    answer-kept-meaning (feed-also a.self n m x v (feed-no a.self _ _ _ 1
    (feed-1 a.self n m v x (sym c.counts_fit.ensures ∙ not-true _ c.if-not-counts_fit.true-raw)) (omega arith) (omega arith)))

pub store_question-requires : goal.store_question-requires
store_question-requires c = counts-in _ (sym c.counts_fit.ensures ∙ not-false _ c.if-not-counts_fit.false-raw)

pub returns-in_err-store_question : goal.returns-in_err-store_question
returns-in_err-store_question c =
    let q = c.in_err-store_question.ensures in
    let fit = sym c.counts_fit.ensures ∙ not-false _ c.if-not-counts_fit.false-raw in
    let a = c.args in
    let n = length a.store.now in
    let m = length a.run.now in
    let v = at a.run.now in
    let x = at a.store.now in
    let asked = q ∙ feed-early a.self n m v x fit (λ e. (number-some _) (q ∙ e)) in
    let p = (feed-also a.self n m x v (feed-no a.self _ _ _ _ asked (number-some _) (λ e. store-14 a.self n m v x (sym q ∙ e)))) in
    let e = handed-on c.from_residual.result c.from_residual.ensures.1 in
    record { answer = ap of_fed e ∙ p.0; kept = p.1.0; meaning = rw e p.1.1 }

pub next_of-next-requires : goal.next_of-next-requires
next_of-next-requires c = (store_in _ _ (sym c.counts_fit.ensures ∙ not-false _ c.if-not-counts_fit.false-raw)
    (sym c.in_ok-store_question.ensures)).0

pub row_question-requires : goal.row_question-requires
row_question-requires c = (
  (store_in _ _ (sym c.counts_fit.ensures ∙ not-false _ c.if-not-counts_fit.false-raw)
      (sym c.in_ok-store_question.ensures)).0,
  c.next_of-next.ensures,
)

pub returns-in_err-row_question : goal.returns-in_err-row_question
returns-in_err-row_question c =
    let r = c.in_err-row_question.ensures in
    let a = c.args in
    let n = length a.store.now in
    let m = length a.run.now in
    let fit = sym c.counts_fit.ensures ∙ not-false _ c.if-not-counts_fit.false-raw in
    let one = sym c.in_ok-store_question.ensures in
    let v = at a.run.now in
    let x = at a.store.now in
    let asked = r ∙ feed-late a.self n m v x fit one (λ e. (number-some _) (r ∙ e)) in
    let p = (feed-also a.self n m x v (feed-no a.self _ _ _ _ asked (number-some _) (λ e. row-14 a.self n m v x (sym r ∙ e)))) in
    let e = handed-on c.from_residual-in_err-row_question.result c.from_residual-in_err-row_question.ensures.1 in
    record { answer = ap of_fed e ∙ p.0; kept = p.1.0; meaning = rw e p.1.1 }

pub completes-complete-requires : goal.completes-complete-requires
completes-complete-requires c =
    let one = store_in _ _ (sym c.counts_fit.ensures ∙ not-false _ c.if-not-counts_fit.false-raw)
    (sym c.in_ok-store_question.ensures) in
    let two = row-asked _ _ _ (sym c.in_ok-row_question.ensures) in
    (one.0, c.next_of-next.ensures, omega (arith, c.next_of-next.ensures.spot.level, two.0))

pub feed_row-requires : goal.feed_row-requires
feed_row-requires c =
    let one = store_in _ _ (sym c.counts_fit.ensures ∙ not-false _ c.if-not-counts_fit.false-raw)
    (sym c.in_ok-store_question.ensures) in
    let two = row-asked _ _ _ (sym c.in_ok-row_question.ensures) in
    (one.0, c.next_of-next.ensures, omega (arith, c.next_of-next.ensures.spot.level, two.0), c.completes-complete.ensures, one.1, two.1)

pub spot_fed-requires : goal.spot_fed-requires
spot_fed-requires c =
    let one = store_in _ _ (sym c.counts_fit.ensures ∙ not-false _ c.if-not-counts_fit.false-raw)
    (sym c.in_ok-store_question.ensures) in
    let two = row-asked _ _ _ (sym c.in_ok-row_question.ensures) in
    (one.0, c.next_of-next.ensures, omega (arith, c.next_of-next.ensures.spot.level, two.0), c.completes-complete.ensures)

pub moved-requires : goal.moved-requires
moved-requires c =
    let s = c.args.self in
    let one = store_in s _ (sym c.counts_fit.ensures ∙ not-false _ c.if-not-counts_fit.false-raw)
    (sym c.in_ok-store_question.ensures) in
    let deep = fed-level s.filter (columns s) (rows s) s.levels (state.next s).level (state.next s).set (state.next s).band
    (omega (arith, (near s).within, one.0.at)) in
    (counts-small s one.0, omega (arith, deep, c.spot_fed.ensures.level, one.0.few))

pub shape_of-store-then-feed_row : goal.shape_of-store-then-feed_row
shape_of-store-then-feed_row c = c.feed_row.auto.store

pub returns-then-feed_row : goal.returns-then-feed_row
returns-then-feed_row c =
    let a = c.args in
    let n = length a.store.now in
    let m = length a.run.now in
    let fit = sym c.counts_fit.ensures ∙ not-false _ c.if-not-counts_fit.false-raw in
    let one = sym c.in_ok-store_question.ensures in
    let two = sym c.in_ok-row_question.ensures in
    let made = told-yes c.feed_row.result (at c.feed_row.new.store) _ c.feed_row.ensures.store_after c.if-feed_row.true in
    let v = at a.run.now in
    let x = at a.store.now in
    let goes = fed-reader a.self c.moved.result c.spot_fed.result c.spot_fed.ensures c.moved.ensures in
    answer-kept-meaning (feed-also a.self n m x v (feed-yes a.self _ _ _ _ _ (fits-yes _ _ made ∙ feed-last a.self n m v x fit one two) goes made))

pub ending-requires : goal.ending-requires
ending-requires c =
    let one = store_in _ _ (sym c.counts_fit.ensures ∙ not-false _ c.if-not-counts_fit.false-raw)
    (sym c.in_ok-store_question.ensures) in
    (one.0, le_trans one.3 (le_of_eq (sym c.feed_row.auto.store)))

pub shape_of-store : goal.shape_of-store
shape_of-store c = c.ending.auto.store ∙ c.feed_row.auto.store

pub returns : goal.returns
returns c =
    let a = c.args in
    let s = a.self in
    let n = length a.store.now in
    let m = length a.run.now in
    let fit = sym c.counts_fit.ensures ∙ not-false _ c.if-not-counts_fit.false-raw in
    let one = sym c.in_ok-store_question.ensures in
    let two = sym c.in_ok-row_question.ensures in
    let y = at c.feed_row.new.store in
    let made = told-no c.feed_row.result y _ c.feed_row.ensures.store_after c.if-feed_row.false in
    let v = at a.run.now in
    let x = at a.store.now in
    let zeros = zero-kept (store_by s.filter (columns s) s.levels) (needs s) x y _ (omega arith) c.feed_row.ensures.kept
    c.ending.ensures.store_after in
    answer-kept-meaning (feed-also a.self n m x v (feed-end s _ _ _ _ _ (fits-no _ made ∙ feed-last s n m v x fit one two) c.ending.ensures.value zeros))
