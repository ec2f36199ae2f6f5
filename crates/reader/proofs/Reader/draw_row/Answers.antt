-- `reader::Reader::draw_row` meets its contract: refused by a question, or nothing, or drawn, or ended. Assumes nothing.
use mathlib.Core.Path.{ap, ◌∙◌, sym}
use native.Mathlib.Nat.{le_trans, le_of_eq}
use native.Mathlib.Omega.{arith}
use lib.ListN.{length}
use borrow.Author.Tests.{not-true, not-false}
use Rattle.numbers.specs.Signal.{at}
use Rattle.areas.specs.Areas.{heights_at}
use Rattle.level.proofs.WorkLaws.{told-no, told-yes}
use Rattle.filters.specs.Figures.{store_by}
use Rattle.reader.specs.State.{columns, needs}
use Rattle.reader.proofs.QuestionLaws.{counts-in, store_in, due_in}
use Rattle.reader.proofs.CallLaws.{store-14, draw-1, draw-early, draw-none, draw-12, draw-last, draw-no, draw-nothing, draw-yes, draw-end, fits-yes}
use Rattle.reader.proofs.CallLaws.{fits-no}
use Rattle.reader.proofs.CallLaws.{zero-kept}
use Rattle.reader.proofs.Keeps.{draw-also}
use Rattle.reader.proofs.Clauses.{answer-kept-heights-meaning}
use Rattle.reader.specs.Answers.{of_drawn}
use Rattle.refusal.proofs.Laws.{number-some, handed-on}
use Rattle.reader.proofs.Reader.draw_row.Goals as goal

pub returns-then-not-counts_fit : goal.returns-then-not-counts_fit
returns-then-not-counts_fit c =
    let a = c.args in
    let n = length a.store.now in
    let m = length a.out.now in
    let x = at a.store.now in
    answer-kept-heights-meaning (draw-also a.self n m x (heights_at a.out.now) (draw-no a.self _ _ _ 1
    (draw-1 a.self n m x (sym c.counts_fit.ensures ∙ not-true _ c.if-not-counts_fit.true-raw)) (omega arith) (omega arith)))

pub store_question-requires : goal.store_question-requires
store_question-requires c = counts-in _ (sym c.counts_fit.ensures ∙ not-false _ c.if-not-counts_fit.false-raw)

pub returns-in_err-store_question : goal.returns-in_err-store_question
returns-in_err-store_question c =
    let q = c.in_err-store_question.ensures in
    let fit = sym c.counts_fit.ensures ∙ not-false _ c.if-not-counts_fit.false-raw in
    let a = c.args in
    let n = length a.store.now in
    let m = length a.out.now in
    let p = (draw-also a.self (length a.store.now) (length a.out.now) (at a.store.now) (heights_at a.out.now)
    (draw-no a.self _ _ _ _ (q ∙ draw-early a.self n m (at a.store.now) fit (λ e. (number-some _) (q ∙ e))) (number-some _)
    (λ e. store-14 a.self n m (at a.store.now) (at a.store.now) (sym q ∙ e)))) in
    let e = handed-on c.from_residual.result c.from_residual.ensures.1 in
    record { answer = ap of_drawn e ∙ p.0; kept = p.1.0; heights = p.1.1.0; meaning = rw e p.1.1.1 }

pub draw_due-requires : goal.draw_due-requires
draw_due-requires c = (store_in _ _ (sym c.counts_fit.ensures ∙ not-false _ c.if-not-counts_fit.false-raw)
    (sym c.in_ok-store_question.ensures)).0

pub returns-then-not-draw_due : goal.returns-then-not-draw_due
returns-then-not-draw_due c =
    let a = c.args in
    let none = sym c.draw_due.ensures ∙ not-true _ c.if-not-draw_due.true-raw in
    let fit = sym c.counts_fit.ensures ∙ not-false _ c.if-not-counts_fit.false-raw in
    let one = sym c.in_ok-store_question.ensures in
    answer-kept-heights-meaning (draw-also a.self (length a.store.now) (length a.out.now) (at a.store.now) (heights_at a.out.now)
    (draw-nothing a.self _ _ _ (draw-none a.self (length a.store.now) (length a.out.now) (at a.store.now) fit one none) none))

pub returns-then-out-self : goal.returns-then-out-self
returns-then-out-self c =
    let a = c.args in
    let fit = sym c.counts_fit.ensures ∙ not-false _ c.if-not-counts_fit.false-raw in
    let one = sym c.in_ok-store_question.ensures in
    answer-kept-heights-meaning (draw-also a.self (length a.store.now) (length a.out.now) (at a.store.now) (heights_at a.out.now)
    (draw-no a.self _ _ _ 12 (draw-12 a.self (length a.store.now) (length a.out.now) (at a.store.now) fit one
    (sym c.draw_due.ensures ∙ not-false _ c.if-not-draw_due.false-raw) c.if-out-self.true) (omega arith) (omega arith)))

pub work_all_due-requires : goal.work_all_due-requires
work_all_due-requires c =
    let one = store_in _ _ (sym c.counts_fit.ensures ∙ not-false _ c.if-not-counts_fit.false-raw)
    (sym c.in_ok-store_question.ensures) in
    (one.0, sym (due_in _ (sym c.draw_due.ensures ∙ not-false _ c.if-not-draw_due.false-raw)).1, one.1)

pub hand_out-requires : goal.hand_out-requires
hand_out-requires c =
    let one = store_in _ _ (sym c.counts_fit.ensures ∙ not-false _ c.if-not-counts_fit.false-raw)
    (sym c.in_ok-store_question.ensures) in
    let draws = due_in _ (sym c.draw_due.ensures ∙ not-false _ c.if-not-draw_due.false-raw) in
    (one.0, draws.0, le_trans one.1 (le_of_eq (sym c.work_all_due.auto.store)), c.if-out-self.false)

pub shape_of-store-then-work_all_due : goal.shape_of-store-then-work_all_due
shape_of-store-then-work_all_due c = c.work_all_due.auto.store

pub shape_of-out-then-work_all_due : goal.shape_of-out-then-work_all_due
shape_of-out-then-work_all_due c = c.hand_out.auto.out

pub returns-then-work_all_due : goal.returns-then-work_all_due
returns-then-work_all_due c =
    let a = c.args in
    let s = a.self in
    let n = length a.store.now in
    let m = length a.out.now in
    let x = at a.store.now in
    let fit = sym c.counts_fit.ensures ∙ not-false _ c.if-not-counts_fit.false-raw in
    let one = sym c.in_ok-store_question.ensures in
    let is-due = sym c.draw_due.ensures ∙ not-false _ c.if-not-draw_due.false-raw in
    let made = told-yes c.work_all_due.result (at c.work_all_due.new.store) _ c.work_all_due.ensures.store_after c.if-work_all_due.true in
    answer-kept-heights-meaning (draw-also s n m x (heights_at a.out.now)
    (draw-yes s _ x (heights_at a.out.now) c.hand_out.result (at c.work_all_due.new.store) _
    (fits-yes _ _ made ∙ draw-last s n m x fit one is-due c.if-out-self.false) is-due c.hand_out.ensures.value made c.hand_out.ensures.out_after))

pub ending-requires : goal.ending-requires
ending-requires c =
    let one = store_in _ _ (sym c.counts_fit.ensures ∙ not-false _ c.if-not-counts_fit.false-raw)
    (sym c.in_ok-store_question.ensures) in
    (one.0, le_trans one.3 (le_of_eq (sym c.work_all_due.auto.store)))

pub shape_of-store : goal.shape_of-store
shape_of-store c = c.ending.auto.store ∙ c.work_all_due.auto.store

pub returns : goal.returns
returns c =
    let a = c.args in
    let s = a.self in
    let n = length a.store.now in
    let m = length a.out.now in
    let x = at a.store.now in
    let y = at c.work_all_due.new.store in
    let fit = sym c.counts_fit.ensures ∙ not-false _ c.if-not-counts_fit.false-raw in
    let one = sym c.in_ok-store_question.ensures in
    let is-due = sym c.draw_due.ensures ∙ not-false _ c.if-not-draw_due.false-raw in
    let made = told-no c.work_all_due.result y _ c.work_all_due.ensures.store_after c.if-work_all_due.false in
    answer-kept-heights-meaning (draw-also s n m x (heights_at a.out.now)
    (draw-end s _ x (heights_at a.out.now) c.ending.result _ (fits-no _ made ∙ draw-last s n m x fit one is-due c.if-out-self.false)
    c.ending.ensures.value (zero-kept (store_by s.filter (columns s) s.levels) (needs s) x y _ (omega arith) c.work_all_due.ensures.kept
    c.ending.ensures.store_after)))
