-- `reader::last::draw` meets its contract: refused by a question, Nothing, or the row that stands in the store limited. Assumes nothing.
use mathlib.Core.Path.{ap, sym, ◌∙◌}
use native.Mathlib.Omega.{arith}
use lib.ListN.{length}
use borrow.Author.Rules.{rules}
use Rattle.numbers.specs.Signal.{at}
use Rattle.areas.specs.Areas.{heights_at}
use Rattle.reader.proofs.LastLaws.{room_in, front-limited, draw-early, draw-done, draw-wanted, draw-12, draw-yes}
use Rattle.reader.proofs.Clauses.{result_value-out_after}
use Rattle.reader.specs.Answers.{of_drawn}
use Rattle.refusal.proofs.Laws.{number-some, handed-on}
use Rattle.reader.proofs.last.draw.Goals as goal

pub returns-in_err-store_question : goal.returns-in_err-store_question
returns-in_err-store_question c =
    let a = c.args in
    let p = (draw-early a.s (length a.store.now) (length a.out.now) (at a.store.now) (heights_at a.out.now) _ c.in_err-store_question.ensures
    (number-some _)) in
    let e = handed-on c.from_residual.result c.from_residual.ensures.1 in
    record { result_value = ap of_drawn e ∙ p.0; out_after = p.1 }

pub returns-then-s : goal.returns-then-s
returns-then-s c =
    let a = c.args in
    result_value-out_after (draw-done a.s (length a.store.now) (length a.out.now) (at a.store.now) (heights_at a.out.now)
    (sym c.in_ok-store_question.ensures) c.if-s.true)

pub returns-then-s-eq0 : goal.returns-then-s-eq0
returns-then-s-eq0 c =
    let a = c.args in
    result_value-out_after (draw-wanted a.s (length a.store.now) (length a.out.now) (at a.store.now) (heights_at a.out.now)
    (sym c.in_ok-store_question.ensures) c.if-s.false c.if-s-eq0.true)

pub returns-then-out-s : goal.returns-then-out-s
returns-then-out-s c =
    let a = c.args in
    result_value-out_after (draw-12 a.s (length a.store.now) (length a.out.now) (at a.store.now) (heights_at a.out.now)
    (sym c.in_ok-store_question.ensures) c.if-s.false c.if-s-eq0.false c.if-out-s.true)

pub slice_bounds-limit_row-end : goal.slice_bounds-limit_row-end
slice_bounds-limit_row-end c =
    room_in _ _ (sym c.in_ok-store_question.ensures)

pub returns : goal.returns
returns c =
    let a = c.args in
    let one = sym c.in_ok-store_question.ensures in
    result_value-out_after (draw-yes a.s (length a.store.now) (length a.out.now) (at a.store.now) (heights_at a.out.now) one c.if-s.false c.if-s-eq0.false
    c.if-out-s.false _ _ c.moved.ensures
    (c.limit_row.ensures ∙ front-limited a.s.width a.store.now (heights_at a.out.now) (room_in a.s _ one)))
