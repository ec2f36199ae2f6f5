-- `reader::runs::run` meets its contract: the questions, and what the turns come to. Assumes nothing.
use mathlib.Core.Path.{refl, sym, ap, ◌∙◌}
use native.Mathlib.Omega.{arith}
use lib.ListN.{length}
use Rattle.numbers.specs.Signal.{at}
use Rattle.areas.specs.Areas.{heights_at}
use Rattle.calls.specs.Lists.{gives, seen}
use Rattle.reader.specs.declared.Reader.{Reader}
use Rattle.reader.specs.Runs.{Run, of_ran, progress, left_by, begin}
use Rattle.reader.specs.RunSteps.{reader_at, run_at, told}
use Rattle.reader.proofs.RunOver.{turned-first, turned-next, goes_through, question-fit, question-live, question-deep, question-flat, question-counts}
use Rattle.reader.proofs.RunOver.{over_zero}
use Rattle.refusal.proofs.Laws.{number-some, handed-on}
use Rattle.reader.proofs.runs.run.Goals as goal

pub returns-in_err-run_question : goal.returns-in_err-run_question
returns-in_err-run_question c =
    let a = c.args in
    let e = turned-first a.s (length a.store.now) (length a.run.now) (at a.run.now) (length a.out.now) (at a.store.now)
    (heights_at a.out.now) _ c.in_err-run_question.ensures (number-some _) in
    record { result_value = ap of_ran (handed-on c.from_residual.result c.from_residual.ensures.1) ∙ ap (seen progress) e; store_after = ap (left_by (λ p. p.world.store) (at a.store.now)) e; out_after = ap (left_by (λ p. p.area) (heights_at a.out.now)) e }

pub place_now-requires : goal.place_now-requires
place_now-requires c =
    question-counts _ _ (sym c.in_ok-run_question.ensures)

pub go-t-requires : goal.go-t-requires
go-t-requires c =
    let one = sym c.in_ok-run_question.ensures in
    (question-deep _ _ one, question-flat _ _ one, question-live _ _ one, c.place_now.ensures.0, c.place_now.ensures.1)

pub shape_of-store-in_err-first_no : goal.shape_of-store-in_err-first_no
shape_of-store-in_err-first_no c = c.go-t.auto.store

pub shape_of-out-in_err-first_no : goal.shape_of-out-in_err-first_no
shape_of-out-in_err-first_no c = c.go-t.auto.out

pub returns-in_err-first_no : goal.returns-in_err-first_no
returns-in_err-first_no c =
    let a = c.args in
    let one = sym c.in_ok-run_question.ensures in
    let o = c.go-t.ensures in
    let f = c.in_err-first_no.ensures in
    let w = f.rows_value (number-some _) in
    let none = o.none w.0 w.1 in
    let is = f.value (omega (arith, w.0)) (omega (arith, w.0)) w.1 ∙ none.1 (question-fit _ _ one) in
    let e = turned-next a.s (length a.store.now) (length a.run.now) (at a.run.now) (length a.out.now) (at a.store.now)
    (heights_at a.out.now) one _ is (number-some _) in
    record { result_value = ap of_ran (handed-on c.from_residual-in_err-first_no.result c.from_residual-in_err-first_no.ensures.1) ∙ ap (seen progress) e; store_after = ap (λ (r : Run). r.world.store) none.0 ∙ ap (left_by (λ p. p.world.store) (at a.store.now)) e; out_after = ap (λ (r : Run). r.area) none.0 ∙ ap (left_by (λ p. p.area) (heights_at a.out.now)) e }

pub shape_of-store : goal.shape_of-store
shape_of-store c = c.go-t.auto.store

pub shape_of-out : goal.shape_of-out
shape_of-out c = c.go-t.auto.out

pub returns : goal.returns
returns c =
    let a = c.args in
    let s = a.s in
    let n = length a.store.now in
    let m = length a.run.now in
    let v = at a.run.now in
    let k = length a.out.now in
    let x = at a.store.now in
    let z = heights_at a.out.now in
    let one = sym c.in_ok-run_question.ensures in
    let o = c.go-t.ensures in
    let t = c.go-t.result in
    let r = run_at t.done (reader_at s t.place) (at c.go-t.new.store) (heights_at c.go-t.new.out) in
    let none = over_zero n m v k (begin s x z) r (told t.over) 0 o (question-fit s n one) refl c.in_ok-first_no.ensures.value in
    let e = goes_through s n m v k x z one r o.is none in
    record { result_value = ap (λ (y : Reader). gives (record { used = t.done.used; rows = t.done.rows; reader = y })) c.reader_at.ensures ∙ ap (seen progress) e; store_after = ap (left_by (λ p. p.world.store) x) e; out_after = ap (left_by (λ p. p.area) z) e }
