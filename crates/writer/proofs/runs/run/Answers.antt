-- `runs::run` meets its contract: the questions, and what the turns come to. Assumes nothing.
use mathlib.Core.Path.{◌≡◌, refl, sym, ap, ◌∙◌}
use native.Mathlib.Omega.{arith}
use lib.ListN.{length}
use Rattle.numbers.specs.Signal.{at}
use Rattle.calls.specs.Lists.{gives, seen}
use Rattle.writer.specs.RunSteps.{run_at}
use Rattle.std.proofs.lemmas.Result.{err_from_is_err_and}
use Rattle.writer.proofs.CallLaws.{number-past}
use Rattle.writer.specs.Runs.{Run, run_question, run_reply, progress, left_by}
use Rattle.writer.proofs.RunSets.{run-refused, run-idle, run_none, run-went}
use Rattle.writer.proofs.runs.run.Goals as goal
use Rattle.writer.proofs.runs.run.Goals.{then-nothing_done+in_ok-idle, else-nothing_done}

pub returns-in_err-run_question : goal.returns-in_err-run_question
returns-in_err-run_question c = let a = c.args in
    let p = err_from_is_err_and c.from_residual.result c.from_residual.ensures.1 in
    let e = run-refused a.s (length a.store.now) a.heights.now (length a.out.now) (at a.store.now) (at a.out.now) a.names.now _
    c.in_err-run_question.ensures (number-past _) in
    rw (p.1, p.2) (record { result_value = sym (ap (seen progress) e); store_after = sym (ap (left_by (λ p. p.world.store) (at a.store.now)) e); out_after = sym (ap (left_by (λ p. p.area) (at a.out.now)) e); names_after = sym (ap (left_by (λ p. p.names) a.names.now) e) })

pub go-t-requires : goal.go-t-requires
go-t-requires c = let a = c.args in
    let q : run_question a.s (length a.store.now) (length a.heights.now) ≡ 0 = sym c.in_ok-run_question.ensures in
    q

pub shape_of-store-in_err-idle : goal.shape_of-store-in_err-idle
shape_of-store-in_err-idle c = c.go-t.auto.store

pub shape_of-out-in_err-idle : goal.shape_of-out-in_err-idle
shape_of-out-in_err-idle c = c.go-t.auto.out

pub shape_of-names-in_err-idle : goal.shape_of-names-in_err-idle
shape_of-names-in_err-idle c = c.go-t.auto.names

pub returns-in_err-idle : goal.returns-in_err-idle
returns-in_err-idle c = let a = c.args in
    let p = err_from_is_err_and c.from_residual-in_err-idle.result c.from_residual-in_err-idle.ensures.1 in
    let q : run_question a.s (length a.store.now) (length a.heights.now) ≡ 0 = sym c.in_ok-run_question.ensures in
    let e = run-idle a.s (length a.store.now) a.heights.now (length a.out.now) (at a.store.now) (at a.out.now) a.names.now _
    c.go-t.ensures q _ c.in_err-idle.ensures _ c.nothing_done.ensures c.if-nothing_done.true (number-past _) in
    rw (p.1, p.2) (record { result_value = sym (ap (seen progress) e.0); store_after = ap (λ (r : Run). r.world.store) e.1 ∙ sym (ap (left_by (λ p. p.world.store) (at a.store.now)) e.0); out_after = ap (λ (r : Run). r.area) e.1 ∙ sym (ap (left_by (λ p. p.area) (at a.out.now)) e.0); names_after = ap (λ (r : Run). r.names) e.1 ∙ sym (ap (left_by (λ p. p.names) a.names.now) e.0) })

pub returns : goal.returns
returns c = let a = c.args in
    let q : run_question a.s (length a.store.now) (length a.heights.now) ≡ 0 = sym c.in_ok-run_question.ensures in
    let t = c.go-t in
    let e : run_reply a.s (length a.store.now) a.heights.now (length a.out.now) (at a.store.now) (at a.out.now) a.names.now
    ≡ gives (run_at t.result.done t.result.writer (at t.new.store) (at t.new.out) t.new.names) = elim c.if-nothing_done.branch [
      | then-nothing_done+in_ok-idle w ↦ run_none a.s (length a.store.now) a.heights.now (length a.out.now) (at a.store.now) (at a.out.now) a.names.now _
          c.go-t.ensures q _ w.in_ok-idle.ensures _ c.nothing_done.ensures w.if-nothing_done.true refl
      | else-nothing_done w ↦ run-went a.s (length a.store.now) a.heights.now (length a.out.now) (at a.store.now) (at a.out.now) a.names.now _
          c.go-t.ensures q _ c.nothing_done.ensures w.if-nothing_done.false
    ] in
    record { result_value = sym (ap (seen progress) e); store_after = sym (ap (left_by (λ p. p.world.store) (at a.store.now)) e); out_after = sym (ap (left_by (λ p. p.area) (at a.out.now)) e); names_after = sym (ap (left_by (λ p. p.names) a.names.now) e) }
