-- `runs::run_question` meets its contract: the questions in the definition's order. Assumes nothing.
use mathlib.Core.Path.{◌≡◌, sym, ◌∙◌}
use mathlib.Core.Bool.{true, false, not}
use Prim.Native.Nat.{ℕ, ◌<◌}
use native.Mathlib.Omega.{arith}
use lib.Dec.{eqb}
use borrow.Author.Tests.{eq-eqb, ne_eqb}
use Rattle.wavelet.specs.Questions.{ask}
use Rattle.writer.specs.declared.Writer.{Writer}
use Rattle.writer.specs.Questions.{either}
use Rattle.writer.specs.FirstQuestions.{state_question}
use Rattle.writer.specs.Runs.{run_question}
use Rattle.std.proofs.lemmas.Result.{err_from_is_err_and}
use Rattle.refusal.proofs.Laws.{number-some}
use Rattle.writer.proofs.QuestionLaws.{state-no, state-yes}
use Rattle.writer.proofs.runs.run_question.Goals as goal
use Rattle.writer.proofs.runs.run_question.Goals.{else-k-gt0-via-else-k-gt0, else-k-gt0-via-then-k-gt0+else-s}

module _ (s : Writer) (n k : ℕ) where
  turned : (state_question s n ≡ 0 → ⊥) → state_question s n ≡ run_question s n k
  unfolding run_question
  turned h = sym (state-no s n _ h)

  last : state_question s n ≡ 0 → run_question s n k ≡ ask (either (eqb k 0) (not s.finished)) 9 0
  unfolding run_question
  last h = state-yes s n _ h

  empty : state_question s n ≡ 0 → k ≡ 0 → 0 ≡ run_question s n k
  empty h e = sym (last h ∙ simp (eq-eqb k 0 e))

  over : state_question s n ≡ 0 → 0 < k → s.finished ≡ true → 9 ≡ run_question s n k
  over h g e = sym (last h ∙ simp (ne_eqb k 0 (omega arith), e))

  unfinished : state_question s n ≡ 0 → 0 < k → s.finished ≡ false → 0 ≡ run_question s n k
  unfinished h g e = sym (last h ∙ simp (ne_eqb k 0 (omega arith), e))

pub returns-in_err-state_question : goal.returns-in_err-state_question
returns-in_err-state_question c =
    let p = err_from_is_err_and c.from_residual.result c.from_residual.ensures.1 in
    let e = c.in_err-state_question.ensures in
    rw (p.1, p.2) (e ∙ turned _ _ _ (λ z. number-some _ (e ∙ z)))

pub returns-then-s : goal.returns-then-s
returns-then-s c = over _ _ _ (sym c.in_ok-state_question.ensures) (omega arith) c.if-s.true

pub returns : goal.returns
returns c =
    let h = sym c.in_ok-state_question.ensures in
    elim c.else-k-gt0.branch [
      | else-k-gt0-via-else-k-gt0 w ↦ empty _ _ _ h (omega arith)
      | else-k-gt0-via-then-k-gt0+else-s w ↦ unfinished _ _ _ h (omega arith) w.if-s.false
    ]
