-- `questions::offer_question` meets its contract: the questions in the definition's order. Assumes nothing.
use Rattle.std.proofs.Common.{◌≡◌, ◌∙◌, sym, arith}
use Rattle.std.proofs.lemmas.Result.{err_from_is_err_and}
use Rattle.refusal.proofs.Laws.{number-some}
use Rattle.writer.specs.FirstQuestions.{state_question}
use Rattle.writer.proofs.QuestionLaws.{sound, offer-state, offer-finished, offer-limit, offer-passes, offer-empty}
use Rattle.writer.proofs.questions.offer_question.Goals as goal
use Rattle.writer.proofs.questions.offer_question.Goals.{else-k-gt0-via-else-k-gt0, else-k-gt0-via-then-k-gt0+else-is_full}

pub returns-in_err-state_question : goal.returns-in_err-state_question
returns-in_err-state_question c =
    let p = err_from_is_err_and c.from_residual.result c.from_residual.ensures.1 in
    let e = c.in_err-state_question.ensures in
    rw (p.1, p.2) (e ∙ offer-state _ _ _ (λ z. number-some _ (e ∙ z)))

pub returns-then-s : goal.returns-then-s
returns-then-s c = offer-finished _ _ _ (sym c.in_ok-state_question.ensures) c.if-s.true

pub is_full-requires : goal.is_full-requires
is_full-requires c =
    let a = c.args in
    let q : state_question a.s a.n ≡ 0 = sym c.in_ok-state_question.ensures in
    let f = sound a.s a.n q in
    (omega (arith, f.width.0), f.spare, f.rows)

pub returns-then-is_full : goal.returns-then-is_full
returns-then-is_full c =
    offer-limit _ _ _ _ c.is_full.ensures (sym c.in_ok-state_question.ensures) c.if-s.false c.if-k-gt0.true c.if-is_full.true

pub returns : goal.returns
returns c =
    let h = sym c.in_ok-state_question.ensures in
    elim c.else-k-gt0.branch [
      | else-k-gt0-via-else-k-gt0 w ↦ offer-empty _ _ _ h c.if-s.false (omega arith)
      | else-k-gt0-via-then-k-gt0+else-is_full w ↦ offer-passes _ _ _ _ w.is_full.ensures h c.if-s.false w.if-is_full.false
    ]
