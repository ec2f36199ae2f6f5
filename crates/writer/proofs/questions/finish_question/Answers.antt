-- `questions::finish_question` meets its contract: the questions in the definition's order. Assumes nothing.
use Rattle.std.proofs.Common.{◌∙◌, sym, arith}
use Rattle.std.proofs.lemmas.Result.{err_from_is_err_and}
use Rattle.refusal.proofs.Laws.{number-some}
use Rattle.writer.proofs.QuestionLaws.{finish-state, finish-open, finish-none, finish-begun, finish-passes}
use Rattle.writer.proofs.questions.finish_question.Goals as goal
use Rattle.writer.proofs.questions.finish_question.Goals.{then-s-eq0-via-then-s-eq0, then-s-eq0-via-else-s-eq0+then-s-gt0}

pub returns-in_err-state_question : goal.returns-in_err-state_question
returns-in_err-state_question c =
    let p = err_from_is_err_and c.from_residual.result c.from_residual.ensures.1 in
    let e = c.in_err-state_question.ensures in
    rw (p.1, p.2) (e ∙ finish-state _ _ (λ z. number-some _ (e ∙ z)))

pub returns-in_err-open_question : goal.returns-in_err-open_question
returns-in_err-open_question c =
    let p = err_from_is_err_and c.from_residual-in_err-open_question.result c.from_residual-in_err-open_question.ensures.1 in
    let e = c.in_err-open_question.ensures in
    rw (p.1, p.2) (e ∙ finish-open _ _ (sym c.in_ok-state_question.ensures) (λ z. number-some _ (e ∙ z)))

pub returns-then-s-eq0 : goal.returns-then-s-eq0
returns-then-s-eq0 c =
    let h = sym c.in_ok-state_question.ensures in
    let g = sym c.in_ok-open_question.ensures in
    elim c.then-s-eq0.branch [
      | then-s-eq0-via-then-s-eq0 w ↦ finish-none _ _ h g w.if-s-eq0.true
      | then-s-eq0-via-else-s-eq0+then-s-gt0 w ↦ finish-begun _ _ h g (omega arith) w.if-s-gt0.true
    ]

pub returns : goal.returns
returns c = finish-passes _ _ (sym c.in_ok-state_question.ensures) (sym c.in_ok-open_question.ensures) (omega arith) (omega arith)
