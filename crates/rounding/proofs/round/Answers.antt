-- `round` meets its contract: the questions, and then the rows. Assumes nothing.
use Rattle.std.proofs.Common.{refl, sym, ◌∙◌}
use Rattle.std.proofs.lemmas.Result.{err_from_is_err_and}
use Rattle.refusal.proofs.Laws.{number-some}
use Rattle.map_questions.proofs.QuestionLaws.{passed-no, passed-yes}
use Rattle.rounding.proofs.CallLaws.{passes}
use Rattle.rounding.proofs.round.Goals as goal

pub returns-in_err-question : goal.returns-in_err-question
returns-in_err-question c =
    let p = err_from_is_err_and c.from_residual.result c.from_residual.ensures.1 in
    rw (p.1, p.2) (record { value = c.in_err-question.ensures; plane_after = passed-no _ _ _ _ (number-some _) })

pub round_rows-requires : goal.round_rows-requires
round_rows-requires c =
    let a = c.args in
    passes a.width a.height a.levels a.step _ (sym c.in_ok-question.ensures)

pub returns : goal.returns
returns c = record { value = c.in_ok-question.ensures; plane_after = c.round_rows.ensures ∙ sym (passed-yes _ _ _ 0 refl) }
