-- `unlift_map` meets its contract: the questions of the sizes, and then those of the plane. Assumes nothing.
use mathlib.Core.Path.{sym, ◌∙◌}
use Rattle.std.proofs.lemmas.Result.{err_from_is_err_and}
use Rattle.refusal.proofs.Laws.{number-some}
use Rattle.map_questions.proofs.QuestionLaws.{roomy-is, asked-on, asked-no, never-fourteen, rebuilt-no}
use Rattle.map_levels.proofs.unlift_map.Goals as goal

pub returns-in_err-size_question : goal.returns-in_err-size_question
returns-in_err-size_question c =
    let p = err_from_is_err_and c.from_residual.result c.from_residual.ensures.1 in
    let q = c.in_err-size_question.ensures in
    rw (p.1, p.2) (record {
      value = q ∙ sym (asked-no _ _ _ _ _ _ _ _ (λ e. number-some _ (q ∙ e)));
      heights_after = rebuilt-no _ _ _ _ (number-some _) (λ e. never-fourteen _ _ _ _ _ _ _ (sym q ∙ e));
      work_after = rebuilt-no _ _ _ _ (number-some _) (λ e. never-fourteen _ _ _ _ _ _ _ (sym q ∙ e));
    })

pub restore-requires : goal.restore-requires
restore-requires c =
    let r = roomy-is _ _ _ _ _ _ _ (sym c.in_ok-size_question.ensures) in
    (r.size, r.first, r.second, r.third, r.few)

pub shape_of-heights : goal.shape_of-heights
shape_of-heights c = c.restore.auto.heights

pub shape_of-work : goal.shape_of-work
shape_of-work c = c.restore.auto.work

pub returns : goal.returns
returns c =
    record { value = c.restore.ensures.value ∙ sym (asked-on _ _ _ _ _ _ _ _ (sym c.in_ok-size_question.ensures)); heights_after = c.restore.ensures.heights_after; work_after = c.restore.ensures.work_after }
