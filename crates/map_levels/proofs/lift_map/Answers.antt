-- `lift_map` meets its contract: the questions, and then the transform. Assumes nothing.
use mathlib.Core.Path.{refl, sym, ◌∙◌}
use Rattle.std.proofs.lemmas.Result.{err_from_is_err_and}
use Rattle.refusal.proofs.Laws.{number-some}
use Rattle.map_questions.proofs.QuestionLaws.{roomy-is, passed-no, passed-yes}
use Rattle.map_levels.proofs.lift_map.Goals as goal

pub returns-in_err-size_question : goal.returns-in_err-size_question
returns-in_err-size_question c =
    let p = err_from_is_err_and c.from_residual.result c.from_residual.ensures.1 in
    rw (p.1, p.2) (record {
      value = c.in_err-size_question.ensures;
      plane_after = passed-no _ _ _ _ (number-some _);
      work_after = passed-no _ _ _ _ (number-some _);
    })

pub transform-requires : goal.transform-requires
transform-requires c =
    let r = roomy-is _ _ _ _ _ _ _ (sym c.in_ok-size_question.ensures) in
    (r.size, r.first, r.second, r.third, r.few)

pub shape_of-plane : goal.shape_of-plane
shape_of-plane c = c.transform.auto.plane

pub shape_of-work : goal.shape_of-work
shape_of-work c = c.transform.auto.work

pub returns : goal.returns
returns c =
    record {
      value = c.in_ok-size_question.ensures;
      plane_after = c.transform.ensures.plane_after ∙ sym (passed-yes _ _ _ 0 refl);
      work_after = c.transform.ensures.work_after ∙ sym (passed-yes _ _ _ 0 refl);
    }
