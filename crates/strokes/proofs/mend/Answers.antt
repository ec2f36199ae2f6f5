-- `mend` meets its contract: the questions of the whole map, then 19, and then the work. Assumes nothing.
use Rattle.std.proofs.Common.{◌≡◌, Bool, true, false, refl, sym, ap, ◌∙◌, arith}
use Rattle.std.proofs.lemmas.Result.{err_from_is_err_and}
use Rattle.refusal.proofs.Laws.{number-some}
use Rattle.numbers.specs.Signal.{pick}
use Rattle.map_questions.proofs.QuestionLaws.{roomy-is, asked-on, asked-no, passed-no, passed-yes}
use Rattle.strokes.specs.Strokes.{lies_in, mend_question}
use Rattle.strokes.proofs.mend.Goals as goal

pub returns-in_err-size_question : goal.returns-in_err-size_question
unfolding mend_question
returns-in_err-size_question c =
    let p = err_from_is_err_and c.from_residual.result c.from_residual.ensures.1 in
    let q = c.in_err-size_question.ensures in
    rw (p.1, p.2) (record {
      value = q ∙ sym (asked-no _ _ _ _ _ _ _ _ (λ e. number-some _ (q ∙ e)));
      plane_after = passed-no _ _ _ _ (number-some _);
      work_after = passed-no _ _ _ _ (number-some _);
    })

pub returns-then-not-lies_in : goal.returns-then-not-lies_in
unfolding mend_question
returns-then-not-lies_in c =
    let no : lies_in c.args.rectangle c.args.width c.args.height ≡ false = sym c.lies_in.ensures ∙ c.if-not-lies_in.true in
    record {
      value = sym (asked-on _ _ _ _ _ _ _ _ (sym c.in_ok-size_question.ensures) ∙ ap (λ (b : Bool). pick b 0 19) no);
      plane_after = passed-no _ _ _ 19 (λ e. omega (arith, e));
      work_after = passed-no _ _ _ 19 (λ e. omega (arith, e));
    }

pub mend_map-requires : goal.mend_map-requires
mend_map-requires c =
    let r = roomy-is _ _ _ _ _ _ _ (sym c.in_ok-size_question.ensures) in
    (r.size, r.first, r.second, r.third, sym c.lies_in.ensures ∙ c.if-not-lies_in.false)

pub returns : goal.returns
unfolding mend_question
returns c =
    let yes-in : lies_in c.args.rectangle c.args.width c.args.height ≡ true = sym c.lies_in.ensures ∙ c.if-not-lies_in.false in
    record {
      value = sym (asked-on _ _ _ _ _ _ _ _ (sym c.in_ok-size_question.ensures) ∙ ap (λ (b : Bool). pick b 0 19) yes-in);
      plane_after = c.mend_map.ensures.plane_after ∙ sym (passed-yes _ _ _ 0 refl);
      work_after = c.mend_map.ensures.work_after ∙ sym (passed-yes _ _ _ 0 refl);
    }
