-- `Loader::set_up` meets its contract: the questions, then the reader's own. Assumes nothing.
use mathlib.Core.Path.{sym, ap, ◌∙◌}
use lib.ListN.{length}
use Rattle.numbers.specs.Signal.{at}
use Rattle.std.proofs.lemmas.Result.{err_from_is_err_and}
use Rattle.refusal.proofs.Laws.{number-some}
use Rattle.ground_loader.specs.LoaderAnswers.{begun_by}
use Rattle.ground_loader.proofs.CallLaws.{up-no, up_step, up_strict}
use Rattle.ground_loader.proofs.Clauses.{result_value-store_after}
use Rattle.ground_loader.proofs.loader.Loader.set_up.Goals as goal

pub returns-in_err-set_up_question : goal.returns-in_err-set_up_question
returns-in_err-set_up_question c =
    let a = c.args in
    let p = err_from_is_err_and c.from_residual.result c.from_residual.ensures.1 in
    rw (p.1, p.2) (result_value-store_after (up-no a.map a.step (length a.store.now) (at a.store.now) _ c.in_err-set_up_question.ensures (number-some _)))

pub returns-then-step-gt1 : goal.returns-then-step-gt1
returns-then-step-gt1 c =
    result_value-store_after (up_step _ _ _ _ (sym c.in_ok-set_up_question.ensures) c.if-step-gt1.true)

pub returns : goal.returns
returns c =
    let a = c.args in
    result_value-store_after (up_strict a.map a.step _ _ (sym c.in_ok-set_up_question.ensures) _ _ c.if-step-gt1.false
    (c.by_reader.ensures ∙ ap (begun_by a.step) c.set_up.ensures.answer) c.set_up.ensures.kept)
