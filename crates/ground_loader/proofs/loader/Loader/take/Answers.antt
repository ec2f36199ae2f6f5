-- `Loader::take` meets its contract: the questions, then the run. Assumes nothing.
use mathlib.Core.Path.{refl, sym}
use lib.ListN.{length}
use Rattle.std.proofs.lemmas.Result.{err_from_is_err_and}
use Rattle.refusal.proofs.Laws.{number-some}
use Rattle.ground_loader.proofs.CallLaws.{take_no, take-yes, take-sound}
use Rattle.ground_loader.proofs.Clauses.{answer-kept-came}
use Rattle.ground_loader.proofs.loader.Loader.take.Goals as goal

pub returns-in_err-take_question : goal.returns-in_err-take_question
returns-in_err-take_question c =
    let p = err_from_is_err_and c.from_residual.result c.from_residual.ensures.1 in
    rw (p.1, p.2) (answer-kept-came (take_no _ _ _ _ _ c.in_err-take_question.ensures (number-some _)))

pub take_run-requires : goal.take_run-requires
take_run-requires c =
    let a = c.args in
    take-sound a.self (length a.store.now) (length a.row.now) (sym c.in_ok-take_question.ensures)

pub returns : goal.returns
returns c =
    let v = c.take_run.ensures in
    answer-kept-came (take-yes _ _ _ _ _ _ _ _ c.in_ok-take_question.ensures refl v.result_value v.store_after v.row_after)
