-- `form::head` meets its contract: refused by the first question that says no, else written. Assumes nothing.
use Rattle.std.proofs.lemmas.Result.{err_from_is_err_and}
use mathlib.Core.Path.{sym}
use Rattle.picture.specs.Form.{written}
use Rattle.picture.proofs.FormLaws.{head-no}
use Rattle.picture.proofs.form.head.Goals as goal

pub returns-in_err-head_question : goal.returns-in_err-head_question
returns-in_err-head_question c =
    let p = err_from_is_err_and c.from_residual.result c.from_residual.ensures.1 in
    rw (p.1, p.2) (head-no _ c.in_err-head_question.ensures)

pub returns : goal.returns
returns c = written _ (sym c.in_ok-head_question.ensures) c.put_head.ensures.value c.put_head.ensures.out_after
