-- `question` meets its contract: the tests in their order. Assumes nothing.
use Rattle.std.proofs.Common.{sym, ◌∙◌}
use Rattle.std.proofs.lemmas.Result.{err_from_is_err_and}
use borrow.Author.Tests.{not-true, not-false}
use Rattle.refusal.proofs.Laws.{number-some}
use Rattle.rounding.specs.Figure.{max_step}
use Rattle.rounding.proofs.CallLaws.{no_size, product-fits, no_step, no_room, none-no}
use Rattle.rounding.proofs.question.Goals as goal

pub returns-in_err-size_question : goal.returns-in_err-size_question
returns-in_err-size_question c =
    let p = err_from_is_err_and c.from_residual.result c.from_residual.ensures.1 in
    let no = c.in_err-size_question.ensures in
    rw (p.1, p.2) (no ∙ no_size _ _ _ _ _ (λ e. number-some _ (no ∙ e)))

pub returns-then-not-is_within : goal.returns-then-not-is_within
unfolding max_step
returns-then-not-is_within c =
    no_step _ _ _ _ _ (sym c.in_ok-size_question.ensures) (sym c.is_within.ensures ∙ not-true _ c.if-not-is_within.true-raw)

pub overflow_mul-width : goal.overflow_mul-width
overflow_mul-width c =
    let a = c.args in
    record { fits = product-fits a.width a.height a.levels a.step a.n (sym c.in_ok-size_question.ensures) }

pub returns-then-n-width : goal.returns-then-n-width
unfolding max_step
returns-then-n-width c =
    no_room _ _ _ _ _ (sym c.in_ok-size_question.ensures) (sym c.is_within.ensures ∙ not-false _ c.if-not-is_within.false-raw) c.if-n-width.true

pub returns : goal.returns
unfolding max_step
returns c =
    none-no _ _ _ _ _ (sym c.in_ok-size_question.ensures) (sym c.is_within.ensures ∙ not-false _ c.if-not-is_within.false-raw) c.if-n-width.false
