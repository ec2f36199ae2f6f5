-- `clear` meets its contract: what no question turns away has the marks without that of the reader. Assumes nothing.
use mathlib.Core.Path.{refl, sym, ap, ◌∙◌}
use native.Mathlib.Omega.{arith}
use Rattle.calls.specs.Lists.{unless}
use Rattle.refusal.proofs.Laws.{number-some, handed-on}
use Rattle.turns.specs.Answers.{of_changed}
use Rattle.turns.specs.Calls.{change_question, clear_reply}
use Rattle.turns.proofs.CallLaws.{yes-change, ranges, turned-by, passed-by}
use Rattle.turns.proofs.Turns.clear.Goals as goal

pub returns-in_err-change_question : goal.returns-in_err-change_question
unfolding clear_reply
returns-in_err-change_question c =
    ap of_changed (handed-on c.from_residual.result c.from_residual.ensures.1) ∙ turned-by _ _ _ c.in_err-change_question.ensures (number-some _)

pub without_mark-requires : goal.without_mark-requires
without_mark-requires c =
    let yes = yes-change _ _ (sym c.in_ok-change_question.ensures) in
    let r = ranges _ yes.0 in
    (omega (arith, yes.1), r.0)

pub returns : goal.returns
unfolding clear_reply
returns c =
    let s = c.args.self in
    passed-by _ _ _ c.in_ok-change_question.ensures refl
    ∙ ap (λ m. unless (change_question s c.args.reader) (record { marks = m; last = s.last })) c.without_mark.ensures
