-- `reader::stops::level_size` meets its contract: the definition's tests, then the two sizes. Assumes nothing.
use Rattle.std.proofs.Common.{sym, ap, ◌∙◌}
use Rattle.reader.specs.Stops.{of_level_size}
use Rattle.refusal.proofs.Laws.{number-some, handed-on}
use Rattle.reader.proofs.QuestionLaws.{level-sizes, level-is}
use Rattle.reader.proofs.SizeLaws.{size-no, size-yes}
use Rattle.reader.proofs.stops.level_size.Goals as goal

pub returns-in_err-size_question : goal.returns-in_err-size_question
returns-in_err-size_question c =
    ap of_level_size (handed-on c.from_residual.result c.from_residual.ensures.1)
    ∙ size-no _ _ _ _ _ (level-sizes _ _ _ _ c.args.level _ c.in_err-size_question.ensures (number-some _)) (number-some _)

pub returns-in_err-level_question : goal.returns-in_err-level_question
returns-in_err-level_question c =
    ap of_level_size (handed-on c.from_residual-in_err-level_question.result c.from_residual-in_err-level_question.ensures.1)
    ∙ size-no _ _ _ _ _ (c.in_err-level_question.ensures ∙ level-is _ _ _ _ _ (sym c.in_ok-size_question.ensures)) (number-some _)

pub returns : goal.returns
returns c =
    size-yes _ _ _ _ _ _ (c.in_ok-level_question.ensures ∙ level-is _ _ _ _ _ (sym c.in_ok-size_question.ensures)) c.size_at.ensures c.size_at-2.ensures
