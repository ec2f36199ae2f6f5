-- `reader::questions::stop_question` meets its contract: the sizes, the stop, then the store. Assumes nothing.
use Rattle.std.proofs.Common.{sym, ap, ◌∙◌}
use Rattle.lifting.specs.Grid.{side}
use Rattle.refusal.specs.Numbers.{answer}
use Rattle.refusal.proofs.Laws.{number-some, handed-on}
use Rattle.reader.proofs.QuestionLaws.{stop-sizes, stop-level, stop-room}
use Rattle.reader.proofs.questions.stop_question.Goals as goal

pub returns-in_err-size_question : goal.returns-in_err-size_question
returns-in_err-size_question c =
    let m = c.args.map in
    ap answer (handed-on c.from_residual.result c.from_residual.ensures.1)
    ∙ stop-sizes m.filter (side m.x m.width) (side m.y m.height) m.levels c.args.stop c.args.length _ c.in_err-size_question.ensures (number-some _)

pub returns-in_err-level_question : goal.returns-in_err-level_question
returns-in_err-level_question c =
    let m = c.args.map in
    ap answer (handed-on c.from_residual-in_err-level_question.result c.from_residual-in_err-level_question.ensures.1)
    ∙ stop-level m.filter (side m.x m.width) (side m.y m.height) m.levels c.args.stop c.args.length (sym c.in_ok-size_question.ensures) _ c.in_err-level_question.ensures (number-some _)

pub returns : goal.returns
returns c =
    let m = c.args.map in
    c.room_question.ensures
    ∙ stop-room m.filter (side m.x m.width) (side m.y m.height) m.levels c.args.stop c.args.length (sym c.in_ok-size_question.ensures)
    c.in_ok-level_question.ensures
