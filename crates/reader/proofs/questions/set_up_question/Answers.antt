-- `reader::questions::set_up_question` meets its contract: the sizes, then the store. Assumes nothing.
use Rattle.std.proofs.Common.{sym, ap, ◌∙◌}
use Rattle.lifting.specs.Grid.{side}
use Rattle.refusal.specs.Numbers.{answer}
use Rattle.refusal.proofs.Laws.{number-some, handed-on}
use Rattle.reader.proofs.QuestionLaws.{up-sizes, up-room}
use Rattle.reader.proofs.questions.set_up_question.Goals as goal

pub returns-in_err-size_question : goal.returns-in_err-size_question
returns-in_err-size_question c =
    let m = c.args.map in
    ap answer (handed-on c.from_residual.result c.from_residual.ensures.1)
    ∙ up-sizes m.filter (side m.x m.width) (side m.y m.height) m.levels 0 c.args.length _ c.in_err-size_question.ensures (number-some _)

pub returns : goal.returns
returns c =
    let m = c.args.map in
    c.room_question.ensures ∙ up-room m.filter (side m.x m.width) (side m.y m.height) m.levels 0 c.args.length (sym c.in_ok-size_question.ensures)
