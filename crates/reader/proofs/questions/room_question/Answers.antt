-- `reader::questions::room_question` meets its contract. Assumes nothing.
use Rattle.std.proofs.Common.{ℕ, sym, ap, ◌∙◌, arith}
use borrow.Author.Tests.{lt-leb, le-leb}
use Rattle.lifting.specs.Grid.{side}
use Rattle.wavelet.specs.Questions.{ask}
use Rattle.reader.proofs.QuestionLaws.{asked}
use Rattle.reader.proofs.questions.room_question.Goals as goal

pub returns-then-length-store_length : goal.returns-then-length-store_length
returns-then-length-store_length c =
    let m = c.args.map in
    let n = asked m.filter (side m.x m.width) m.levels in
    rw (lt-leb n c.args.length (omega (arith, c.store_length.ensures)))

pub returns : goal.returns
returns c =
    let m = c.args.map in
    let n = asked m.filter (side m.x m.width) m.levels in
    rw (le-leb n c.args.length (omega (arith, c.store_length.ensures)))
