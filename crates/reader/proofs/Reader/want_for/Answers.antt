-- `reader::Reader::want_for` meets its contract: a height row can be drawn, or a row is wanted. Assumes nothing.
use mathlib.Core.Path.{ap}
use native.Mathlib.Omega.{arith}
use Rattle.reader.specs.Answers.{gives}
use Rattle.reader.proofs.CallLaws.{wants-draw, wants-row}
use Rattle.reader.proofs.StepLaws.{level-fits}
use Rattle.reader.proofs.Reader.want_for.Goals as goal

pub overflow_add-level : goal.overflow_add-level
overflow_add-level c =
    let p = c.requires in
    level-fits c.args.self c.args.n.spot p.3 p.0.spot

pub returns-then-n-eq0 : goal.returns-then-n-eq0
returns-then-n-eq0 c =
    ap gives (wants-draw c.args.self c.args.n.spot c.requires.0.spot c.requires.1 c.requires.2 c.if-n-eq0.true)

pub row_number-requires : goal.row_number-requires
row_number-requires c = (c.requires.0, omega arith)

pub row_length-requires : goal.row_length-requires
row_length-requires c = (c.requires.0, omega arith)

pub returns : goal.returns
returns c =
    ap gives (wants-row c.args.self c.args.n.spot c.requires.0.spot c.requires.1 c.requires.2 _ _ (omega arith)
    c.row_number.ensures c.row_length.ensures)
