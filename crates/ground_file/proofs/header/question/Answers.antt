-- `header::question` meets its contract: the questions in their order. Assumes nothing.
use mathlib.Core.Path.{sym, ◌∙◌}
use borrow.Author.Tests.{not-true, not-false}
use Rattle.ground_file.proofs.HeaderLaws.{header-other, header-rounded, header-set-up}
use Rattle.ground_file.proofs.header.question.Goals as goal

pub is_header-requires : goal.is_header-requires
is_header-requires c = c.requires.0

pub returns-then-not-is_header : goal.returns-then-not-is_header
returns-then-not-is_header c =
    header-other c.args.bytes.now c.requires.0 (sym c.is_header.ensures ∙ not-true _ c.if-not-is_header.true-raw)

pub returns-then-not-is_roundable : goal.returns-then-not-is_roundable
returns-then-not-is_roundable c =
    header-rounded c.args.bytes.now c.requires.0 (sym c.is_header.ensures ∙ not-false _ c.if-not-is_header.false-raw) c.args.head.shape c.args.head.step c.requires.1
    c.requires.2 (sym c.is_roundable.ensures ∙ not-true _ c.if-not-is_roundable.true-raw)

pub returns : goal.returns
returns c =
    c.set_up_question.ensures
    ∙ header-set-up c.args.bytes.now c.requires.0 (sym c.is_header.ensures ∙ not-false _ c.if-not-is_header.false-raw) c.args.head.shape c.args.head.step
    c.requires.1 c.requires.2 (sym c.is_roundable.ensures ∙ not-false _ c.if-not-is_roundable.false-raw)
