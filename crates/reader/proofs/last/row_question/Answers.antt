-- `reader::last::row_question` meets its contract: the definition's tests, in its order. Assumes nothing.
use mathlib.Core.Path.{sym, ◌∙◌}
use native.Mathlib.Omega.{arith}
use borrow.Author.Tests.{not-true, not-false}
use Rattle.reader.proofs.LastLaws.{row-done, row-draw, row-13, row-7, row-0}
use Rattle.reader.proofs.last.row_question.Goals as goal

pub returns-then-s : goal.returns-then-s
returns-then-s c = row-done _ _ _ c.if-s.true

pub returns-then-s-ne0 : goal.returns-then-s-ne0
returns-then-s-ne0 c = row-draw _ _ _ c.if-s.false c.if-s-ne0.true

pub returns-then-run-s : goal.returns-then-run-s
returns-then-run-s c =
    row-13 _ _ _ c.if-s.false c.if-s-ne0.false c.if-run-s.true

pub run_fits-requires : goal.run_fits-requires
run_fits-requires c = c.requires

pub returns-then-not-run_fits : goal.returns-then-not-run_fits
returns-then-not-run_fits c =
    row-7 _ _ _ c.if-s.false c.if-s-ne0.false c.if-run-s.false (sym c.run_fits.ensures ∙ not-true _ c.if-not-run_fits.true-raw)

pub returns : goal.returns
returns c =
    row-0 _ _ _ c.if-s.false c.if-s-ne0.false c.if-run-s.false (sym c.run_fits.ensures ∙ not-false _ c.if-not-run_fits.false-raw)
