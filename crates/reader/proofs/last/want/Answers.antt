-- `reader::last::want` meets its contract: the definition's tests, in its order. Assumes nothing.
use mathlib.Core.Path.{sym, ◌∙◌}
use native.Mathlib.Omega.{arith}
use borrow.Author.Tests.{not-true, not-false}
use Rattle.reader.proofs.LastLaws.{want-no, want-ended, want-done, want-draw, want-row}
use Rattle.reader.proofs.last.want.Goals as goal

pub returns-then-not-counts_fit : goal.returns-then-not-counts_fit
returns-then-not-counts_fit c = want-no _ (sym c.counts_fit.ensures ∙ not-true _ c.if-not-counts_fit.true-raw)

pub returns-then-s : goal.returns-then-s
returns-then-s c =
    want-ended _ (sym c.counts_fit.ensures ∙ not-false _ c.if-not-counts_fit.false-raw) c.if-s.true

pub returns-then-s-2 : goal.returns-then-s-2
returns-then-s-2 c =
    want-done _ (sym c.counts_fit.ensures ∙ not-false _ c.if-not-counts_fit.false-raw) c.if-s.false c.if-s-2.true

pub returns-then-s-ne0 : goal.returns-then-s-ne0
returns-then-s-ne0 c =
    want-draw _ (sym c.counts_fit.ensures ∙ not-false _ c.if-not-counts_fit.false-raw) c.if-s.false c.if-s-2.false c.if-s-ne0.true

pub returns : goal.returns
returns c =
    want-row _ (sym c.counts_fit.ensures ∙ not-false _ c.if-not-counts_fit.false-raw) c.if-s.false c.if-s-2.false c.if-s-ne0.false
