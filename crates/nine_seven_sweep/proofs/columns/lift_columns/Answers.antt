-- `columns::lift_columns` meets its contract: the tests, and the sweep. Assumes nothing.
use mathlib.Core.Path.{sym, ◌∙◌}
use native.Mathlib.Omega.{arith}
use borrow.Author.Tests.{not-true, not-false}
use Rattle.lifting.specs.Grid.{side}
use Rattle.areas.proofs.AreaLaws.{went, turned}
use Rattle.nine_seven_sweep.proofs.ShortColumns.{narrow-lifted, fit-rows}
use Rattle.nine_seven_sweep.proofs.Clauses.{answer-area}
use Rattle.nine_seven_sweep.proofs.columns.lift_columns.Goals as goal

pub returns-then-not-columns_fit : goal.returns-then-not-columns_fit
returns-then-not-columns_fit c = answer-area (turned _ _ _ (sym c.columns_fit.ensures ∙ not-true _ c.if-not-columns_fit.true-raw))

pub returns-then-width-eq0 : goal.returns-then-width-eq0
returns-then-width-eq0 c =
    let a = c.args in
    answer-area (went _ _ _ _ (sym c.columns_fit.ensures ∙ not-false _ c.if-not-columns_fit.false-raw)
    (narrow-lifted a.stride a.width (side a.y a.height) _ c.if-width-eq0.true))

pub lift_all-requires : goal.lift_all-requires
lift_all-requires c =
    fit-rows _ _ _ _ (sym c.columns_fit.ensures ∙ not-false _ c.if-not-columns_fit.false-raw) (omega arith)

pub shape_of-area : goal.shape_of-area
shape_of-area c = c.lift_all.auto.area

pub returns : goal.returns
returns c =
    answer-area (went _ _ _ _ (sym c.columns_fit.ensures ∙ not-false _ c.if-not-columns_fit.false-raw) c.lift_all.ensures)
