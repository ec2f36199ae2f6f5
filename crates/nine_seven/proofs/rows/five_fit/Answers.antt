-- `nine_seven::rows::five_fit` meets its contract: the definition by what each call answered. Assumes nothing.
use mathlib.Core.Path.{sym, ◌∙◌}
use Rattle.nine_seven.specs.Rows.{five_fit}
use Rattle.nine_seven.proofs.rows.five_fit.Goals as goal

pub returns-then-row_fits : goal.returns-then-row_fits
unfolding five_fit
returns-then-row_fits c =
    simp (
      sym c.rows_fit.ensures ∙ c.if-rows_fit.true,
      sym c.row_fits.ensures ∙ c.if-row_fits.true,
    )
    c.row_fits-then-row_fits.ensures

pub returns-else-row_fits : goal.returns-else-row_fits
unfolding five_fit
returns-else-row_fits c = simp (sym c.rows_fit.ensures ∙ c.if-rows_fit.true, sym c.row_fits.ensures ∙ c.if-row_fits.false)

pub returns-else-rows_fit : goal.returns-else-rows_fit
unfolding five_fit
returns-else-rows_fit c = simp (sym c.rows_fit.ensures ∙ c.if-rows_fit.false)
