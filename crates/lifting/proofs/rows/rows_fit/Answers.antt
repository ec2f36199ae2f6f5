-- `lifting::rows::rows-fit` meets its contract: the definition by what each call answered. Assumes nothing.
use mathlib.Core.Path.{sym, ◌∙◌}
use Rattle.lifting.specs.Rows.{rows_fit}
use Rattle.lifting.proofs.rows.rows_fit.Goals as goal

pub returns-then-row_fits-2 : goal.returns-then-row_fits-2
unfolding rows_fit
returns-then-row_fits-2 c =
    simp (
      sym c.row_fits.ensures ∙ c.if-row_fits.true,
      sym c.row_fits-then-row_fits.ensures ∙ c.if-row_fits-2.true,
    )
    c.row_fits-then-row_fits-2.ensures

pub returns-else-row_fits-2 : goal.returns-else-row_fits-2
unfolding rows_fit
returns-else-row_fits-2 c = simp (sym c.row_fits.ensures ∙ c.if-row_fits.true, sym c.row_fits-then-row_fits.ensures ∙ c.if-row_fits-2.false)

pub returns-else-row_fits : goal.returns-else-row_fits
unfolding rows_fit
returns-else-row_fits c = simp (sym c.row_fits.ensures ∙ c.if-row_fits.false)
