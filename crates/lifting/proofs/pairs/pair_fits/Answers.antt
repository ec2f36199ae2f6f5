-- `lifting::pairs::pair-fits` meets its contract: the definition by what each call answered. Assumes nothing.
use mathlib.Core.Path.{sym, ◌∙◌}
use borrow.Author.Tests.{eq-eqb, ne_eqb}
use Rattle.lifting.specs.Pairs.{pair_fits}
use Rattle.lifting.proofs.pairs.pair_fits.Goals as goal

pub returns-then-pair : goal.returns-then-pair
unfolding pair_fits
returns-then-pair c = simp (eq-eqb _ _ c.if-pair.true)

pub returns-then-rows_fit : goal.returns-then-rows_fit
unfolding pair_fits
returns-then-rows_fit c =
    simp (ne_eqb _ _ c.if-pair.false, sym c.rows_fit.ensures ∙ c.if-rows_fit.true) c.row_fits.ensures

pub returns : goal.returns
unfolding pair_fits
returns c = simp (ne_eqb _ _ c.if-pair.false, sym c.rows_fit.ensures ∙ c.if-rows_fit.false)
