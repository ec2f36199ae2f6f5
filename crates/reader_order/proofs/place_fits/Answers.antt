-- `reader_order::place_fits` meets its contract: the test of the sizes, of the level, and the others together. Assumes nothing.
use mathlib.Core.Path.{◌∙◌, sym}
use borrow.Author.Tests.{not-true, not-false}
use Rattle.wavelet.specs.Limits.{max_height}
use Rattle.reader_order.proofs.OrderLaws.{place-no-shape, place-no-level, place-last}
use Rattle.reader_order.proofs.place_fits.Goals as goal

pub returns-then-not-shape_fits : goal.returns-then-not-shape_fits
returns-then-not-shape_fits c =
    let a = c.args in
    place-no-shape a.s a.p (sym c.shape_fits.ensures ∙ not-true _ c.if-not-shape_fits.true-raw)

pub returns-then-not-is_within : goal.returns-then-not-is_within
returns-then-not-is_within c =
    let a = c.args in
    place-no-level a.s a.p (sym c.shape_fits.ensures ∙ not-false _ c.if-not-shape_fits.false-raw) (sym c.is_within.ensures ∙ not-true _ c.if-not-is_within.true-raw)

pub returns : goal.returns
unfolding max_height
returns c =
    let a = c.args in
    place-last a.s a.p (sym c.shape_fits.ensures ∙ not-false _ c.if-not-shape_fits.false-raw) (sym c.is_within.ensures ∙ not-false _ c.if-not-is_within.false-raw)
