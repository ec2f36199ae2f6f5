-- `reader_order::next` meets its contract: the search from the place after the row on. Assumes nothing.
use mathlib.Core.Path.{◌∙◌, sym, ap}
use native.Mathlib.Omega.{arith}
use borrow.Author.Tests.{not-true, not-false}
use Rattle.wavelet.proofs.LimitLaws.{height-small}
use Rattle.reader_order.specs.Order.{seek}
use Rattle.reader_order.proofs.WalkLaws.{spot_of}
use Rattle.reader_order.proofs.OrderLaws.{place-in, nowhere-is, next-none, next-some}
use Rattle.reader_order.proofs.next.Goals as goal

pub returns-then-not-place_fits : goal.returns-then-not-place_fits
returns-then-not-place_fits c =
    let a = c.args in
    nowhere-is _ c.nowhere.ensures ∙ next-none a.s a.p (sym c.place_fits.ensures ∙ not-true _ c.if-not-place_fits.true-raw)

pub overflow_sub-p : goal.overflow_sub-p
overflow_sub-p c =
    let a = c.args in
    (place-in a.s a.p (sym c.place_fits.ensures ∙ not-false _ c.if-not-place_fits.false-raw)).some

pub after-requires : goal.after-requires
after-requires c =
    let a = c.args in
    let i = place-in a.s a.p (sym c.place_fits.ensures ∙ not-false _ c.if-not-place_fits.false-raw) in
    (omega (arith, i.some, i.most), omega (arith, i.set, height-small), i.band)

pub seek_row-requires : goal.seek_row-requires
seek_row-requires c = c.after.ensures.1

pub returns : goal.returns
returns c =
    let a = c.args in
    c.seek_row.ensures ∙ ap (seek a.s _ _) (spot_of _ _ c.after.ensures.0)
    ∙ next-some a.s a.p (sym c.place_fits.ensures ∙ not-false _ c.if-not-place_fits.false-raw)
