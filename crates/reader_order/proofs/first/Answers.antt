-- `reader_order::first` meets its contract: the search from the first height row on. Assumes nothing.
use mathlib.Core.Path.{◌∙◌, sym, ap}
use borrow.Author.Tests.{not-true, not-false}
use Rattle.reader_order.specs.Order.{seek}
use Rattle.reader_order.proofs.WalkLaws.{spot_of}
use Rattle.reader_order.proofs.OrderLaws.{nowhere-is, first-none, first_some}
use Rattle.reader_order.proofs.first.Goals as goal

pub returns-then-not-shape_fits : goal.returns-then-not-shape_fits
returns-then-not-shape_fits c =
    nowhere-is _ c.nowhere.ensures ∙ first-none c.args.s (sym c.shape_fits.ensures ∙ not-true _ c.if-not-shape_fits.true-raw)

pub seek_row-requires : goal.seek_row-requires
seek_row-requires c = c.begin_row.ensures.1

pub returns : goal.returns
returns c =
    let s = c.args.s in
    c.seek_row.ensures ∙ ap (seek s _ 0) (spot_of _ _ c.begin_row.ensures.0) ∙ first_some s (sym c.shape_fits.ensures ∙ not-false _ c.if-not-shape_fits.false-raw)
