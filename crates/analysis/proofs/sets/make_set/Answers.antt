-- `sets::make_set` meets its contract: in one pass, or its columns and then its rows. Assumes nothing.
use mathlib.Core.Path.{sym, ◌∙◌}
use native.Mathlib.Omega.{arith}
use lib.ListN.{length}
use Rattle.lifting.specs.Grid.{side}
use borrow.Author.Rules.{rules}
use Rattle.analysis.proofs.PairLaws.{pair-in}
use Rattle.analysis.proofs.SlotLaws.{in_rows}
use Rattle.analysis.proofs.SetLaws.{pair_set, pair-long, pair-room, pair-slot, set-made}
use Rattle.analysis.proofs.sets.make_set.Goals as goal

pub beside_high-by-requires : goal.beside_high-by-requires
beside_high-by-requires c =
    let a = c.args in
    pair-long a.filter (side a.y a.m) a.n (sym c.is_pair.ensures ∙ c.if-is_pair.true)

pub make_pair-requires : goal.make_pair-requires
make_pair-requires c =
    let a = c.args in
    let i = pair-in a.filter (side a.y a.m) a.n (sym c.is_pair.ensures ∙ c.if-is_pair.true) in
    (pair-room a.filter a.w (length a.store.now) i.five c.requires, pair-slot _ _ c.beside_high-by.ensures.1)

pub shape_of-store-then-is_pair : goal.shape_of-store-then-is_pair
shape_of-store-then-is_pair c = c.make_pair.auto.store

pub returns-then-is_pair : goal.returns-then-is_pair
returns-then-is_pair c =
    let a = c.args in
    pair_set (side a.x a.w) a.n _ _ _ a.filter (side a.y a.m) (sym c.is_pair.ensures ∙ c.if-is_pair.true) c.beside_high-by.ensures.1
    c.make_pair.ensures

pub make_columns-requires : goal.make_columns-requires
make_columns-requires c = c.requires

pub lift_row-requires : goal.lift_row-requires
lift_row-requires c = (omega arith, in_rows _ _ _ c.low_waits.ensures.0)

pub lift_row-requires-2 : goal.lift_row-requires-2
lift_row-requires-2 c = (omega arith, in_rows _ _ _ c.high_waits.ensures.0)

pub returns : goal.returns
returns c =
    let a = c.args in
    set-made a.filter (side a.x a.w) (side a.y a.m) a.n _ _ _ _ _ _ _ _ c.low_waits.ensures.0 c.high_waits.ensures.0
    c.has_low.ensures c.has_high.ensures c.make_columns.ensures c.lift_row.ensures c.lift_row-2.ensures
