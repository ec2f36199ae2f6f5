-- `columns::predict_row` meets its contract: the rows that it goes by are the definition's. Assumes nothing.
use native.Mathlib.Omega.{arith}
use lib.ListN.{length}
use Rattle.lifting.specs.Grid.{side}
use Rattle.analysis.proofs.NearRows.{high-in}
use Rattle.analysis.proofs.CallLaws.{predicted-first, predicted-second}
use Rattle.analysis.proofs.columns.predict_row.Goals as goal

pub beside_high-by-requires : goal.beside_high-by-requires
beside_high-by-requires c =
    (c.requires.1, high-in (side c.args.y c.args.m) c.args.n c.requires.2)

pub shape_of-store-then-filter-eq0 : goal.shape_of-store-then-filter-eq0
shape_of-store-then-filter-eq0 c = c.change_row.auto.area

pub returns-then-filter-eq0 : goal.returns-then-filter-eq0
returns-then-filter-eq0 c =
    let a = c.args in
    let e = c.beside_high-by.ensures in
    predicted-first a.w (length a.store.now) (side a.y a.m) _ _ _ a.filter c.if-filter-eq0.true c.requires.0 _ _ _ c.slot_on-high.ensures.0 e.0
    e.1 c.change_row.ensures.area_after

pub around_high-by-requires : goal.around_high-by-requires
around_high-by-requires c =
    (c.requires.1, high-in (side c.args.y c.args.m) c.args.n c.requires.2)

pub shape_of-store : goal.shape_of-store
shape_of-store c = c.predict_row.auto.area

pub returns : goal.returns
returns c =
    let a = c.args in
    let e = c.around_high-by.ensures in
    predicted-second a.w (length a.store.now) (side a.y a.m) _ _ _ a.filter c.if-filter-eq0.false c.requires.0 _ _ _ _ _ c.slot_on-high-2.ensures.0
    e.0 e.1 e.2 e.3 c.predict_row.ensures.area_after
