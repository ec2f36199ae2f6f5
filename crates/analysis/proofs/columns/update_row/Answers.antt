-- `columns::update_row` meets its contract: the rows that it goes by are the definition's. Assumes nothing.
use native.Mathlib.Omega.{arith}
use lib.ListN.{length}
use Rattle.lifting.specs.Grid.{side}
use Rattle.analysis.proofs.NearRows.{low-in}
use Rattle.analysis.proofs.CallLaws.{low_first, low_second, low-one}
use Rattle.analysis.proofs.columns.update_row.Goals as goal

pub returns-then-m-lt2 : goal.returns-then-m-lt2
returns-then-m-lt2 c = let a = c.args in low-one a.filter a.w (side a.y a.m) _ _ _ (omega arith)

pub beside_low-by-requires : goal.beside_low-by-requires
beside_low-by-requires c =
    let i = low-in (side c.args.y c.args.m) c.args.n c.requires.1 in
    (omega arith, i.0, i.1)

pub shape_of-store-then-filter-eq0 : goal.shape_of-store-then-filter-eq0
shape_of-store-then-filter-eq0 c = c.change_row.auto.area

pub returns-then-filter-eq0 : goal.returns-then-filter-eq0
returns-then-filter-eq0 c =
    let a = c.args in
    low_first a.w (length a.store.now) (side a.y a.m) _ _ _ a.filter c.if-filter-eq0.true c.requires.0 (omega arith) a.n _ _ _
    c.low_waits-t.ensures.0 c.beside_low-by.ensures.0 c.beside_low-by.ensures.1 c.change_row.ensures.area_after

pub beside_low-by-requires-2 : goal.beside_low-by-requires-2
beside_low-by-requires-2 c =
    let i = low-in (side c.args.y c.args.m) c.args.n c.requires.1 in
    (omega arith, i.0, i.1)

pub shape_of-store : goal.shape_of-store
shape_of-store c = c.update_row.auto.area

pub returns : goal.returns
returns c =
    let a = c.args in
    low_second a.w (length a.store.now) (side a.y a.m) _ _ _ a.filter c.if-filter-eq0.false c.requires.0 (omega arith) a.n _ _ _
    c.low_waits-t-2.ensures.0 c.beside_low-by-2.ensures.0 c.beside_low-by-2.ensures.1 c.update_row.ensures.area_after
