-- `columns::make_high` meets its contract: by whether the set has a high row, and whether it is the only one. Assumes nothing.
use mathlib.Core.Path.{sym, ◌∙◌}
use native.Mathlib.Omega.{arith}
use Rattle.lifting.specs.Grid.{side}
use Rattle.analysis.proofs.CallLaws.{high-more, high-made, high-none}
use Rattle.analysis.proofs.columns.make_high.Goals as goal

pub predict_row-requires : goal.predict_row-requires
predict_row-requires c =
    (c.requires, c.if-m-gt1.true, sym c.has_high.ensures ∙ c.if-has_high.true)

pub double_row-requires : goal.double_row-requires
double_row-requires c = (c.requires, omega arith)

pub shape_of-store-then-m-gt1 : goal.shape_of-store-then-m-gt1
shape_of-store-then-m-gt1 c = c.predict_row.auto.store

pub returns-then-m-gt1 : goal.returns-then-m-gt1
returns-then-m-gt1 c =
    let a = c.args in
    high-made a.filter a.w (side a.y a.m) a.n _ _ (sym c.has_high.ensures ∙ c.if-has_high.true)
    (high-more a.w 0 (side a.y a.m) _ _ _ a.filter c.if-m-gt1.true c.predict_row.ensures)

pub shape_of-store-else-m-gt1 : goal.shape_of-store-else-m-gt1
shape_of-store-else-m-gt1 c = c.double_row.auto.store

pub returns-else-m-gt1 : goal.returns-else-m-gt1
returns-else-m-gt1 c =
    let a = c.args in
    high-made a.filter a.w (side a.y a.m) a.n _ _ (sym c.has_high.ensures ∙ c.if-has_high.true) c.double_row.ensures

pub returns-else-has_high : goal.returns-else-has_high
returns-else-has_high c =
    let a = c.args in
    high-none a.filter a.w (side a.y a.m) a.n _ (sym c.has_high.ensures ∙ c.if-has_high.false)
