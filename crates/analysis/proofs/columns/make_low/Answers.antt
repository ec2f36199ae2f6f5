-- `columns::make_low` meets its contract: copied, then updated there. Assumes nothing.
use mathlib.Core.Path.{sym, ◌∙◌}
use native.Mathlib.Omega.{arith}
use Rattle.lifting.specs.Grid.{side}
use Rattle.analysis.proofs.CallLaws.{low-made, low-none}
use Rattle.analysis.proofs.columns.make_low.Goals as goal

pub copy_low-requires : goal.copy_low-requires
copy_low-requires c = c.requires

pub update_row-requires : goal.update_row-requires
update_row-requires c =
    (omega arith, sym c.has_low.ensures ∙ c.if-has_low.true)

pub shape_of-store : goal.shape_of-store
shape_of-store c = c.update_row.auto.store ∙ c.copy_low.auto.store

pub returns-then-has_low : goal.returns-then-has_low
returns-then-has_low c =
    let a = c.args in
    low-made a.filter a.w (side a.y a.m) a.n _ _ _ (sym c.has_low.ensures ∙ c.if-has_low.true) c.copy_low.ensures
    c.update_row.ensures

pub returns-else-has_low : goal.returns-else-has_low
returns-else-has_low c =
    let a = c.args in
    low-none a.filter a.w (side a.y a.m) a.n _ (sym c.has_low.ensures ∙ c.if-has_low.false)
