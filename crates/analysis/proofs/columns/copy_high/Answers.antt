-- `columns::copy_high` meets its contract. Assumes nothing.
use mathlib.Core.Path.{sym, ◌∙◌}
use native.Mathlib.Omega.{arith}
use lib.ListN.{length}
use Rattle.lifting.specs.Grid.{side}
use Rattle.analysis.proofs.CallLaws.{copied, copy-made, copy-none}
use Rattle.analysis.proofs.columns.copy_high.Goals as goal

pub shape_of-store : goal.shape_of-store
shape_of-store c = c.copy_row.auto.store

pub returns-then-has_high : goal.returns-then-has_high
returns-then-has_high c =
    let a = c.args in
    copy-made a.filter a.w (side a.y a.m) a.n _ _ (sym c.has_high.ensures ∙ c.if-has_high.true)
    (copied a.filter (length a.store.now) a.w c.requires _ _ _ _ _ _ c.high_waits.ensures.0 c.slot_on.ensures.0 c.copy_row.ensures.store_after)

pub returns-else-has_high : goal.returns-else-has_high
returns-else-has_high c =
    let a = c.args in
    copy-none a.filter a.w (side a.y a.m) a.n _ (sym c.has_high.ensures ∙ c.if-has_high.false)
