-- `columns::double_row` meets its contract: a number and the mean of itself and itself. Assumes nothing.
use native.Mathlib.Omega.{arith}
use lib.ListN.{length}
use Rattle.lifting.specs.Grid.{side}
use Rattle.analysis.proofs.CallLaws.{high_doubled}
use Rattle.analysis.proofs.columns.double_row.Goals as goal

pub shape_of-store : goal.shape_of-store
shape_of-store c = c.change_row.auto.area

pub returns : goal.returns
returns c =
    let a = c.args in
    high_doubled a.w (length a.store.now) (side a.y a.m) _ _ _ a.filter c.requires.0 _ c.requires.1 c.slot_on-high.ensures.0
    c.change_row.ensures.area_after
