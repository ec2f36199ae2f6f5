-- `near::around_high` meets its contract. Assumes nothing.
use native.Mathlib.Omega.{arith}
use Rattle.nine_seven.proofs.NearLaws.{around-few}
use Rattle.filters.specs.Filters.{filter_of}
use Rattle.analysis.proofs.NearRows.{around-slots}
use Rattle.analysis.proofs.near.around_high.Goals as goal

pub returns : goal.returns
returns c =
    let a = c.args in
    let is = c.high_count.ensures in
    around-slots (filter_of a.filter).rows a.y a.m a.n c.requires.0 c.requires.1 _ _ _ _ _ _ _ _ _ _ c.low_count-low.ensures is
    (around-few _ c.around-by.ensures (omega arith) (rw is c.requires.1)) c.low_slot-left.ensures.0 c.low_slot-right.ensures.0
    c.low_slot-before.ensures.0 c.low_slot.ensures.0
