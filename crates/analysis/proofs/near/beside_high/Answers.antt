-- `near::beside_high` meets its contract. Assumes nothing.
use native.Mathlib.Omega.{arith}
use Rattle.nine_seven.proofs.NearLaws.{beside-few}
use Rattle.filters.specs.Filters.{filter_of}
use Rattle.analysis.proofs.NearRows.{beside-high-slots}
use Rattle.analysis.proofs.near.beside_high.Goals as goal

pub returns : goal.returns
returns c =
    let a = c.args in
    beside-high-slots (filter_of a.filter).rows a.y a.m a.n c.requires.0 c.requires.1 _ _ _ _ _ c.low_count.ensures
    (beside-few _ c.beside-by.ensures (omega arith)) c.low_slot-left.ensures.0 c.low_slot.ensures.0
