-- `slots::low_waits` meets its contract, by the filter's number. Assumes nothing.
use native.Mathlib.Omega.{arith}
use Rattle.analysis.proofs.SlotLaws.{low_first, low_second}
use Rattle.analysis.proofs.slots.low_waits.Goals as goal

pub returns-then-filter-eq0 : goal.returns-then-filter-eq0
returns-then-filter-eq0 c = (low_first _ _ _ c.if-filter-eq0.true c.slot_on.ensures.0, c.slot_on.ensures.1)

pub returns : goal.returns
returns c = (low_second _ _ _ c.if-filter-eq0.false c.slot_on-2.ensures.0, c.slot_on-2.ensures.1)
