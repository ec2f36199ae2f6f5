-- `slots::slot` meets its contract, by the filter's number. Assumes nothing.
use Rattle.analysis.proofs.SlotLaws.{slot-first, slot-second}
use Rattle.analysis.proofs.slots.slot.Goals as goal

pub returns-then-filter-eq0 : goal.returns-then-filter-eq0
returns-then-filter-eq0 c = slot-first _ _ c.if-filter-eq0.true

pub returns : goal.returns
returns c = slot-second _ _ c.if-filter-eq0.false
