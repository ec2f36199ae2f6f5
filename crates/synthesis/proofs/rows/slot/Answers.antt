-- `synthesis::rows::slot` meets its contract, by the filter's number. Assumes nothing.
use Rattle.synthesis.proofs.CallLaws.{slot-first, slot-second}
use Rattle.synthesis.proofs.rows.slot.Goals as goal

pub returns-then-filter-eq0 : goal.returns-then-filter-eq0
returns-then-filter-eq0 c = slot-first _ _ c.if-filter-eq0.true

pub returns : goal.returns
returns c = slot-second _ _ c.if-filter-eq0.false
