-- `columns::copy_low` meets its contract: the 5/3's row is copied to its own slot, so it stays. Assumes nothing.
use native.Mathlib.Omega.{arith}
use lib.ListN.{length}
use Rattle.analysis.proofs.SlotLaws.{at_slot}
use Rattle.analysis.proofs.CallLaws.{copied-second, copied-same}
use Rattle.analysis.proofs.columns.copy_low.Goals as goal

pub returns-then-filter-eq0 : goal.returns-then-filter-eq0
returns-then-filter-eq0 c = let a = c.args in copied-same a.filter a.w a.n _ c.if-filter-eq0.true

pub shape_of-store : goal.shape_of-store
shape_of-store c = c.copy_row.auto.store

pub returns : goal.returns
returns c =
    let a = c.args in
    copied-second a.filter (length a.store.now) a.w c.if-filter-eq0.false c.requires a.n _ _ _ _ c.low_waits.ensures.0
    (at_slot 1 a.n _ c.slot_on.ensures.0) c.copy_row.ensures.store_after
