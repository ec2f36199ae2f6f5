-- `slots::slot_on` meets its contract. Assumes nothing.
use mathlib.Core.Path.{◌∙◌}
use native.Mathlib.Omega.{arith}
use Rattle.analysis.proofs.SlotLaws.{on-slot}
use Rattle.analysis.proofs.slots.slot_on.Goals as goal

pub returns : goal.returns
returns c = let a = c.args in (c.slot.ensures.0 ∙ on-slot a.filter a.n a.d, c.slot.ensures.1)
