-- `near::low_slot` meets its contract. Assumes nothing.
use mathlib.Core.Path.{◌∙◌}
use Prim.Native.Nat.{◌%◌}
use native.Mathlib.Omega.{arith}
use Rattle.analysis.proofs.SlotLaws.{number-slot}
use Rattle.analysis.proofs.near.low_slot.Goals as goal

pub returns : goal.returns
returns c = let a = c.args in (c.slot_on.ensures.0 ∙ number-slot a.filter (a.y % 2) a.k, c.slot_on.ensures.1)
