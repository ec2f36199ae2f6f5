-- `lift_fourth`: the literal is the definition's float, bit for bit.
-- Assumes nothing.
use lib.Ieee.{of_bits}
use Rattle.profile.specs.Profile.{delta}
use Rattle.profile.proofs.carry.lift_fourth.Goals as goal

pub returns : goal.returns
unfolding delta of_bits
returns c = c.lift.ensures
