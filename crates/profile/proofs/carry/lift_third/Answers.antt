-- `lift_third`: the literal is the definition's float, bit for bit.
-- Assumes nothing.
use lib.Ieee.{of_bits}
use Rattle.profile.specs.Profile.{gamma}
use Rattle.profile.proofs.carry.lift_third.Goals as goal

pub returns : goal.returns
unfolding gamma of_bits
returns c = c.lift.ensures
