-- `lift_second`: the literal is the definition's float, bit for bit.
-- Assumes nothing.
use lib.Ieee.{of_bits, neg}
use Rattle.profile.specs.Profile.{beta}
use Rattle.profile.proofs.carry.lift_second.Goals as goal

pub returns : goal.returns
unfolding beta of_bits neg
returns c = c.lift.ensures
