-- `lift_first`: the literal is the definition's float, bit for bit.
-- Assumes nothing.
use lib.Ieee.{of_bits, neg}
use Rattle.profile.specs.Profile.{alpha}
use Rattle.profile.proofs.carry.lift_first.Goals as goal

pub returns : goal.returns
unfolding alpha of_bits neg
returns c = c.lift.ensures
