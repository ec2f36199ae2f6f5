-- `lift`: the same three operations in the same order.
-- Assumes nothing.
use mathlib.Core.Path.{refl}
use Rattle.profile.specs.Profile.{lifted}
use Rattle.profile.proofs.carry.lift.Goals as goal

pub returns : goal.returns
unfolding lifted
returns c = refl
