-- `height`: the cast asks that the float holds the number, as it does every 16-bit one. Assumes nothing.
use mathlib.Core.Path.{refl}
use Rattle.profile.specs.Calls.{heights}
use Rattle.profile.proofs.ends.height.Goals as goal

pub returns : goal.returns
unfolding heights
returns c = refl
