-- `lifting::sample::halve` meets its contract: a half fits where the number does. Assumes nothing.
use mir.Syntax.{w32}
use mir.ValLaws.{to_z-of_z}
use Rattle.lifting.proofs.Fits.{lower-half}
use Rattle.lifting.proofs.sample.halve.Goals as goal

pub returns : goal.returns
returns c = rw (to_z-of_z w32 _ c.ranges.x) (to_z-of_z w32 _ (lower-half _ c.ranges.x))
