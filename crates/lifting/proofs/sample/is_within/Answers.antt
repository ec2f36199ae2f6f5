-- `lifting::sample::is_within` meets its contract: two comparisons. Assumes nothing.
use mir.Syntax.{w32}
use mir.ValLaws.{to_z-of_z}
use Rattle.lifting.proofs.RangeLaws.{within-is}
use Rattle.lifting.proofs.sample.is_within.Goals as goal

pub returns : goal.returns
returns c = let f = c.ranges in rw (to_z-of_z w32 _ f.x, to_z-of_z w32 _ f.least, to_z-of_z w32 _ f.most) (within-is _ _ _)
