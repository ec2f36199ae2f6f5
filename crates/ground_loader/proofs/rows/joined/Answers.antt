-- `rows::joined` meets its contract: the sum has room. Assumes nothing.
use native.Mathlib.Omega.{arith}
use Rattle.ground_loader.proofs.ByteLaws.{joined-fits, joined_is}
use Rattle.ground_loader.proofs.rows.joined.Goals as goal

pub overflow_shl-result : goal.overflow_shl-result
overflow_shl-result c = omega arith

pub overflow_add-result : goal.overflow_add-result
overflow_add-result c = record { fits = joined-fits _ _ _ c.requires.0 c.requires.1 c.ranges.byte.fits }

pub returns : goal.returns
returns c = joined_is _ _ _ c.requires.0 c.requires.1 c.ranges.byte.fits
