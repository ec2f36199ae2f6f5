-- `lifting::sample::is_even` meets its contract: an even number is twice its half, an odd one is not. Assumes nothing.
use mir.Syntax.{w32}
use mir.ValLaws.{to_z-of_z}
use Rattle.lifting.proofs.Fits.{lower-half, halves-fit, even-bits}
use Rattle.lifting.proofs.sample.is_even.Goals as goal

pub overflow_add-result : goal.overflow_add-result
overflow_add-result c = let h = c.ranges.x in rw (to_z-of_z w32 _ h, to_z-of_z w32 _ (lower-half _ h)) (halves-fit _ h)

pub returns : goal.returns
returns c = let h = c.ranges.x in rw (to_z-of_z w32 _ h, to_z-of_z w32 _ (lower-half _ h)) (even-bits _ h)
