-- `lifting::sample::wrap` meets its contract: it computes as `wrap32` is defined, and each step fits. Assumes nothing.
use mathlib.Core.Path.{◌∙◌}
use mir.Syntax.{w32, w64}
use mir.ValLaws.{to_z-of_z}
use Rattle.numbers.specs.Word.{wrap32}
use Rattle.lifting.proofs.Fits.{wraps, widen, rest}
use Rattle.lifting.proofs.sample.wrap.Goals as goal

pub overflow_add-k : goal.overflow_add-k
overflow_add-k c = search wraps

pub overflow_mul-result : goal.overflow_mul-result
overflow_mul-result c = search wraps

pub overflow_sub-result : goal.overflow_sub-result
overflow_sub-result c = let h = c.requires in let f = c.ranges.z in simp wraps (widen _ (rest c.args.z))

pub overflow_cast-result : goal.overflow_cast-result
overflow_cast-result c = let h = c.requires in let f = c.ranges.z in rw (to_z-of_z w64 _ (overflow_sub-result c)) (simp wraps (rest c.args.z))

pub returns : goal.returns
unfolding wrap32
returns c = let h = c.requires in let f = c.ranges.z in to_z-of_z w32 _ (overflow_cast-result c) ∙ to_z-of_z w64 _ (overflow_sub-result c) ∙ simp wraps
