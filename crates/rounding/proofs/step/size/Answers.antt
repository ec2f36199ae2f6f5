-- `step::size` meets its contract: in 64 bits the opposite of every 32-bit number fits. Assumes nothing.
use mathlib.Core.Path.{◌≡◌, sym, ap, ◌∙◌}
use lib.IntN.{ℤ, pos, ◌-ℤ◌}
use lib.Signed.{lt_z}
use mir.Syntax.{w32, w64}
use mir.Val.{SFits, to_z, of_z}
use mir.ValLaws.{to_z-of_z}
use native.Mathlib.Omega.{arith}
use Rattle.lifting.proofs.Fits.{widen}
use Rattle.rounding.proofs.StepLaws.{opposite, above, kept, same_size, size-fits}
use Rattle.rounding.proofs.step.size.Goals as goal

module _ (z : ℤ) (f : SFits w32 z) where
  read : to_z w64 (of_z w64 (to_z w32 (of_z w32 z))) ≡ z
  read = rw (to_z-of_z w32 z f) (to_z-of_z w64 z (widen z f))

  turned : to_z w64 (of_z w64 (pos 0 -ℤ to_z w64 (of_z w64 (to_z w32 (of_z w32 z))))) ≡ pos 0 -ℤ z
  turned = rw (read) (to_z-of_z w64 (pos 0 -ℤ z) (opposite z f))

pub overflow_cast-w : goal.overflow_cast-w
overflow_cast-w c = rw (to_z-of_z w32 _ c.ranges.v) (widen _ c.ranges.v)

pub overflow_sub-result : goal.overflow_sub-result
overflow_sub-result c = rw (read _ c.ranges.v) (opposite _ c.ranges.v)

pub overflow_cast-result : goal.overflow_cast-result
overflow_cast-result c =
    let f = c.ranges.v in
    rw (turned c.args.v f) (
      above c.args.v (sym (ap (λ x. lt_z x (pos 0)) (read _ f)) ∙ c.if-w-lt0.true),
      record { fits = omega (arith, size-fits c.args.v f, same_size c.args.v) },
    )

pub overflow_cast-result-else-w-lt0 : goal.overflow_cast-result-else-w-lt0
overflow_cast-result-else-w-lt0 c =
    let f = c.ranges.v in
    rw (read c.args.v f) (
      kept c.args.v (sym (ap (λ x. lt_z x (pos 0)) (read _ f)) ∙ c.if-w-lt0.false),
      record { fits = size-fits c.args.v f },
    )

pub returns-then-w-lt0 : goal.returns-then-w-lt0
returns-then-w-lt0 c = rw (turned c.args.v c.ranges.v) (same_size c.args.v)

pub returns-else-w-lt0 : goal.returns-else-w-lt0
returns-else-w-lt0 c = rw (read c.args.v c.ranges.v)
