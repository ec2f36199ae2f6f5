-- There and back over the very definitions that the line calls cite: in place, and from area to area, for every line of 32-bit numbers of any length and start.
-- A single sample at an odd coordinate comes back if its double fits 32 bits; back and there, where the call back answers 0. What lies past the line is as it
-- was. By the general lifting. Assumes nothing.
use mathlib.Core.Path.{◌≡◌}
use mathlib.Core.Bool.{true}
use Prim.Native.Nat.{ℕ, ◌<◌}
use lib.IntN.{ℤ, pos, ◌*ℤ◌}
use mir.Syntax.{w32}
use mir.Val.{SFits}
use Rattle.lifting.specs.Grid.{Side, single_high}
use Rattle.lifting.specs.Halves.{fronted}
use Rattle.lifting.specs.GridHalves.{has_line_in}
use Rattle.nine_seven.specs.NineSeven.{line_back}
use Rattle.nine_seven.specs.Memory.{lifted_in_place, unlifted_in_place, forward_into, backward_into}
use Rattle.lifting.proofs.TwoStepsInMemory as memory
use Rattle.nine_seven.proofs.NineSeven.{nine-seven}

-- what a call there writes can be read back: the call back answers 0
pub lifted-has : (S : Side) (y : ℕ → ℤ) → has_line_in S (lifted_in_place S y) ≡ true
unfolding lifted_in_place
lifted-has S y = memory.forwarded-has nine-seven S _ y

pub forward-into-has : (S : Side) (x z : ℕ → ℤ) → has_line_in S (forward_into S x z) ≡ true
unfolding forward_into
forward-into-has = memory.forwarded-has nine-seven

module _ (S : Side) (y : ℕ → ℤ) (fits : (i : ℕ) → i < S.length → SFits w32 (y i)) where
  -- in place
  pub unlift-lift : (single_high S ≡ true → SFits w32 (pos 2 *ℤ y 0)) → unlifted_in_place S (lifted_in_place S y) ≡ y
  unfolding unlifted_in_place lifted_in_place
  unlift-lift = memory.unlift-lift nine-seven S y fits

  pub lift-unlift : has_line_in S y ≡ true → lifted_in_place S (unlifted_in_place S y) ≡ y
  unfolding unlifted_in_place lifted_in_place
  lift-unlift = memory.lift-unlift nine-seven S y fits

  -- from area to area: z is where the first call wrote, w where the second did
  pub back-there : (single_high S ≡ true → SFits w32 (pos 2 *ℤ y 0)) → (z w : ℕ → ℤ) → backward_into S (forward_into S y z) w ≡ fronted S.length y w
  unfolding backward_into forward_into line_back
  back-there = memory.back-there nine-seven S y fits

  pub there_back : has_line_in S y ≡ true → (z w : ℕ → ℤ) → forward_into S (backward_into S y z) w ≡ fronted S.length y w
  unfolding backward_into forward_into line_back
  there_back = memory.there_back nine-seven S y fits
