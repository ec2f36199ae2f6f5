-- There and back at a start of 0, over the definitions of document 01, for every line of 32-bit numbers of any length. What lies past the line is as it was.
-- The lines on the grid at that start (AtZero, GridThereAndBack). Assumes nothing.
use mathlib.Core.Path.{◌≡◌}
use Prim.Native.Nat.{ℕ, ◌<◌}
use lib.IntN.{ℤ}
use mir.Syntax.{w32}
use mir.Val.{SFits}
use Rattle.lifting.specs.Grid.{side}
use Rattle.lifting.specs.GridHalves as grid
use Rattle.lifting.specs.Halves.{fronted, lifted_in_place, unlifted_in_place, forward_into, backward_into}
use Rattle.lifting.proofs.GridThereAndBack as there
use Rattle.lifting.proofs.AtZero.{lifted-zero, unlifted-zero, forward-into-zero, backward-into-zero, has-zero, never-single}

module _ (N : ℕ) (y : ℕ → ℤ) (fits : (i : ℕ) → i < N → SFits w32 (y i)) where
  -- in place
  pub unlift-lift : unlifted_in_place N (lifted_in_place N y) ≡ y
  unlift-lift =
      rw (← lifted-zero N y, ← unlifted-zero N (grid.lifted_in_place (side 0 N) y))
      (there.unlift-lift (side 0 N) y fits (λ e. absurd (never-single N e)))

  pub lift-unlift : lifted_in_place N (unlifted_in_place N y) ≡ y
  lift-unlift =
      rw (← unlifted-zero N y, ← lifted-zero N (grid.unlifted_in_place (side 0 N) y)) (there.lift-unlift (side 0 N) y fits (has-zero N y))

  -- from area to area: z is where the first call wrote, w where the second did
  pub back-there : (z w : ℕ → ℤ) → backward_into N (forward_into N y z) w ≡ fronted N y w
  back-there z w =
      rw (← forward-into-zero N y z, ← backward-into-zero N (grid.forward_into (side 0 N) y z) w)
      (there.back-there (side 0 N) y fits (λ e. absurd (never-single N e)) z w)

  pub there_back : (z w : ℕ → ℤ) → forward_into N (backward_into N y z) w ≡ fronted N y w
  there_back z w =
      rw (← backward-into-zero N y z, ← forward-into-zero N (grid.backward_into (side 0 N) y z) w)
      (there.there_back (side 0 N) y fits (has-zero N y) z w)
