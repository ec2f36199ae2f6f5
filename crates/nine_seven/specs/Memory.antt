-- What the line calls leave in the area that they write, over 32-bit words. A line in halves, and whether it can be lifted back, are as for the 5/3
-- (GridHalves of `lifting`).
use Rattle.std.specs.Prelude.{ℕ, ℤ}
use Rattle.numbers.specs.Word.{wrap32}
use Rattle.lifting.specs.Grid.{Side, joined}
use Rattle.lifting.specs.Halves.{fronted}
use Rattle.lifting.specs.GridHalves.{halves_of, in_halves}
use Rattle.nine_seven.specs.NineSeven.{line_forward, line_halves_back, line_back}

-- A line in halves lifted, and lifted back, in place:
unfoldable pub lifted_in_place : Side → (ℕ → ℤ) → ℕ → ℤ
lifted_in_place S y = in_halves S (line_forward wrap32 S (joined S (halves_of S y))) y

unfoldable pub unlifted_in_place : Side → (ℕ → ℤ) → ℕ → ℤ
unlifted_in_place S y = in_halves S (line_halves_back wrap32 S (halves_of S y)) y

-- A line x to its coefficients in halves at the front of memory z, and coefficients y in halves to their line:
unfoldable pub forward_into : Side → (ℕ → ℤ) → (ℕ → ℤ) → ℕ → ℤ
forward_into S x z = in_halves S (line_forward wrap32 S x) z

unfoldable pub backward_into : Side → (ℕ → ℤ) → (ℕ → ℤ) → ℕ → ℤ
backward_into S y z = fronted S.length (line_back wrap32 S (halves_of S y)) z
