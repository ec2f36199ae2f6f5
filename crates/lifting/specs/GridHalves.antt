-- A line on the grid in memory. In halves: its even coordinates (or low values) first, then its odd ones (or high values).
use Rattle.std.specs.Prelude.{Bool, ℕ, ◌+◌, ◌-◌, ℤ, ltb}
use Rattle.numbers.specs.Signal.{pick}
use Rattle.numbers.specs.Word.{wrap32}
use Rattle.lifting.specs.Line.{Half, lo, hi}
use Rattle.lifting.specs.Grid.{Side, count, deinterleaved, joined, line_forward, line_halves_back, line_back, has_line}
use Rattle.lifting.specs.Halves.{fronted}

-- what stands in memory y as the halves of a line
unfoldable pub halves_of : Side → (ℕ → ℤ) → Half → ℕ → ℤ
halves_of S y lo n = y n
halves_of S y hi n = y (count lo S + n)

-- memory z with the halves p at its front
unfoldable pub in_halves : Side → (Half → ℕ → ℤ) → (ℕ → ℤ) → ℕ → ℤ
in_halves S p z j = pick (ltb j (count lo S)) (p lo j) (pick (ltb j S.length) (p hi (j - count lo S)) (z j))

-- what the line calls leave in the area that they write, over 32-bit words.
-- A line in halves lifted, and lifted back, in place; whether it can be lifted back:
unfoldable pub lifted_in_place : Side → (ℕ → ℤ) → ℕ → ℤ
lifted_in_place S y = in_halves S (line_forward wrap32 S (joined S (halves_of S y))) y

unfoldable pub unlifted_in_place : Side → (ℕ → ℤ) → ℕ → ℤ
unlifted_in_place S y = in_halves S (line_halves_back wrap32 S (halves_of S y)) y

unfoldable pub has_line_in : Side → (ℕ → ℤ) → Bool
has_line_in S y = has_line S (halves_of S y)

-- A line x to its coefficients in halves at the front of memory z, and coefficients y in halves to their line:
unfoldable pub forward_into : Side → (ℕ → ℤ) → (ℕ → ℤ) → ℕ → ℤ
forward_into S x z = in_halves S (line_forward wrap32 S x) z

unfoldable pub backward_into : Side → (ℕ → ℤ) → (ℕ → ℤ) → ℕ → ℤ
backward_into S y z = fronted S.length (line_back wrap32 S (halves_of S y)) z

-- A line x deinterleaved into its halves at the front of memory z:
unfoldable pub deinterleaved_into : Side → (ℕ → ℤ) → (ℕ → ℤ) → ℕ → ℤ
deinterleaved_into S x z = in_halves S (deinterleaved S x) z

-- the low half of z, and what y has past it
unfoldable pub highs_laid : Side → (ℕ → ℤ) → (ℕ → ℤ) → ℕ → ℤ
highs_laid S y z j = pick (ltb j (count lo S)) (z j) (y j)
