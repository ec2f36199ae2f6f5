-- A line in memory. In halves: its even places (or low values) first, ⌈N / 2⌉ of them, then its odd places (or high values).
use Rattle.std.specs.Prelude.{ℕ, ◌+◌, ◌-◌, ℤ, ltb}
use Rattle.numbers.specs.Signal.{pick}
use Rattle.numbers.specs.Word.{wrap32}
use Rattle.lifting.specs.Line.{Half, lo, hi, count, joined, line_forward, line_halves_back, line_back}

-- what stands in memory y as the halves of N numbers
unfoldable pub halves_of : ℕ → (ℕ → ℤ) → Half → ℕ → ℤ
halves_of N y lo n = y n
halves_of N y hi n = y (count lo N + n)

-- memory z with the halves p of N numbers at its front
unfoldable pub in_halves : ℕ → (Half → ℕ → ℤ) → (ℕ → ℤ) → ℕ → ℤ
in_halves N p z j = pick (ltb j (count lo N)) (p lo j) (pick (ltb j N) (p hi (j - count lo N)) (z j))

-- memory z with the N numbers x at its front
unfoldable pub fronted : ℕ → (ℕ → ℤ) → (ℕ → ℤ) → ℕ → ℤ
fronted N x z j = pick (ltb j N) (x j) (z j)

-- what the line calls leave in the area that they write, over 32-bit words.
-- A line in halves lifted, and lifted back, in place:
unfoldable pub lifted_in_place : ℕ → (ℕ → ℤ) → ℕ → ℤ
lifted_in_place N y = in_halves N (line_forward wrap32 N (joined (halves_of N y))) y

unfoldable pub unlifted_in_place : ℕ → (ℕ → ℤ) → ℕ → ℤ
unlifted_in_place N y = in_halves N (line_halves_back wrap32 N (halves_of N y)) y

-- A line x to its coefficients in halves at the front of memory z, and coefficients y in halves to their line:
unfoldable pub forward_into : ℕ → (ℕ → ℤ) → (ℕ → ℤ) → ℕ → ℤ
forward_into N x z = in_halves N (line_forward wrap32 N x) z

unfoldable pub backward_into : ℕ → (ℕ → ℤ) → (ℕ → ℤ) → ℕ → ℤ
backward_into N y z = fronted N (line_back wrap32 N (halves_of N y)) z
