-- The columns of a level in an area: row r is the w numbers from place r * s on, H are the rows. Each column is a line of the 9/7 (document 02, Q-8).
use Rattle.std.specs.Prelude.{Bool, true, ℕ, ◌+◌, ◌-◌, ◌*◌, ◌/◌, ◌%◌, ℤ, ltb}
use Rattle.numbers.specs.Signal.{pick, both}
use Rattle.numbers.specs.Tests.{every}
use Rattle.numbers.specs.Word.{wrap32}
use Rattle.lifting.specs.Grid.{Side, deinterleaved, single_high, is_even}
use Rattle.lifting.specs.Rows.{row_fits}
use Rattle.nine_seven.specs.NineSeven.{line_back}
use Rattle.nine_seven.specs.Memory.{lifted_in_place}

-- the last of h rows lies within n numbers, and rows do not overlap
unfoldable pub columns_fit : ℕ → ℕ → ℕ → ℕ → Bool
columns_fit n s w h = row_fits n s w (h - 1)

-- column c, from the first row on
unfoldable pub column : ℕ → (ℕ → ℤ) → ℕ → ℕ → ℤ
column s x c r = x (r * s + c)

-- each column changed as a line by g, every other place as it was
unfoldable pub columns_by : ((ℕ → ℤ) → ℕ → ℤ) → ℕ → ℕ → ℕ → (ℕ → ℤ) → ℕ → ℤ
columns_by g s w h x j = pick (both (ltb (j / s) h) (ltb (j % s) w)) (g (column s x (j % s)) (j / s)) (x j)

-- Forward, the rows being in halves, the low ones first,
unfoldable pub columns_lifted : ℕ → ℕ → Side → (ℕ → ℤ) → ℕ → ℤ
columns_lifted s w H = columns_by (lifted_in_place H) s w H.length

-- and back, the rows being in their own order. An odd number of an only high row is no column's (number 14).
unfoldable pub columns_back : ℕ → ℕ → Side → (ℕ → ℤ) → ℕ → ℤ
columns_back s w H = columns_by (λ y. line_back wrap32 H (deinterleaved H y)) s w H.length

unfoldable pub columns_have : ℕ → Side → (ℕ → ℤ) → Bool
columns_have w H x = pick (single_high H) (every w (λ c. is_even (x c))) true
