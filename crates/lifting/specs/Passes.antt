-- The two passes of a line of N numbers in halves, the low ones first, as the private functions make them: each number n of one half changed by the numbers n
-- + o − 1 and n + o of the
-- other, by the nearest one where there is none such. o is 0 or 1: which of the two halves begins the line.
use Rattle.std.specs.Prelude.{ℕ, ◌+◌, ◌-◌, ◌*◌, ◌/◌, ◌≤◌, ◌<◌, min, ℤ, ltb}
use Rattle.numbers.specs.Signal.{pick}
use Rattle.numbers.specs.Word.{wrap32}
use Rattle.lifting.specs.Line.{lo}
use Rattle.lifting.specs.Grid.{Side, line_halves_back}
use Rattle.lifting.specs.GridHalves.{halves_of, backward_into}

-- the number of m that is nearest to k
abbrev pub near : ℕ → ℕ → ℕ
near m k = min k (m - 1)

-- of N numbers the first `low` are low ones, and each high one has a low one next to it; and each low one a high one
abbrev pub beside_lows : ℕ → ℕ → ℕ → Type 0
beside_lows N low o = (0 < low) × (low < N) × (o ≤ 1) × (low + low ≤ N + o) × (N + o ≤ low + low + 1)

abbrev pub beside_highs : ℕ → ℕ → ℕ → Type 0
beside_highs N low o = (0 < low) × (low < N) × (o ≤ 1) × (N ≤ low + low + o) × (low + low + o ≤ N + 1)

-- `low` low numbers, and the high ones changed
unfoldable pub highs_changed : (ℤ → ℤ → ℤ → ℤ) → ℕ → ℕ → ℕ → (ℕ → ℤ) → ℕ → ℤ
highs_changed f o low N y j =
    pick (ltb j low) (y j)
    (pick (ltb j N) (f (y j) (y (near low (j - low + o - 1))) (y (near low (j - low + o)))) (y j))

-- the low numbers changed
unfoldable pub lows_changed : (ℤ → ℤ → ℤ → ℤ) → ℕ → ℕ → ℕ → (ℕ → ℤ) → ℕ → ℤ
lows_changed f o low N y j =
    pick (ltb j low) (f (y j) (y (low + near (N - low) (j + o - 1))) (y (low + near (N - low) (j + o)))) (y j)

-- the first `low` numbers of z, and what y has past them
unfoldable pub lows_of : ℕ → (ℕ → ℤ) → (ℕ → ℤ) → ℕ → ℤ
lows_of low y z j = pick (ltb j low) (z j) (y j)

-- the even places of a line x of N numbers at the front of memory z
unfoldable pub evens_copied : ℕ → (ℕ → ℤ) → (ℕ → ℤ) → ℕ → ℤ
evens_copied N x z j = pick (ltb j (N - N / 2)) (x (2 * j)) (z j)

-- number n of the even coordinates of the line that has the coefficients y, and that line from place q on, in memory z
unfoldable pub even_back : Side → (ℕ → ℤ) → ℕ → ℤ
even_back S y n = line_halves_back wrap32 S (halves_of S y) lo n

unfoldable pub rest_put : Side → ℕ → (ℕ → ℤ) → (ℕ → ℤ) → ℕ → ℤ
rest_put S q y z j = pick (ltb j q) (z j) (backward_into S y z j)
