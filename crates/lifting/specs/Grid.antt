-- A line on the grid: the reversible 5/3 lifting of a line that starts at any coordinate. ITU-T T.800, Annex F; document 02, Q-3.
-- The four formulas, `keep`, the mirror and the halves are those of `Line`, which has the lines that start at coordinate 0: they are this at a start of 0
-- (proofs/AtZero).
use Rattle.std.specs.Prelude.{Bool, true, ℕ, ◌+◌, ◌-◌, ◌*◌, ◌/◌, ◌%◌, ℤ, pos, nat_abs, ◌-ℤ◌, ◌*ℤ◌, ltb, eqb}
use Rattle.std.specs.Int.Signed.{shr_z}
use Rattle.numbers.specs.Signal.{pick, both}
use Rattle.lifting.specs.Line.{predicted, updated, unupdated, unpredicted, mirror, Half, lo, hi}

-- A side is where a line starts and how many samples it has. Place p of the line, from 0 on, has the coordinate start + p.
pub record Side : Type 0 where
  pub start : ℕ
  pub length : ℕ

abbrev pub side : ℕ → ℕ → Side
side s N = record { start = s; length = N }

-- Even coordinates are low, odd ones high.
unfoldable pub half : ℕ → Half
half c = pick (eqb (c % 2) 0) lo hi

-- The values of each half are counted from 0. Number n stands at this place of the line,
unfoldable pub place : Side → Half → ℕ → ℕ
place S lo n = 2 * n + S.start % 2
place S hi n = 2 * n + (1 - S.start % 2)

-- and there are so many.
unfoldable pub count : Half → Side → ℕ
count lo S = (S.length + 1 - S.start % 2) / 2
count hi S = (S.length + S.start % 2) / 2

-- the places of each half of a line, and the line whose halves these are
unfoldable pub deinterleaved : Side → (ℕ → ℤ) → Half → ℕ → ℤ
deinterleaved S x h n = x (place S h n)

unfoldable pub joined : Side → (Half → ℕ → ℤ) → ℕ → ℤ
joined S p i = p (half (S.start + i)) (i / 2)

-- The two places beside place q of N, mirrored at the ends.
unfoldable pub before : ℕ → ℕ → ℕ
before N q = mirror N (pos q -ℤ pos 1)

unfoldable pub after : ℕ → ℕ → ℕ
after N q = mirror N (pos (q + 1))

-- High, at an odd coordinate: d(q) = x(q) − ⌊(x(q−1) + x(q+1)) / 2⌋.
unfoldable pub high_at : (ℤ → ℤ) → ℕ → (ℕ → ℤ) → ℕ → ℤ
high_at keep N x q = predicted keep (x q) (x (before N q)) (x (after N q))

-- Low, at an even coordinate: s(q) = x(q) + ⌊(d(q−1) + d(q+1) + 2) / 4⌋.
unfoldable pub low_at : (ℤ → ℤ) → ℕ → (ℕ → ℤ) → ℕ → ℤ
low_at keep N x q = updated keep (x q) (high_at keep N x (before N q)) (high_at keep N x (after N q))

-- Back, from the values y at their places: the even coordinates first, then the odd ones.
unfoldable pub even_at : (ℤ → ℤ) → ℕ → (ℕ → ℤ) → ℕ → ℤ
even_at keep N y q = unupdated keep (y q) (y (before N q)) (y (after N q))

unfoldable pub odd_at : (ℤ → ℤ) → ℕ → (ℕ → ℤ) → ℕ → ℤ
odd_at keep N y q = unpredicted keep (y q) (even_at keep N y (before N q)) (even_at keep N y (after N q))

-- The low and the high values of a line. A line's only sample stays as it is at an even coordinate, and is doubled at an odd one.
unfoldable pub line_forward : (ℤ → ℤ) → Side → (ℕ → ℤ) → Half → ℕ → ℤ
line_forward keep S x lo n = pick (ltb 1 S.length) (low_at keep S.length x (place S lo n)) (x (place S lo n))
line_forward keep S x hi n = pick (ltb 1 S.length) (high_at keep S.length x (place S hi n)) (keep (pos 2 *ℤ x (place S hi n)))

-- The line that has given values: its halves, and as a whole. An only high value is halved.
unfoldable pub line_halves_back : (ℤ → ℤ) → Side → (Half → ℕ → ℤ) → Half → ℕ → ℤ
line_halves_back keep S c lo n = pick (ltb 1 S.length) (even_at keep S.length (joined S c) (place S lo n)) (c lo n)
line_halves_back keep S c hi n = pick (ltb 1 S.length) (odd_at keep S.length (joined S c) (place S hi n)) (shr_z (c hi n) 2)

unfoldable pub line_back : (ℤ → ℤ) → Side → (Half → ℕ → ℤ) → ℕ → ℤ
line_back keep S c = joined S (line_halves_back keep S c)

-- An odd value that would be halved is no line's (number 14).
unfoldable pub single_high : Side → Bool
single_high S = both (eqb (S.start % 2) 1) (eqb S.length 1)

unfoldable pub is_even : ℤ → Bool
is_even z = eqb (nat_abs z % 2) 0

unfoldable pub has_line : Side → (Half → ℕ → ℤ) → Bool
has_line S c = pick (single_high S) (is_even (c hi 0)) true
