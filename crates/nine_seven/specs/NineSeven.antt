-- The integer 9/7 lifting of a line that starts at any coordinate of the grid: CCSDS 122.0; document 02, Q-8.
-- Sides, halves and places, and what becomes of a line's only sample, are those of the 5/3 (Grid). Sums are taken over whole numbers. `keep` is what is stored
-- of a sum: all of it (`whole`) or what 32 bits keep of it (`wrap32`, what the calls do).
use Rattle.std.specs.Prelude.{ℕ, ◌+◌, ◌-◌, ◌*◌, ◌%◌, min, ℤ, pos, nat_abs, ◌+ℤ◌, ◌-ℤ◌, ◌*ℤ◌, ltb}
use Rattle.std.specs.Int.Signed.{shr_z}
use Rattle.numbers.specs.Signal.{pick}
use Rattle.lifting.specs.Line.{Half, lo, hi}
use Rattle.lifting.specs.Grid.{Side, place, joined}

-- What is taken of a high sample, by the samples a and b one place off, c and e three places off, and of a low one, by the high values a and b one place off.
-- `shr_z z m` is ⌊z / m⌋: floor goes toward minus infinity.
abbrev pub high_part : ℤ → ℤ → ℤ → ℤ → ℤ
high_part a b c e = shr_z (pos 9 *ℤ (a +ℤ b) -ℤ (c +ℤ e) +ℤ pos 8) 16

unfoldable pub low_part : ℤ → ℤ → ℤ
low_part a b = shr_z (pos 2 -ℤ a -ℤ b) 4

-- The two formulas, and the same with the signs turned.
unfoldable pub predicted : (ℤ → ℤ) → ℤ → ℤ → ℤ → ℤ → ℤ → ℤ
predicted keep x a b c e = keep (x -ℤ high_part a b c e)

unfoldable pub updated : (ℤ → ℤ) → ℤ → ℤ → ℤ → ℤ
updated keep x a b = keep (x -ℤ low_part a b)

unfoldable pub unupdated : (ℤ → ℤ) → ℤ → ℤ → ℤ → ℤ
unupdated keep x a b = keep (x +ℤ low_part a b)

unfoldable pub unpredicted : (ℤ → ℤ) → ℤ → ℤ → ℤ → ℤ → ℤ → ℤ
unpredicted keep x a b c e = keep (x +ℤ high_part a b c e)

-- Outside the line it is mirrored about its end samples, which are not repeated, again and again: after 2(N − 1) places it comes round.
unfoldable pub mirror : ℕ → ℤ → ℕ
mirror N p = min (nat_abs p % (2 * (N - 1))) (2 * (N - 1) - nat_abs p % (2 * (N - 1)))

-- The places k before and k after place q of N, mirrored.
unfoldable pub before : ℕ → ℕ → ℕ → ℕ
before N k q = mirror N (pos q -ℤ pos k)

unfoldable pub after : ℕ → ℕ → ℕ → ℕ
after N k q = mirror N (pos (q + k))

-- High, at an odd coordinate: d(q) = x(q) − ⌊(9(x(q−1) + x(q+1)) − (x(q−3) + x(q+3)) + 8) / 16⌋.
unfoldable pub high_at : (ℤ → ℤ) → ℕ → (ℕ → ℤ) → ℕ → ℤ
high_at keep N x q = predicted keep (x q) (x (before N 1 q)) (x (after N 1 q)) (x (before N 3 q)) (x (after N 3 q))

-- Low, at an even coordinate: s(q) = x(q) − ⌊(2 − d(q−1) − d(q+1)) / 4⌋.
unfoldable pub low_at : (ℤ → ℤ) → ℕ → (ℕ → ℤ) → ℕ → ℤ
low_at keep N x q = updated keep (x q) (high_at keep N x (before N 1 q)) (high_at keep N x (after N 1 q))

-- Back, from the values y at their places: the even coordinates first, then the odd ones.
unfoldable pub even_at : (ℤ → ℤ) → ℕ → (ℕ → ℤ) → ℕ → ℤ
even_at keep N y q = unupdated keep (y q) (y (before N 1 q)) (y (after N 1 q))

unfoldable pub odd_at : (ℤ → ℤ) → ℕ → (ℕ → ℤ) → ℕ → ℤ
odd_at keep N y q =
    unpredicted keep (y q) (even_at keep N y (before N 1 q)) (even_at keep N y (after N 1 q)) (even_at keep N y (before N 3 q)) (even_at keep N y (after N 3 q))

-- The low and the high values of a line. A line's only sample stays as it is at an even coordinate, and is doubled at an odd one.
unfoldable pub line_forward : (ℤ → ℤ) → Side → (ℕ → ℤ) → Half → ℕ → ℤ
line_forward keep S x lo n = pick (ltb 1 S.length) (low_at keep S.length x (place S lo n)) (x (place S lo n))
line_forward keep S x hi n = pick (ltb 1 S.length) (high_at keep S.length x (place S hi n)) (keep (pos 2 *ℤ x (place S hi n)))

-- The line that has given values: its halves, and as a whole. An only high value is halved, and an odd one is no line's (`has_line` of Grid; number 14).
unfoldable pub line_halves_back : (ℤ → ℤ) → Side → (Half → ℕ → ℤ) → Half → ℕ → ℤ
line_halves_back keep S c lo n = pick (ltb 1 S.length) (even_at keep S.length (joined S c) (place S lo n)) (c lo n)
line_halves_back keep S c hi n = pick (ltb 1 S.length) (odd_at keep S.length (joined S c) (place S hi n)) (shr_z (c hi n) 2)

unfoldable pub line_back : (ℤ → ℤ) → Side → (Half → ℕ → ℤ) → ℕ → ℤ
line_back keep S c = joined S (line_halves_back keep S c)
