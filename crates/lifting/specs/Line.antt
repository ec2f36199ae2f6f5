-- The reversible 5/3 lifting of one line: document 01, "The lifting of a line"; ITU-T T.800, Annex F.
-- A line is x(0) to x(N−1): a signal x with its length N.
-- Sums are taken over whole numbers. `keep` is what is stored of a sum: all of it (`whole`, T.800's own arithmetic) or what 32 bits keep of it (`wrap32`, what
-- the calls do).
use Rattle.std.specs.Prelude.{ℕ, ◌+◌, ◌-◌, ◌*◌, ◌/◌, ◌%◌, min, ℤ, pos, nat_abs, ◌+ℤ◌, ◌-ℤ◌, ltb, eqb}
use Rattle.std.specs.Int.Signed.{shr_z}
use Rattle.numbers.specs.Signal.{pick}

-- The two formulas, and the same with the signs turned. `shr_z z m` is ⌊z / m⌋: floor goes toward minus infinity.
unfoldable pub predicted : (ℤ → ℤ) → ℤ → ℤ → ℤ → ℤ
predicted keep x a b = keep (x -ℤ shr_z (a +ℤ b) 2)

unfoldable pub updated : (ℤ → ℤ) → ℤ → ℤ → ℤ → ℤ
updated keep x a b = keep (x +ℤ shr_z (a +ℤ b +ℤ pos 2) 4)

unfoldable pub unupdated : (ℤ → ℤ) → ℤ → ℤ → ℤ → ℤ
unupdated keep x a b = keep (x -ℤ shr_z (a +ℤ b +ℤ pos 2) 4)

unfoldable pub unpredicted : (ℤ → ℤ) → ℤ → ℤ → ℤ → ℤ
unpredicted keep x a b = keep (x +ℤ shr_z (a +ℤ b) 2)

-- Outside the line it is mirrored about its end samples, which are not repeated: place −1 is place 1, place N is place N − 2.
unfoldable pub mirror : ℕ → ℤ → ℕ
mirror N p = min (nat_abs p) (2 * (N - 1) - nat_abs p)

-- High: d(n) = x(2n+1) − ⌊(x(2n) + x(2n+2)) / 2⌋.
unfoldable pub high : (ℤ → ℤ) → ℕ → (ℕ → ℤ) → ℕ → ℤ
high keep N x n = predicted keep (x (2 * n + 1)) (x (2 * n)) (x (mirror N (pos (2 * n + 2))))

-- d(n) stands at place 2n+1 of the line. A d outside the line is the one at the mirrored place.
unfoldable pub high_at : ℕ → (ℕ → ℤ) → ℤ → ℤ
high_at N d p = d (mirror N p / 2)

-- Low: s(n) = x(2n) + ⌊(d(n−1) + d(n) + 2) / 4⌋. A line of one sample has s(0) = x(0).
unfoldable pub low : (ℤ → ℤ) → ℕ → (ℕ → ℤ) → ℕ → ℤ
low keep N x n =
    pick (ltb 1 N)
    (updated keep (x (2 * n)) (high_at N (high keep N x) (pos (2 * n) -ℤ pos 1)) (high_at N (high keep N x) (pos (2 * n + 1))))
    (x (2 * n))

-- Back: x(2n) from s and d first, then x(2n+1).
unfoldable pub back_even : (ℤ → ℤ) → ℕ → (ℕ → ℤ) → (ℕ → ℤ) → ℕ → ℤ
back_even keep N s d n =
    pick (ltb 1 N)
    (unupdated keep (s n) (high_at N d (pos (2 * n) -ℤ pos 1)) (high_at N d (pos (2 * n + 1))))
    (s n)

unfoldable pub back_odd : (ℤ → ℤ) → ℕ → (ℕ → ℤ) → (ℕ → ℤ) → ℕ → ℤ
back_odd keep N s d n =
    unpredicted keep (d n) (back_even keep N s d n) (back_even keep N s d (mirror N (pos (2 * n + 2)) / 2))

-- ---- both halves of a line
pub data Half : Type 0 where
  lo hi : Half
  deriving Discrete as Half-discrete

-- There are ⌈N / 2⌉ low and ⌊N / 2⌋ high values.
unfoldable pub count : Half → ℕ → ℕ
count lo N = (N + 1) / 2
count hi N = N / 2

-- the line whose even and odd places these are
unfoldable pub joined : (Half → ℕ → ℤ) → ℕ → ℤ
joined p i = pick (eqb (i % 2) 0) (p lo (i / 2)) (p hi (i / 2))

-- the low and the high values of a line, and the line that has given ones
unfoldable pub line_forward : (ℤ → ℤ) → ℕ → (ℕ → ℤ) → Half → ℕ → ℤ
line_forward keep N x lo = low keep N x
line_forward keep N x hi = high keep N x

unfoldable pub line_halves_back : (ℤ → ℤ) → ℕ → (Half → ℕ → ℤ) → Half → ℕ → ℤ
line_halves_back keep N c lo = back_even keep N (c lo) (c hi)
line_halves_back keep N c hi = back_odd keep N (c lo) (c hi)

unfoldable pub line_back : (ℤ → ℤ) → ℕ → (Half → ℕ → ℤ) → ℕ → ℤ
line_back keep N c = joined (line_halves_back keep N c)
