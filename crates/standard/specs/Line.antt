-- A line as ITU-T T.800, Annex F, has it, in whole numbers: a signal X on the coordinates i0 ≤ i < i1 of the grid is extended to all whole numbers, then
-- lifted in two steps. The steps are the 5/3's, or the 9/7's of document 02 (Q-8).
use Rattle.std.specs.Prelude.{ℕ, ◌+◌, ◌-◌, ◌*◌, ◌/◌, ◌%◌, min, ℤ, pos, neg_ℤ, nat_abs, ◌+ℤ◌, ◌-ℤ◌, ◌*ℤ◌, eqb}
use Rattle.std.specs.Int.Signed.{shr_z}
use Rattle.numbers.specs.Signal.{pick}
use Rattle.lifting.specs.Line.{Half, lo, hi}
use Rattle.lifting.specs.Grid.{Side}

-- the coordinates i of a line: i0 ≤ i < i1
pub record Interval : Type 0 where
  pub i0 : ℕ
  pub i1 : ℕ

abbrev pub interval : ℕ → ℕ → Interval
interval i0 i1 = record { i0 = i0; i1 = i1 }

-- ---- the extension
-- the remainder of z by m, from 0 to m − 1: z − m ⌊z / m⌋. (`shr_z z m` is ⌊z / m⌋: floor goes toward minus infinity.)
unfoldable pub remainder : ℤ → ℕ → ℕ
remainder z m = nat_abs (z -ℤ pos m *ℤ shr_z z m)

-- The "periodic symmetric extension": mirrored about both end samples, which are not repeated, as often as needed. It comes round after 2(i1 − i0 − 1) places:
-- PSE_O(i) = i0 + min(mod(i − i0, 2(i1 − i0 − 1)), 2(i1 − i0 − 1) − mod(i − i0, 2(i1 − i0 − 1))).
unfoldable pub period : Interval → ℕ
period I = 2 * (I.i1 - I.i0 - 1)

unfoldable pub folded : ℕ → ℕ → ℕ
folded p m = min m (p - m)

unfoldable pub mirrored : Interval → ℤ → ℕ
mirrored I i = I.i0 + folded (period I) (remainder (i -ℤ pos I.i0) (period I))

-- X(i) for every whole number i
unfoldable pub extended : Interval → (ℕ → ℤ) → ℤ → ℤ
extended I x i = x (mirrored I i)

-- ---- the two steps
-- What is taken of the sample at an odd coordinate i, by X(i − 1), X(i + 1), X(i − 3), X(i + 3), and what is put to the one at an even coordinate i, by the
-- high values at i − 1 and i + 1.
pub record LiftingSteps : Type 0 where
  pub predict : ℤ → ℤ → ℤ → ℤ → ℤ
  pub update : ℤ → ℤ → ℤ

-- T.800: Y(2n+1) = X(2n+1) − ⌊(X(2n) + X(2n+2)) / 2⌋, Y(2n) = X(2n) + ⌊(Y(2n−1) + Y(2n+1) + 2) / 4⌋.
abbrev pub five_three : LiftingSteps
five_three = record { predict = λ a b c e. shr_z (a +ℤ b) 2; update = λ a b. shr_z (a +ℤ b +ℤ pos 2) 4 }

-- 02: d(n) = x(2n+1) − ⌊(9 (x(2n) + x(2n+2)) − (x(2n−2) + x(2n+4)) + 8) / 16⌋, s(n) = x(2n) − ⌊(2 − d(n−1) − d(n)) / 4⌋.
abbrev pub nine_seven : LiftingSteps
nine_seven = record { predict = λ a b c e. shr_z (pos 9 *ℤ (a +ℤ b) -ℤ (c +ℤ e) +ℤ pos 8) 16; update = λ a b. neg_ℤ (shr_z (pos 2 -ℤ a -ℤ b) 4) }

-- the high value at an odd coordinate, from the extended signal
unfoldable pub high_at : LiftingSteps → (ℤ → ℤ) → ℤ → ℤ
high_at T X i = X i -ℤ T.predict (X (i -ℤ pos 1)) (X (i +ℤ pos 1)) (X (i -ℤ pos 3)) (X (i +ℤ pos 3))

-- and the low one at an even coordinate, from it and the high values
unfoldable pub low_at : LiftingSteps → (ℤ → ℤ) → ℤ → ℤ
low_at T X i = X i +ℤ T.update (high_at T X (i -ℤ pos 1)) (high_at T X (i +ℤ pos 1))

-- ---- the values Y of a line at its coordinates: even ones are low, odd ones high. A single sample stays as it is at an even coordinate and is doubled at an
-- odd one.
unfoldable pub at_parity : ℕ → ℤ → ℤ → ℤ
at_parity i even odd = pick (eqb (i % 2) 0) even odd

unfoldable pub transformed : LiftingSteps → Interval → (ℕ → ℤ) → ℕ → ℤ
transformed T I x i =
    pick (eqb (I.i1 - I.i0) 1)
    (at_parity i (x i) (pos 2 *ℤ x i))
    (at_parity i (low_at T (extended I x) (pos i)) (high_at T (extended I x) (pos i)))

-- The low values stand at the coordinates ⌈i0 / 2⌉ to ⌈i1 / 2⌉ − 1 of their own, u being 2u of the line; the high ones at ⌊i0 / 2⌋ to ⌊i1 / 2⌋ − 1, u being
-- 2u + 1.
unfoldable pub half_of : Half → Interval → Interval
half_of lo I = interval ((I.i0 + 1) / 2) ((I.i1 + 1) / 2)
half_of hi I = interval (I.i0 / 2) (I.i1 / 2)

unfoldable pub coordinate : Half → ℕ → ℕ
coordinate lo u = 2 * u
coordinate hi u = 2 * u + 1

-- ---- lines as the calls have them: samples and values counted from 0. Sample p of a line that starts at i0 stands at coordinate i0 + p.
abbrev pub over : Side → Interval
over S = interval S.start (S.start + S.length)

abbrev pub by_coordinate : ℕ → (ℕ → ℤ) → ℕ → ℤ
by_coordinate i0 x i = x (i - i0)

-- value n of a half of the line x
unfoldable pub line_value : LiftingSteps → Side → (ℕ → ℤ) → Half → ℕ → ℤ
line_value T S x h n = transformed T (over S) (by_coordinate S.start x) (coordinate h ((half_of h (over S)).i0 + n))
