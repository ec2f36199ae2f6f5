-- How far apart two lines by the 5/3 are on the way back, floors included, for values that are at most so far apart: the two laws of one line, and then a whole
-- line. What is done to each sum of the first line (`fix`) brings nothing further from the second.
--     even-apart        an even value is off by at most s + ceil(h/2), s for the low value and h for the high ones
--     odd-apart         an odd one by d + e, d for the high value and e for the even ones
--     line-apart        so no value of a line is off by more than s + h + ceil(h/2)
-- Assumes nothing.
use mathlib.Core.Path.{◌≡◌, refl, sym, ap, ◌∙◌}
use Prim.Native.Nat.{ℕ, zero, suc, ◌+◌, ◌≤◌, ◌<◌}
use native.Mathlib.Decide.{dec_lt}
use native.Mathlib.Omega.{arith}
use lib.IntN.{ℤ, pos, nat_abs, ◌+ℤ◌, ◌-ℤ◌}
use lib.Signed.{shr_z}
use Rattle.numbers.specs.Word.{whole}
use Rattle.numbers.proofs.Integers.{each, lin}
use Rattle.lifting.specs.Line.{Half, lo, hi}
use Rattle.lifting.specs.Grid.{Side, place, count, joined, line_halves_back}
use Rattle.lifting.proofs.GridLaws.{even-one, odd-one, joined-place, by_place, in_place}
use Rattle.lifting.proofs.Neighbours.{left, right, left-in, right-in}
use Rattle.lifting.proofs.FiveThree.{half_sum, quarter_sum, even-by, odd-by}
use Rattle.tolerance.specs.Figure.{half_up}

-- x is at most e from y
abbrev pub Apart : ℕ → ℤ → ℤ → Type 0
Apart e x y = nat_abs (x -ℤ y) ≤ e

-- ---- the two laws
quarter-apart : (h : ℕ) (a b c d : ℤ) → Apart h a c → Apart h b d → Apart (half_up h) (quarter_sum a b) (quarter_sum c d)
unfolding half_up
quarter-apart h = each _ λ p q. each _ λ r s. each _ λ t u. each _ λ v w. simp lin (omega arith)

half-apart : (e : ℕ) (a b c d : ℤ) → Apart e a c → Apart e b d → Apart e (half_sum a b) (half_sum c d)
half-apart e = each _ λ p q. each _ λ r s. each _ λ t u. each _ λ v w. simp lin (omega arith)

less-apart : (s h : ℕ) (x y a b : ℤ) → Apart s x y → Apart h a b → Apart (s + h) (x -ℤ a) (y -ℤ b)
less-apart s h = each _ λ p q. each _ λ r t. each _ λ u v. each _ λ w z. simp lin (omega arith)

more-apart : (s h : ℕ) (x y a b : ℤ) → Apart s x y → Apart h a b → Apart (s + h) (x +ℤ a) (y +ℤ b)
more-apart s h = each _ λ p q. each _ λ r t. each _ λ u v. each _ λ w z. simp lin (omega arith)

pub even-apart : (s h : ℕ) (x y a b c d : ℤ) → Apart s x y → Apart h a c → Apart h b d →
    Apart (s + half_up h) (x -ℤ quarter_sum a b) (y -ℤ quarter_sum c d)
even-apart s h x y a b c d p q r = less-apart s (half_up h) x y (quarter_sum a b) (quarter_sum c d) p (quarter-apart h a b c d q r)

pub odd-apart : (h e : ℕ) (x y a b c d : ℤ) → Apart h x y → Apart e a c → Apart e b d → Apart (h + e) (x +ℤ half_sum a b) (y +ℤ half_sum c d)
odd-apart h e x y a b c d p q r = more-apart h e x y (half_sum a b) (half_sum c d) p (half-apart e a b c d q r)

-- ---- a line
single-apart : (h : ℕ) (x y : ℤ) → Apart h x y → Apart h (shr_z x 2) (shr_z y 2)
single-apart h = each _ λ p q. each _ λ r s. simp lin (omega arith)

-- the lines that have the values c' and c, the first with `fix` done to each sum
module _ (S : Side) (fix : ℤ → ℤ) (c' c : Half → ℕ → ℤ) (s h : ℕ)
    (lows : (n : ℕ) → n < count lo S → Apart s (c' lo n) (c lo n))
    (highs : (n : ℕ) → n < count hi S → Apart h (c' hi n) (c hi n))
    (fixed : (a : Half) (n : ℕ) → n < count a S → (v : ℤ) (e : ℕ) → Apart e v (line_halves_back whole S c a n)
    → Apart e (fix v) (line_halves_back whole S c a n)) where
  evens : (n : ℕ) → n < count lo S → Apart (s + half_up h) (line_halves_back fix S c' lo n) (line_halves_back whole S c lo n)
  evens n b =
      elim (dec_lt 1 S.length) [
        | yes g ↦
            let l = (left-in hi S n g b).0 in
            let r = (right-in hi S n g b).0 in
            let near = even-apart s h (c' lo n) (c lo n) (c' hi (left hi S n)) (c' hi (right hi S n)) (c hi (left hi S n)) (c hi (right hi S n))
            (lows n b) (highs (left hi S n) l) (highs (right hi S n) r) in
            let e = even-by whole S g c n b in
            rw (even-by fix S g c' n b) (fixed lo n b _ _ (rw e near))
        | no g ↦
            let near = lows n b in
            rw (even-one S (omega arith) fix c' n, even-one S (omega arith) whole c n) (omega arith)
      ]

  odds : (n : ℕ) → n < count hi S → Apart (h + (s + half_up h)) (line_halves_back fix S c' hi n) (line_halves_back whole S c hi n)
  odds n b =
      elim (dec_lt 1 S.length) [
        | yes g ↦
            let l = (left-in lo S n g b).0 in
            let r = (right-in lo S n g b).0 in
            let near = odd-apart h (s + half_up h) (c' hi n) (c hi n)
            (line_halves_back fix S c' lo (left lo S n)) (line_halves_back fix S c' lo (right lo S n))
            (line_halves_back whole S c lo (left lo S n)) (line_halves_back whole S c lo (right lo S n)) (highs n b)
            (evens (left lo S n) l) (evens (right lo S n) r) in
            let e = odd-by whole S g c n b in
            rw (odd-by fix S g c' n b) (fixed hi n b _ _ (rw e near))
        | no g ↦
            let near = single-apart h (c' hi n) (c hi n) (highs n b) in
            rw (odd-one S (omega arith) fix c' n, odd-one S (omega arith) whole c n) (omega arith)
      ]

  pub halves-apart : (a : Half) (n : ℕ) → n < count a S → Apart (s + h + half_up h) (line_halves_back fix S c' a n) (line_halves_back whole S c a n)
  halves-apart lo n b = let e = evens n b in omega arith
  halves-apart hi n b = let e = odds n b in omega arith

  pub line-apart : (i : ℕ) → i < S.length → Apart (s + h + half_up h) (joined S (line_halves_back fix S c') i) (joined S (line_halves_back whole S c) i)
  line-apart =
      by_place S (λ i. i < S.length → Apart (s + h + half_up h) (joined S (line_halves_back fix S c') i) (joined S (line_halves_back whole S c) i))
      (λ a n b. rw (joined-place S (line_halves_back fix S c') a n, joined-place S (line_halves_back whole S c) a n) (halves-apart a n (in_place S a n b)))
