-- The laws of a row call, for any step f.
--     row_in, row-fits        what the test says of one row, and its converse
--     rows-in, rows-fit       the same of the three rows
--     row_first, row-sum, ..  the places of column i of a row in memory
--     changed, unchanged      what a call leaves where the rows fit, and where they do not
--     row-at                  row t changed
--     row_other               any other row as it was
--     row-before, row-past    any place before or past row t as it was
-- Assumes nothing.
use mathlib.Core.Path.{◌≡◌}
use mathlib.Core.Logic.{◌≢◌}
use mathlib.Core.Bool.{true, false}
use Prim.Native.Nat.{ℕ, ◌+◌, ◌-◌, ◌*◌, ◌^◌, ◌≤◌, ◌<◌}
use native.Mathlib.Nat.{mul-le-mul_right, suc-mul, add-sub_cancel_left}
use native.Mathlib.Decide.{dec_lt}
use native.Mathlib.Omega.{arith}
use lib.IntN.{ℤ}
use lib.Dec.{leb}
use mir.Syntax.{w64}
use mir.Val.{Fits}
use borrow.Author.Tests.{le-leb, lt-leb, lt-ltb, le-ltb, leb-true}
use Rattle.numbers.proofs.Sweep.{both}
use Rattle.lifting.specs.Rows.{row_fits, rows_fit, row_changed, rows_changed}

pub record RowIn (n s w t : ℕ) : Type 0 where
  pub wide : w ≤ s
  pub room : t * s + w ≤ n

pub row_in : (n s w t : ℕ) → row_fits n s w t ≡ true → RowIn n s w t
unfolding row_fits
row_in n s w t h = let a = both (leb w s) _ h in record { wide = leb-true _ _ a.0; room = leb-true _ _ a.1 }

pub row-fits : (n s w t : ℕ) → w ≤ s → t * s + w ≤ n → row_fits n s w t ≡ true
unfolding row_fits
row-fits n s w t wide room = simp (le-leb w s wide, le-leb (t * s + w) n room)

-- the measure of a loop that goes up to e
pub falls : (e n : ℕ) → n < e → e - (n + 1) < e - n
falls e n b = omega arith

module _ {n s w t : ℕ} (p : RowIn n s w t) where
  pub row_within : (i : ℕ) → i < w → i < s
  row_within i h = omega arith

  -- M numbers are as many
  pub row-place : (M i : ℕ) → M ≡ n → i < w → t * s + i < M
  row-place M i e h = omega arith

  pub row_first : n * 4 < 2 ^ 63 → Fits w64 (t * s)
  row_first small = omega arith

  pub row-sum : n * 4 < 2 ^ 63 → (i : ℕ) → i < w → Fits w64 (t * s + i)
  row-sum small i h = omega arith

  pub row_next : n * 4 < 2 ^ 63 → (i : ℕ) → i < w → Fits w64 (i + 1)
  row_next small i h = omega arith

pub record RowsIn (n s w t l r : ℕ) : Type 0 where
  pub one : RowIn n s w t
  pub two : RowIn n s w l
  pub three : RowIn n s w r

pub rows-in : (n s w t l r : ℕ) → rows_fit n s w t l r ≡ true → RowsIn n s w t l r
unfolding rows_fit
rows-in n s w t l r h =
    let a = both (row_fits n s w t) _ h in
    let b = both (row_fits n s w l) _ a.1 in
    record { one = row_in n s w t a.0; two = row_in n s w l b.0; three = row_in n s w r b.1 }

pub rows-fit : (n s w t l r : ℕ) → w ≤ s → t * s + w ≤ n → l * s + w ≤ n → r * s + w ≤ n → rows_fit n s w t l r ≡ true
unfolding rows_fit
rows-fit n s w t l r wide a b d = simp (row-fits n s w t wide a, row-fits n s w l wide b, row-fits n s w r wide d)

-- row q ends where a later row t begins, or before
pub row-order : (s q t : ℕ) → q < t → q * s + s ≤ t * s
row-order s q t h = rw (← suc-mul) (mul-le-mul_right s h)

module _ (f : ℤ → ℤ → ℤ → ℤ) (s w t l r : ℕ) (x : ℕ → ℤ) where
  pub changed : (n : ℕ) → rows_fit n s w t l r ≡ true → rows_changed f n s w t l r x ≡ row_changed f s w t l r x
  unfolding rows_changed
  changed n h = simp h

  pub unchanged : (n : ℕ) → rows_fit n s w t l r ≡ false → rows_changed f n s w t l r x ≡ x
  unfolding rows_changed
  unchanged n h = simp h

  pub row-at : (i : ℕ) → i < w → row_changed f s w t l r x (t * s + i) ≡ f (x (t * s + i)) (x (l * s + i)) (x (r * s + i))
  unfolding row_changed
  row-at i h = simp (le-leb (t * s) (t * s + i) (omega arith), lt-ltb (t * s + i) (t * s + w) (omega arith), add-sub_cancel_left)

  pub row-before : (j : ℕ) → j < t * s → row_changed f s w t l r x j ≡ x j
  unfolding row_changed
  row-before j h = simp (lt-leb (t * s) j h)

  pub row-past : (j : ℕ) → t * s + w ≤ j → row_changed f s w t l r x j ≡ x j
  unfolding row_changed
  row-past j h = simp (le-leb (t * s) j (omega arith), le-ltb j (t * s + w) h)

  pub row_other : (q i : ℕ) → q ≢ t → w ≤ s → i < s → row_changed f s w t l r x (q * s + i) ≡ x (q * s + i)
  row_other q i ne wide h =
      elim (dec_lt q t) [
        | yes p ↦ let a = row-order s q t p in row-before (q * s + i) (omega arith)
        | no d ↦ let a = row-order s t q (omega arith) in row-past (q * s + i) (omega arith)
      ]
