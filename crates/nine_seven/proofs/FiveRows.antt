-- The laws of a row call by four other rows, for any rule f, and the loop that sweeps row t: its invariant, how it starts, a turn, and how it ends.
-- Assumes nothing.
use mathlib.Core.Path.{◌≡◌}
use mathlib.Core.Logic.{◌≢◌}
use mathlib.Core.Bool.{true, false}
use mathlib.Core.List.{List}
use Prim.Native.Nat.{ℕ, ◌+◌, ◌*◌, ◌≤◌, ◌<◌}
use native.Mathlib.Nat.{add_assoc, add-sub_cancel_left}
use native.Mathlib.Decide.{dec_lt, ℕ_discrete}
use native.Mathlib.Omega.{arith}
use lib.IntN.{ℤ}
use lib.ListN.{length, set}
use borrow.Author.Tests.{le-leb, lt-leb, lt-ltb, le-ltb}
use Rattle.numbers.specs.Signal.{at}
use Rattle.numbers.proofs.Sweep.{Swept, start, store, left, finish, both}
use Rattle.lifting.specs.Rows.{row_fits, rows_fit}
use Rattle.lifting.proofs.RowLaws.{RowIn, RowsIn, row_in, rows-in, row-fits, rows-fit, row-order}
use Rattle.nine_seven.specs.Rows.{five_fit, row_by, rows_by}

pub record FiveIn (n s w t a b c e : ℕ) : Type 0 where
  pub three : RowsIn n s w t a b
  pub four : RowIn n s w c
  pub five : RowIn n s w e

pub five-in : (n s w t a b c e : ℕ) → five_fit n s w t a b c e ≡ true → FiveIn n s w t a b c e
unfolding five_fit
five-in n s w t a b c e h =
    let p = both (rows_fit n s w t a b) _ h in
    let q = both (row_fits n s w c) _ p.1 in
    record { three = rows-in n s w t a b p.0; four = row_in n s w c q.0; five = row_in n s w e q.1 }

pub five-fit : (n s w t a b c e : ℕ) → w ≤ s → t * s + w ≤ n → a * s + w ≤ n → b * s + w ≤ n → c * s + w ≤ n → e * s + w ≤ n → five_fit n s w t a b c e ≡ true
unfolding five_fit
five-fit n s w t a b c e wide r₁ r₂ r₃ r₄ r₅ = simp (rows-fit n s w t a b wide r₁ r₂ r₃, row-fits n s w c wide r₄, row-fits n s w e wide r₅)

module _ (f : ℤ → ℤ → ℤ → ℤ → ℤ → ℤ) (s w t a b c e : ℕ) (x : ℕ → ℤ) where
  pub changed : (n : ℕ) → five_fit n s w t a b c e ≡ true → rows_by f n s w t a b c e x ≡ row_by f s w t a b c e x
  unfolding rows_by
  changed n h = simp h

  pub unchanged : (n : ℕ) → five_fit n s w t a b c e ≡ false → rows_by f n s w t a b c e x ≡ x
  unfolding rows_by
  unchanged n h = simp h

  pub row-at : (i : ℕ) → i < w → row_by f s w t a b c e x (t * s + i) ≡ f (x (t * s + i)) (x (a * s + i)) (x (b * s + i)) (x (c * s + i)) (x (e * s + i))
  unfolding row_by
  row-at i h = simp (le-leb (t * s) (t * s + i) (omega arith), lt-ltb (t * s + i) (t * s + w) (omega arith), add-sub_cancel_left)

  pub row-before : (j : ℕ) → j < t * s → row_by f s w t a b c e x j ≡ x j
  unfolding row_by
  row-before j h = simp (lt-leb (t * s) j h)

  pub row-past : (j : ℕ) → t * s + w ≤ j → row_by f s w t a b c e x j ≡ x j
  unfolding row_by
  row-past j h = simp (le-leb (t * s) j (omega arith), le-ltb j (t * s + w) h)

  pub row_other : (q i : ℕ) → q ≢ t → w ≤ s → i < s → row_by f s w t a b c e x (q * s + i) ≡ x (q * s + i)
  row_other q i ne wide h =
      elim (dec_lt q t) [
        | yes p ↦ let o = row-order s q t p in row-before (q * s + i) (omega arith)
        | no d ↦ let o = row-order s t q (omega arith) in row-past (q * s + i) (omega arith)
      ]

-- before turn i, m₀ being the area at the start: up to place i of the row the area m is changed, and from there on it is as it was
pub record Turned (f : ℤ → ℤ → ℤ → ℤ → ℤ → ℤ) (s w t a b c e : ℕ) (m₀ : List ℤ) (i : ℕ) (m : List ℤ) : Type 0 where
  pub within : i ≤ w
  pub rows : FiveIn (length m₀) s w t a b c e
  pub swept : Swept (length m₀) (row_by f s w t a b c e (at m₀)) (at m₀) (t * s + i) m

module _ (f : ℤ → ℤ → ℤ → ℤ → ℤ → ℤ) (s w t a b c e : ℕ) (m₀ : List ℤ) where
  pub row-start : FiveIn (length m₀) s w t a b c e → Turned f s w t a b c e m₀ 0 m₀
  row-start rows = record { within = omega arith; rows = rows; swept = start m₀ _ _ (λ j lt. row-before f s w t a b c e (at m₀) j (omega arith)) }

  -- what a turn reads, in its own row or another, is not yet written
  unwritten : (i : ℕ) (m : List ℤ) → Turned f s w t a b c e m₀ i m → i < w → (q : ℕ) → at m (q * s + i) ≡ at m₀ (q * s + i)
  unwritten i m v h q =
      elim (ℕ_discrete q t) [
        | yes p ↦ v.swept.rest (q * s + i) (rw p (omega arith))
        | no d ↦ left (q * s + i) v.swept (row_other f s w t a b c e (at m₀) q i d v.rows.three.one.wide (omega arith))
      ]

  pub row-turn : (i : ℕ) (m : List ℤ) → Turned f s w t a b c e m₀ i m → i < w
      → Turned f s w t a b c e m₀ (i + 1)
      (set m (t * s + i) (f (at m (t * s + i)) (at m (a * s + i)) (at m (b * s + i)) (at m (c * s + i)) (at m (e * s + i))))
  row-turn i m v h =
      let u = unwritten i m v h in
      let k = row-at f s w t a b c e (at m₀) i h in
      record { within = omega arith; rows = v.rows; swept = rw (← add_assoc) (store _ v.swept (omega arith) (cc (u t, u a, u b, u c, u e, k))) }

  pub row-end : (i : ℕ) (m : List ℤ) → Turned f s w t a b c e m₀ i m → w ≤ i → at m ≡ row_by f s w t a b c e (at m₀)
  row-end i m v h = finish v.swept (λ j past. row-past f s w t a b c e (at m₀) j (omega arith))
