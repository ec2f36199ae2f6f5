-- A set without a fed row of its own is its level's last, of a level that has an even column alone and is not the last one. Assumes nothing.
use mathlib.Core.Path.{◌≡◌, refl, sym, ◌∙◌}
use mathlib.Core.Bool.{Bool, true, false}
use mathlib.Core.Logic.{◌⊎◌, inl, inr, ⊎_elim}
use mathlib.Core.List.{List, [], ◌∷◌}
use Prim.Native.Nat.{ℕ, zero, suc, ◌+◌, ◌-◌, ◌*◌, ◌/◌, ◌≤◌, ◌<◌}
use native.Mathlib.Decide.{dec_lt}
use native.Mathlib.Omega.{arith}
use lib.Dec.{ltb, leb}
use borrow.Author.Tests.{lt-ltb, le-leb}
use Rattle.numbers.specs.Signal.{pick, both}
use Rattle.lifting.specs.Line.{lo, hi}
use Rattle.wavelet.specs.Bands.{Band, LL, HL, LH, HH, across, down}
use Rattle.wavelet.specs.Order.{row_name}
use Rattle.standard.specs.Line.{Interval, half_of}
use Rattle.standard.specs.Transform.{size}
use Rattle.standard.specs.WriterOrder.{has, band_rows, waiting}

-- a band that has its row has it in the list
pub no-list : {A : Type 0} (x : A) (l : List A) → x ∷ l ≡ [] → ⊥
no-list x l e = let z : ◌≡◌ {A = ℕ} 0 1 = cc in omega arith

not-both : (u v w : Bool) → u ≡ true → v ≡ true → w ≡ true → both u (both v w) ≡ false → ⊥
not-both u v w x y z e = let t : ◌≡◌ {A = Bool} true false = sym (rw (x, y, z) refl) ∙ e in absurd-bool t
  where
    absurd-bool : ◌≡◌ {A = Bool} true false → ⊥
    absurd-bool t = let o : ◌≡◌ {A = ℕ} 0 1 = cc in omega arith

module _ (k : ℕ) (W H : Interval) (n : ℕ) where
  skipped : (b : Band) (bs : List Band) → band_rows k W H n (b ∷ bs) ≡ [] → (band_rows k W H n bs ≡ [])
      × (0 < size (half_of (across b) W) → (half_of (down b) H).i0 ≤ n → n < (half_of (down b) H).i1 → ⊥)
  unfolding band_rows has
  skipped b bs e =
      elim test as (λ t. test ≡ t → pick t (row_name k b (n - (half_of (down b) H).i0) ∷ band_rows k W H n bs) (band_rows k W H n bs) ≡ [] →
      (band_rows k W H n bs ≡ []) × (0 < size (half_of (across b) W) → (half_of (down b) H).i0 ≤ n → n < (half_of (down b) H).i1 → ⊥)) [
        | true ↦ λ _ d. absurd (no-list _ _ d)
        | false ↦ λ t d. (
          d,
          λ p q r.
              let u = lt-ltb 0 (size (half_of (across b) W)) p in
              let v = le-leb (half_of (down b) H).i0 n q in
              let w = lt-ltb n (half_of (down b) H).i1 r in
              not-both (ltb 0 (size (half_of (across b) W))) (leb (half_of (down b) H).i0 n) (ltb n (half_of (down b) H).i1) u v w t,
        )
      ] refl e
    where
      test : Bool
      test = both (ltb 0 (size (half_of (across b) W))) (both (leb (half_of (down b) H).i0 n) (ltb n (half_of (down b) H).i1))

-- the columns are the even ones and the odd ones, a set's rows those that the level has
columns-part : (W : Interval) → 0 < size W → (0 < size (half_of lo W)) ⊎ (0 < size (half_of hi W))
unfolding size half_of
columns-part W p =
    elim (dec_lt ((W.i0 + 1) / 2) ((W.i1 + 1) / 2)) [
      | yes l ↦ inl (omega arith)
      | no l ↦ inr (omega arith)
    ]

high-row : (H : Interval) (n : ℕ) → H.i0 ≤ 2 * n + 1 → 2 * n + 1 < H.i1 → ((half_of hi H).i0 ≤ n) × (n < (half_of hi H).i1)
unfolding half_of
high-row H n p q = (omega arith, omega arith)

low-row : (H : Interval) (n : ℕ) → H.i0 ≤ 2 * n → 2 * n < H.i1 → ((half_of lo H).i0 ≤ n) × (n < (half_of lo H).i1)
unfolding half_of
low-row H n p q = (omega arith, omega arith)

-- what is known of a set n without a fed row
pub record Single (l : ℕ) (W H : Interval) (n : ℕ) : Type 0 where
  -- its level is not the last one,
  pub below : 0 < l
  -- its only row is the level's last row, 2n,
  pub last : H.i1 ≡ 2 * n + 1
  -- and there is no odd column
  pub no-high : size (half_of hi W) ≡ 0

module _ (k : ℕ) (W H : Interval) (n : ℕ) (some : 0 < size W) (from : H.i0 ≤ 2 * n + 1) (to : 2 * n < H.i1) (rows : H.i0 < H.i1) where
  -- HL, LH and HH are without a row
  three : band_rows k W H n (HL ∷ LH ∷ HH ∷ []) ≡ [] → (H.i1 ≡ 2 * n + 1) × (size (half_of hi W) ≡ 0)
  unfolding across down
  three e =
      let a = skipped k W H n HL (LH ∷ HH ∷ []) e in
      let b = skipped k W H n LH (HH ∷ []) a.0 in
      let c = skipped k W H n HH [] b.0 in
      elim (dec_lt (2 * n + 1) H.i1) [
        | yes l ↦
            let h = high-row H n from l in
            absurd (⊎_elim (λ u. b.1 u h.0 h.1) (λ u. c.1 u h.0 h.1) (columns-part W some))
        | no l ↦
            let h = low-row H n (omega arith) to in
            (omega arith, elim (dec_lt 0 (size (half_of hi W))) [ yes u ↦ absurd (a.1 u h.0 h.1) | no u ↦ omega arith ])
      ]

  pub unfed-last : (l : ℕ) → waiting l k W H n ≡ [] → Single l W H n
  unfolding waiting across down
  unfed-last zero e =
      let a = skipped k W H n LL (HL ∷ LH ∷ HH ∷ []) e in
      let t = three a.0 in
      let h = low-row H n (omega arith) to in
      absurd (⊎_elim (λ u. a.1 u h.0 h.1) (λ u. omega arith) (columns-part W some))
  unfed-last (suc l) e = let t = three e in record { below = omega arith; last = t.0; no-high = t.1 }
