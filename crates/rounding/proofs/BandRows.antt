-- What the rounding leaves, by the view's places, and what a rounded value is.
--     rounded-places    value c of row r of band b of level k, at the place that the view gives it, is rounded as its band is: LL stays
--     nearest           a value rounded is a multiple of the step, less than the step from it, on its side of zero and no further from it
-- Assumes nothing.
use mathlib.Core.Path.{◌≡◌, refl, sym, ap, ◌∙◌}
use mathlib.Core.Bool.{Bool, true, false}
use Prim.Native.Nat.{ℕ, zero, suc, ◌+◌, ◌-◌, ◌*◌, ◌/◌, ◌≤◌, ◌<◌}
use native.Mathlib.Nat.{div-mul-le_self, lt-div-mul-add}
use native.Mathlib.Omega.{arith}
use lib.IntN.{ℤ, pos, negsuc, neg_ℤ, nat_abs}
use lib.Dec.{ltb}
use borrow.Author.Tests.{lt-ltb, le-ltb}
use Rattle.numbers.specs.Signal.{pick}
use Rattle.lifting.specs.Line.{lo}
use Rattle.lifting.specs.Grid.{Side, side, count}
use Rattle.wavelet.specs.Bands.{Grid, Band, LL, HL, LH, HH, across, down}
use Rattle.wavelet.specs.Levels.{side_at}
use Rattle.wavelet.specs.Plane.{cells}
use Rattle.wavelet.specs.View.{band_rows, band_columns, band_start}
use Rattle.wavelet.proofs.GridLaws.{flat-at}
use Rattle.wavelet.proofs.SideLaws.{size-falls, length_back}
use Rattle.wavelet.proofs.PlaneLayout.{Stands, plane_row, plane_column, place_is, row_in, column-in}
use Rattle.wavelet.proofs.SidePlaces.{offset}
use Rattle.rounding.specs.Rounding.{toward_zero, rounded_cell, rounded_plane, band_rounded}
use Rattle.rounding.proofs.RoundLaws.{in_last, corner}

-- ---- one value
pub record Nearest (q : ℕ) (v w : ℤ) : Type 0 where
  pub times : ℕ
  pub size : nat_abs w ≡ times * q
  pub close : nat_abs v < nat_abs w + q
  pub toward : nat_abs w ≤ nat_abs v

opposite-size : (n : ℕ) → nat_abs (neg_ℤ (pos n)) ≡ n
opposite-size zero = refl
opposite-size (suc n) = refl

pub nearest : (q : ℕ) (v : ℤ) → 1 ≤ q → Nearest q v (toward_zero q v)
unfolding toward_zero
nearest q (pos n) h = record { times = n / q; size = refl; close = omega (arith, lt-div-mul-add {a = n} h); toward = div-mul-le_self n q }
nearest q (negsuc n) h =
    let e = opposite-size (suc n / q * q) in
    record { times = suc n / q; size = e; close = omega (arith, lt-div-mul-add {a = suc n} h, e); toward = omega (arith, div-mul-le_self (suc n) q, e) }

-- ---- the band rows
either : (t : Bool) (v w : ℤ) → pick (pick t false false) v w ≡ w
either true v w = refl
either false v w = refl

falls : (k d : ℕ) (S : Side) → (side_at (k + d) S).length ≤ (side_at k S).length
falls k zero S = let e : k + 0 ≡ k = omega arith in rw e (omega arith)
falls k (suc d) S = let e : k + suc d ≡ suc (k + d) = omega arith in rw e (omega (arith, falls k d S, size-falls (k + d) S))

below : (k L : ℕ) (S : Side) → k ≤ L → (side_at L S).length ≤ (side_at k S).length
below k L S h = let e : k + (L - k) ≡ L = omega arith in rw e at (falls k (L - k) S)

module _ (L : ℕ) (W H : Side) (q : ℕ) (x : Grid) where
  module _ (r c : ℕ) (u : r < H.length) (v : c < W.length) where
    stays : r < (side_at L H).length → c < (side_at L W).length → rounded_cell L W H q x r c ≡ x r c
    unfolding in_last
    stays a b = corner L W H q x r c u v ∙ simp (lt-ltb r (side_at L H).length a, lt-ltb c (side_at L W).length b)

    under : (side_at L H).length ≤ r → rounded_cell L W H q x r c ≡ toward_zero q (x r c)
    unfolding in_last
    under a = corner L W H q x r c u v ∙ simp (le-ltb r (side_at L H).length a)

    beside : (side_at L W).length ≤ c → rounded_cell L W H q x r c ≡ toward_zero q (x r c)
    unfolding in_last
    beside a = corner L W H q x r c u v ∙ simp (le-ltb c (side_at L W).length a) (either (ltb r (side_at L H).length) (x r c) _)

  cell-rounded : (k : ℕ) (b : Band) (r c : ℕ) → Stands L W H k b r c →
      rounded_cell L W H q x (plane_row H k b r) (plane_column W k b c) ≡ band_rounded q b (x (plane_row H k b r) (plane_column W k b c))
  unfolding band_rounded offset across down band_rows band_columns
  cell-rounded k LL r c s =
      let e = s.last refl in
      stays _ _ (row_in L W H k LL r c s) (column-in L W H k LL r c s)
      (omega (arith, s.row, length_back L H (omega (arith, s.deep)), ap (λ (i : ℕ). count lo (side_at (i - 1) H)) e))
      (omega (arith, s.column, length_back L W (omega (arith, s.deep)), ap (λ (i : ℕ). count lo (side_at (i - 1) W)) e))
  cell-rounded k HL r c s = beside _ _ (row_in L W H k HL r c s) (column-in L W H k HL r c s) (omega (arith, below k L W s.most))
  cell-rounded k LH r c s = under _ _ (row_in L W H k LH r c s) (column-in L W H k LH r c s) (omega (arith, below k L H s.most))
  cell-rounded k HH r c s = under _ _ (row_in L W H k HH r c s) (column-in L W H k HH r c s) (omega (arith, below k L H s.most))

-- in memory: W columns and H rows
pub rounded-places : (L W H q : ℕ) (x : ℕ → ℤ) (k : ℕ) (b : Band) (r c : ℕ) → Stands L (side 0 W) (side 0 H) k b r c →
    rounded_plane L W H q x (band_start (side 0 W) (side 0 H) k b r + c) ≡ band_rounded q b (x (band_start (side 0 W) (side 0 H) k b r + c))
unfolding rounded_plane cells
rounded-places L W H q x k b r c s =
    let e = place_is (side 0 W) (side 0 H) k b r c in
    ap (rounded_plane L W H q x) e
    ∙ flat-at W (rounded_cell L (side 0 W) (side 0 H) q (cells W x)) _ _ (column-in L (side 0 W) (side 0 H) k b r c s)
    ∙ cell-rounded L (side 0 W) (side 0 H) q (cells W x) k b r c s
    ∙ ap (λ (i : ℕ). band_rounded q b (x i)) (sym e)
