-- A rounded plane is off by at most q − 1 in HL, LH and HH, and not in LL. Assumes nothing.
use mathlib.Core.Path.{◌≡◌, refl, sym, ap, ap₂, ◌∙◌}
use mathlib.Core.Bool.{Bool, true, false}
use Prim.Native.Nat.{ℕ, zero, suc, ◌+◌, ◌-◌, ◌*◌, ◌/◌, ◌≤◌, ◌<◌}
use native.Mathlib.Nat.{div-mul-le_self, lt-div-mul-add}
use native.Mathlib.Omega.{arith}
use lib.IntN.{ℤ, pos, negsuc, neg_ℤ, nat_abs, ◌-ℤ◌}
use borrow.Author.Tests.{lt-ltb, le-ltb}
use Rattle.numbers.specs.Signal.{pick}
use Rattle.numbers.proofs.Integers.{lin, dif, dif_pos, dif_neg}
use Rattle.lifting.specs.Line.{lo}
use Rattle.lifting.specs.Grid.{Side, count}
use Rattle.wavelet.specs.Bands.{Grid, Band, LL, HL, LH, HH, across, down}
use Rattle.wavelet.specs.Levels.{next}
use Rattle.wavelet.specs.Plane.{in_corner}
use Rattle.wavelet.proofs.LevelTheory.{Same, band_in, placed}
use Rattle.rounding.specs.Rounding.{toward_zero, rounded_cell}
use Rattle.tolerance.specs.Figure.{half_up, even_error, odd_error, level_error, error_after}
use Rattle.tolerance.proofs.LineApart.{Apart}
use Rattle.rounding_error.proofs.LevelApart.{PlaneOff, none, more, off-reads}

-- ---- one value
multiple-near : (n q : ℕ) → 1 ≤ q → n ≤ n / q * q + (q - 1)
multiple-near n q h = omega (arith, lt-div-mul-add {a = n} h)

opposite : (n : ℕ) → neg_ℤ (pos n) ≡ dif 0 n
opposite n = ap neg_ℤ (dif_pos n) ∙ dif_neg n 0

above-near : (m n e : ℕ) → m ≤ n → n ≤ m + e → Apart e (pos m) (pos n)
above-near m n e h g = rw (dif_pos m, opposite n) (simp lin (omega arith))

below-near : (m n e : ℕ) → m ≤ n → n ≤ m + e → Apart e (neg_ℤ (pos m)) (neg_ℤ (pos n))
below-near m n e h g = rw (opposite m, opposite n) (simp lin (omega arith))

pub toward-near : (q : ℕ) (v : ℤ) → 1 ≤ q → Apart (q - 1) (toward_zero q v) v
unfolding toward_zero
toward-near q (pos n) h = above-near (n / q * q) n (q - 1) (div-mul-le_self n q) (multiple-near n q h)
toward-near q (negsuc n) h = below-near (suc n / q * q) (suc n) (q - 1) (div-mul-le_self (suc n) q) (multiple-near (suc n) q h)

-- toward zero: no further from it
opposite-size : (n : ℕ) → nat_abs (neg_ℤ (pos n)) ≡ n
opposite-size zero = refl
opposite-size (suc n) = refl

pub toward-small : (q : ℕ) (v : ℤ) → nat_abs (toward_zero q v) ≤ nat_abs v
unfolding toward_zero
toward-small q (pos n) = div-mul-le_self n q
toward-small q (negsuc n) = rw (opposite-size (suc n / q * q)) (div-mul-le_self (suc n) q)

-- ---- the plane
rounded-corner : (L : ℕ) (W H : Side) (q : ℕ) (x : Grid) → Same (next W) (next H) (rounded_cell (suc L) W H q x) (rounded_cell L (next W) (next H) q x)
unfolding rounded_cell in_corner next
rounded-corner L W H q x r c u v = simp (lt-ltb r (count lo H) u, lt-ltb c (count lo W) v)

rounded-beside : (L : ℕ) (W H : Side) (q : ℕ) (x : Grid) (b : Band) (r c : ℕ) → (b ≡ LL → ⊥) → r < count (down b) H → c < count (across b) W →
    band_in W H (rounded_cell (suc L) W H q x) b r c ≡ toward_zero q (band_in W H x b r c)
unfolding rounded_cell in_corner band_in placed across down
rounded-beside L W H q x LL r c n u v = absurd (n refl)
rounded-beside L W H q x HL r c n u v = simp (lt-ltb r (count lo H) u, le-ltb (count lo W + c) (count lo W) (omega arith))
rounded-beside L W H q x LH r c n u v = simp (le-ltb (count lo H + r) (count lo H) (omega arith))
rounded-beside L W H q x HH r c n u v = simp (le-ltb (count lo H + r) (count lo H) (omega arith))

rounded-none : (W H : Side) (q : ℕ) (x : Grid) → Same W H (rounded_cell 0 W H q x) x
unfolding rounded_cell
rounded-none W H q x r c u v = refl

either-small : (t : Bool) (a b v : ℤ) → nat_abs a ≤ nat_abs v → nat_abs b ≤ nat_abs v → nat_abs (pick t a b) ≤ nat_abs v
either-small true a b v h g = h
either-small false a b v h g = g

pub rounded-small : (L : ℕ) (W H : Side) (q : ℕ) (x : Grid) (r c : ℕ) → nat_abs (rounded_cell L W H q x r c) ≤ nat_abs (x r c)
unfolding rounded_cell
rounded-small zero W H q x r c = omega arith
rounded-small (suc L) W H q x r c =
    either-small (in_corner W H r c) _ _ (x r c) (rounded-small L (next W) (next H) q x r c) (toward-small q (x r c))

pub rounded-off : (L : ℕ) (W H : Side) (q : ℕ) (x : Grid) → 1 ≤ q → PlaneOff (q - 1) L W H (rounded_cell L W H q x) x
rounded-off zero W H q x h = none (rounded-none W H q x)
rounded-off (suc L) W H q x h =
    more (off-reads (rounded-corner L W H q x) (rounded-off L (next W) (next H) q x h))
    (λ b r c n u v. rw (rounded-beside L W H q x b r c n u v) (toward-near q (band_in W H x b r c) h))

-- a step of 1 is off by nothing
pub exact : (L : ℕ) → error_after 0 L ≡ 0
unfolding error_after level_error even_error odd_error half_up
exact zero = refl
exact (suc L) = ap (level_error 0) (exact L) ∙ nothing
  where
    nothing : level_error 0 0 ≡ 0
    nothing = refl
