-- A limited value is in its range, and limiting to a range that holds the true value brings nothing further from it. Assumes nothing.
use mathlib.Core.Path.{◌≡◌, refl, sym, ap, ◌∙◌, subst}
use mathlib.Core.Bool.{Bool, true, false}
use Prim.Native.Nat.{ℕ, zero, suc, ◌+◌, ◌≤◌}
use native.Mathlib.Omega.{arith}
use lib.Dec.{T}
use lib.IntN.{ℤ, pos, neg_ℤ, nat_abs, ◌-ℤ◌}
use lib.Signed.{lt_z, ◌≤ℤ◌, ◌<ℤ◌}
use borrow.Author.Tests.{ltb-true, ltb-false}
use Rattle.numbers.specs.Signal.{pick}
use Rattle.numbers.proofs.Integers.{each, lin, dif, dif_pos, dif_neg}
use Rattle.lifting.specs.Filter.{Filter}
use Rattle.wavelet.specs.Limits.{max_sample, range}
use Rattle.wavelet.specs.Maps.{value_fits}
use Rattle.wavelet.proofs.MapTheorems.{height-fits, low-fits}
use Rattle.tolerance.specs.Limits.{clamped, limited}

-- ---- the three cases
test_below : (x y : ℤ) → lt_z x y ≡ true → x <ℤ y
test_below x y e = record { lt = subst T (sym e) tt }

test-above : (x y : ℤ) → lt_z x y ≡ false → y ≤ℤ x
test-above = each _ λ p q. each _ λ r s. simp lin (λ e. ltb-false _ _ e)

module _ (a b v : ℤ) where
  -- what holds of each case holds of the limited value
  pub clamped-by : (P : ℤ → Type 0) → (v <ℤ a → P a) → (a ≤ℤ v → b <ℤ v → P b) → (a ≤ℤ v → v ≤ℤ b → P v) → P (clamped a b v)
  unfolding clamped
  clamped-by P f g h = first (lt_z v a) refl
    where
      second : a ≤ℤ v → (t : Bool) → lt_z b v ≡ t → P (pick t b v)
      second u true e = g u (test_below b v e)
      second u false e = h u (test-above b v e)

      first : (t : Bool) → lt_z v a ≡ t → P (pick t a (pick (lt_z b v) b v))
      first true e = f (test_below v a e)
      first false e = second (test-above v a e) (lt_z b v) refl

-- ---- nothing further apart
low-apart : (a v w : ℤ) (e : ℕ) → v <ℤ a → a ≤ℤ w → nat_abs (v -ℤ w) ≤ e → nat_abs (a -ℤ w) ≤ e
low-apart = each _ λ p q. each _ λ r s. each _ λ t u. simp lin (omega arith)

high-apart : (b v w : ℤ) (e : ℕ) → b <ℤ v → w ≤ℤ b → nat_abs (v -ℤ w) ≤ e → nat_abs (b -ℤ w) ≤ e
high-apart = each _ λ p q. each _ λ r s. each _ λ t u. simp lin (omega arith)

pub clamped-apart : (a b v w : ℤ) (e : ℕ) → a ≤ℤ w → w ≤ℤ b → nat_abs (v -ℤ w) ≤ e → nat_abs (clamped a b v -ℤ w) ≤ e
clamped-apart a b v w e l m h =
    clamped-by a b v (λ x. nat_abs (x -ℤ w) ≤ e) (λ u. low-apart a v w e u l h) (λ _ u. high-apart b v w e u m h) (λ _ _. h)

-- ---- in the range
le_refl : (x : ℤ) → x ≤ℤ x
le_refl = each _ λ p q. simp lin (omega arith)

pub clamped-in : (a b v : ℤ) → a ≤ℤ b → (a ≤ℤ clamped a b v) × (clamped a b v ≤ℤ b)
clamped-in a b v h = clamped-by a b v (λ x. (a ≤ℤ x) × (x ≤ℤ b)) (λ _. (le_refl a, h)) (λ _ _. (h, le_refl b)) (λ u w. (u, w))

-- and a number that is in it stays
pub clamped-stays : (a b v : ℤ) → a ≤ℤ v → v ≤ℤ b → clamped a b v ≡ v
clamped-stays a b v l m = clamped-by a b v (λ x. x ≡ v) (λ u. absurd (cross v a u l)) (λ _ u. absurd (cross b v u m)) (λ _ _. refl)
  where
    cross : (x y : ℤ) → x <ℤ y → y ≤ℤ x → ⊥
    cross = each _ λ p q. each _ λ r s. simp lin (omega arith)

-- ---- a level's range
least : (n : ℕ) → neg_ℤ (pos n) ≡ dif 0 n
least n = ap neg_ℤ (dif_pos n) ∙ dif_neg n 0

between : (n : ℕ) (z : ℤ) → (neg_ℤ (pos n) ≤ℤ z) × (z ≤ℤ pos n) → nat_abs z ≤ n
between n = rw (least n) (each _ λ p q. simp lin (omega arith))

within : (n : ℕ) (z : ℤ) → nat_abs z ≤ n → (neg_ℤ (pos n) ≤ℤ z) × (z ≤ℤ pos n)
within n = rw (least n) (each _ λ p q. simp lin (omega arith))

ordered : (n : ℕ) → neg_ℤ (pos n) ≤ℤ pos n
ordered n = rw (least n) (simp lin (omega arith))

some : (n : ℕ) → pos 0 ≤ℤ pos n
some n = simp lin (omega arith)

module _ (F : Filter) where
  pub limited-apart : (k : ℕ) (v w : ℤ) (e : ℕ) → value_fits F k w ≡ true → nat_abs (v -ℤ w) ≤ e → nat_abs (limited F k v -ℤ w) ≤ e
  unfolding limited
  limited-apart zero v w e f h = let b = (height-fits F w).0 f in clamped-apart (pos 0) (pos max_sample) v w e b.0 b.1 h
  limited-apart (suc k) v w e f h =
      let b = within (range F (suc k)) w ((low-fits F k w).0 f) in
      clamped-apart _ _ v w e b.0 b.1 h

  pub limited-fits : (k : ℕ) (v : ℤ) → value_fits F k (limited F k v) ≡ true
  unfolding limited
  limited-fits zero v = (height-fits F _).1 (clamped-in (pos 0) (pos max_sample) v (some max_sample))
  limited-fits (suc k) v = (low-fits F k _).1 (between (range F (suc k)) _ (clamped-in _ _ v (ordered (range F (suc k)))))

  pub limited-stays : (k : ℕ) (v : ℤ) → value_fits F k v ≡ true → limited F k v ≡ v
  unfolding limited
  limited-stays zero v f = let b = (height-fits F v).0 f in clamped-stays _ _ v b.0 b.1
  limited-stays (suc k) v f = let b = within (range F (suc k)) v ((low-fits F k v).0 f) in clamped-stays _ _ v b.0 b.1
