-- A value rounded by a product: the reciprocal of each step from 1 to 64 divides the size of every 32-bit number, and the size with its sign is the value
-- rounded toward zero. Assumes nothing.
use mathlib.Core.Path.{◌≡◌, refl, sym, ap, ◌∙◌}
use mathlib.Core.Bool.{Bool, true, false}
use Prim.Native.Nat.{ℕ, ◌+◌, ◌-◌, ◌*◌, ◌/◌, ◌^◌, ◌≤◌, ◌<◌}
use native.Mathlib.Nat.{mul-le-mul_right, le_of_mul-le-mul_right, lt_of_mul-lt-mul_right, div-eq_of_lt-le, div-mul-le_self, lt-div-mul-add}
use native.Mathlib.Omega.{arith}
use lib.Dec.{T, leb, ltb, le→leb}
use lib.IntN.{ℤ, pos, negsuc, neg_ℤ, nat_abs, ◌-ℤ◌}
use lib.Signed.{non_neg, lt_z, ◌≤ℤ◌}
use mir.Syntax.{w32, w64}
use mir.Val.{SFits}
use borrow.Author.Tests.{leb-true, ltb-true, ltb-false}
use Rattle.numbers.specs.Signal.{both}
use Rattle.numbers.specs.Tests.{every}
use Rattle.numbers.proofs.Sweep.{both as both_hold}
use Rattle.numbers.proofs.TestLaws.{every-each}
use Rattle.numbers.proofs.Integers.{each, lin, dif-nat_abs}
use Rattle.rounding.specs.Rounding.{toward_zero}
use Rattle.rounding.specs.Figure.{max_step}
use Rattle.rounding.specs.Step.{shift_of, with_sign, Divides}
use Rattle.rounding.specs.declared.step.Reciprocal.{Reciprocal}

-- ---- division by a product
-- M times q is P and e more: so little that m times M, divided by P, is m divided by q
product-divides : (m q M P e : ℕ) → 0 < q → M * q ≡ P + e → m * e < P → m * M / P ≡ m / q
product-divides m q M P e some is high =
    let t = m / q in
    let under : t * q ≤ m = div-mul-le_self m q in
    let over : m + 1 ≤ t * q + q = omega (arith, lt-div-mul-add {a = m} some) in
    let whole : m * (M * q) ≡ m * (P + e) = ap (λ (x : ℕ). m * x) is in
    let least : t * P * q ≤ m * M * q = omega (arith, whole, mul-le-mul_right P under) in
    let most : m * M * q < (t + 1) * P * q = omega (arith, whole, high, mul-le-mul_right P over) in
    div-eq_of_lt-le P (le_of_mul-le-mul_right {k = q} least some) (lt_of_mul-lt-mul_right q most)

module _ (q : Reciprocal) (d : Divides q) (m : ℕ) (few : m ≤ 2147483648) where
  pub divided : m * q.by / 2 ^ q.shift ≡ m / q.step
  divided =
      let e = q.by * q.step - 2 ^ q.shift in
      let is : q.by * q.step ≡ 2 ^ q.shift + e = omega (arith, d.low) in
      product-divides m q.step q.by (2 ^ q.shift) e d.some is (omega (arith, d.high, mul-le-mul_right e few))

  pub product-fits : m * q.by < 2 ^ 64
  product-fits = omega (arith, mul-le-mul_right q.by few, d.small)

  pub multiple-small : m / q.step * q.step ≤ m
  multiple-small = div-mul-le_self m q.step

-- ---- the reciprocal of each step, looked at one by one
abbrev by_of : ℕ → ℕ
by_of q = (2 ^ shift_of q + q - 1) / q

good : ℕ → Bool
unfolding shift_of
good q =
    both (leb (2 ^ shift_of q) (by_of q * q))
    (both (ltb (2147483648 * (by_of q * q - 2 ^ shift_of q)) (2 ^ shift_of q))
    (both (ltb (by_of q) (2 ^ 32))
    (both (ltb (shift_of q) 64)
    (leb (2 ^ shift_of q) (2 ^ 37)))))

all-good : every 64 (λ i. good (i + 1)) ≡ true
unfolding shift_of every good
all-good = refl

pub divides : (q : ℕ) → 1 ≤ q → q ≤ max_step → Divides (record { step = q; by = by_of q; shift = shift_of q }) × (2 ^ shift_of q ≤ 2 ^ 37)
unfolding max_step good
divides q some few =
    let e : q - 1 + 1 ≡ q = omega arith in
    let g : good q ≡ true = ap good (sym e) ∙ every-each 64 (λ i. good (i + 1)) all-good (q - 1) (omega arith) in
    let a = both_hold (leb (2 ^ shift_of q) (by_of q * q)) _ g in
    let b = both_hold (ltb (2147483648 * (by_of q * q - 2 ^ shift_of q)) (2 ^ shift_of q)) _ a.1 in
    let f = both_hold (ltb (by_of q) (2 ^ 32)) _ b.1 in
    let h = both_hold (ltb (shift_of q) 64) _ f.1 in (
      record {
        some = some;
        few = few;
        low = leb-true _ _ a.0;
        high = ltb-true _ _ b.0;
        small = ltb-true _ _ f.0;
        short = ltb-true _ _ h.0;
      },
      leb-true _ _ h.1,
    )

-- ---- the size of a value, and its sign
pub opposite : (z : ℤ) → SFits w32 z → SFits w64 (pos 0 -ℤ z)
opposite = each _ λ p q. simp lin (omega arith)

pub above : (z : ℤ) → lt_z z (pos 0) ≡ true → T (non_neg (pos 0 -ℤ z))
above = each _ λ p q. simp lin (λ e. let h : p + 0 < 0 + q = ltb-true (p + 0) (0 + q) e in omega arith)

pub kept : (z : ℤ) → lt_z z (pos 0) ≡ false → T (non_neg z)
kept = each _ λ p q. simp lin (λ e. let h : 0 + q ≤ p + 0 = ltb-false (p + 0) (0 + q) e in omega arith)

pub same_size : (z : ℤ) → nat_abs (pos 0 -ℤ z) ≡ nat_abs z
same_size = each _ λ p q. simp (lin, dif-nat_abs) (omega arith)

pub size_small : (z : ℤ) → SFits w32 z → nat_abs z ≤ 2147483648
size_small = each _ λ p q. simp lin (omega arith)

pub size-fits : (z : ℤ) → SFits w32 z → nat_abs z < 2 ^ 64
size-fits z f = omega (arith, size_small z f)

-- m with the sign of v, m being at most v's size
negative : (z : ℤ) → pos 0 -ℤ z ≡ neg_ℤ z
negative = each _ λ p q. simp lin (omega arith)

pub sign_below : (v : ℤ) (m : ℕ) → lt_z v (pos 0) ≡ true → pos 0 -ℤ pos m ≡ with_sign v m
unfolding with_sign
sign_below (pos n) m e = absurd (omega (arith, ltb-true n 0 e))
sign_below (negsuc n) m e = negative (pos m)

pub sign_above : (v : ℤ) (m : ℕ) → lt_z v (pos 0) ≡ false → pos m ≡ with_sign v m
unfolding with_sign
sign_above (pos n) m e = refl
sign_above (negsuc n) m e = let z : ◌≡◌ {A = ℕ} 0 1 = cc in absurd (omega arith)

opposite-fits : (z : ℤ) → pos 0 ≤ℤ z → nat_abs z ≤ 2147483648 → SFits w32 (pos 0 -ℤ z)
opposite-fits = each _ λ p q. simp lin (omega arith)

opposite-wide : (z : ℤ) → nat_abs z ≤ 2147483648 → SFits w64 (pos 0 -ℤ z)
opposite-wide = each _ λ p q. simp lin (omega arith)

pub below-fits : (v : ℤ) (m : ℕ) → SFits w32 v → m ≤ nat_abs v → SFits w32 (pos 0 -ℤ pos m)
below-fits v m f h = opposite-fits (pos m) (record { le = le→leb 0 m (omega arith) }) (omega (arith, size_small v f))

pub below-wide : (v : ℤ) (m : ℕ) → SFits w32 v → m ≤ nat_abs v → SFits w64 (pos 0 -ℤ pos m)
below-wide v m f h = opposite-wide (pos m) (omega (arith, size_small v f))

pub above-fits : (v : ℤ) (m : ℕ) → SFits w32 v → m ≤ nat_abs v → lt_z v (pos 0) ≡ false → SFits w32 (pos m)
above-fits (pos n) m f h e = record { sfits = omega (arith, f.sfits) }
above-fits (negsuc n) m f h e = let z : ◌≡◌ {A = ℕ} 0 1 = cc in absurd (omega arith)

-- rounded toward zero
pub sign-rounded : (q : ℕ) (v : ℤ) → with_sign v (nat_abs v / q * q) ≡ toward_zero q v
unfolding with_sign toward_zero
sign-rounded q (pos n) = refl
sign-rounded q (negsuc n) = refl
