-- The digits of a number: one more or one less, how many, and the sign before them. Assumes nothing.
use mathlib.Core.Path.{◌≡◌, refl, ap, ◌∙◌}
use mathlib.Core.Bool.{true, false}
use mathlib.Core.List.{[], ◌∷◌, ◌++◌}
use Prim.Native.Nat.{ℕ, zero, suc, ◌+◌, ◌/◌, ◌%◌, ◌^◌, ◌≤◌, ◌<◌}
use native.Mathlib.Omega.{arith}
use native.Mathlib.Decide.{dec_lt}
use lib.IntN.{ℤ, pos, negsuc, nat_abs}
use lib.ListN.{length, length-append}
use lib.Signed.{lt_z}
use mir.Syntax.{w32}
use mir.Val.{SFits}
use borrow.Author.Tests.{lt-ltb, le-ltb, ltb-true}
use Rattle.numbers.proofs.Integers.{each, lin}
use Rattle.text.specs.Decimal.{digits_of, numeral, integer}

-- room for more digits changes nothing
enough : (f g n : ℕ) → n < f → n < g → digits_of f n ≡ digits_of g n
unfolding digits_of
enough zero g n h k = absurd (omega arith)
enough (suc f) zero n h k = absurd (omega arith)
enough (suc f) (suc g) n h k =
    elim (dec_lt n 10) [
      | yes p ↦ rw (lt-ltb n 10 p)
      | no d ↦ rw (le-ltb n 10 (omega arith)) (ap (λ l. l ++ ((48 + n % 10) ∷ [])) (enough f g (n / 10) (omega arith) (omega arith)))
    ]

pub one-digit : (n : ℕ) → n < 10 → numeral n ≡ (48 + n) ∷ []
unfolding numeral digits_of
one-digit n h = rw (lt-ltb n 10 h)

pub last-digit : (n : ℕ) → 10 ≤ n → numeral n ≡ numeral (n / 10) ++ ((48 + n % 10) ∷ [])
unfolding numeral digits_of
last-digit n h =
    rw (le-ltb n 10 h) (ap (λ l. l ++ ((48 + n % 10) ∷ [])) (enough n (suc (n / 10)) (n / 10) (omega arith) (omega arith)))

pub some-digit : (n : ℕ) → 0 < length (numeral n)
some-digit n =
    elim (dec_lt n 10) [
      | yes p ↦ rw (one-digit n p) (omega arith)
      | no d ↦ rw (last-digit n (omega arith)) (simp length-append (omega arith))
    ]

-- a number below 10 ^ k, k not 0, has at most k digits
one-more : (k n : ℕ) → 10 ≤ n → length (numeral (n / 10)) ≤ k → length (numeral n) ≤ suc k
one-more k n g h = rw (last-digit n g) (simp length-append (omega arith))

pub at_most : (k n : ℕ) → n < 10 ^ suc k → length (numeral n) ≤ suc k
at_most zero n h = rw (one-digit n (omega arith)) (omega arith)
at_most (suc k) n h =
    elim (dec_lt n 10) [
      | yes p ↦ rw (one-digit n p) (omega arith)
      | no d ↦ one-more (suc k) n (omega arith) (at_most k (n / 10) (omega arith))
    ]

-- a number of 64 bits
pub twenty : (n : ℕ) → n < 2 ^ 64 → length (numeral n) ≤ 20
twenty n h = at_most 19 n (omega arith)

ten-pow : (k : ℕ) → 0 < 10 ^ k
ten-pow zero = omega arith
ten-pow (suc k) = omega (arith, ten-pow k)

pub pow-le : (k n : ℕ) → k ≤ n → 10 ^ k ≤ 10 ^ n
pow-le k zero h = let e : k ≡ 0 = omega arith in rw e (omega arith)
pow-le k (suc n) h =
    elim (dec_lt n k) [
      | yes p ↦ let e : k ≡ suc n = omega arith in rw e (omega arith)
      | no p ↦ omega (arith, pow-le k n (omega arith), ten-pow n)
    ]

-- a number not below 10 ^ k has more than k
pub at_least : (k n : ℕ) → 10 ^ k ≤ n → k < length (numeral n)
at_least zero n h = some-digit n
at_least (suc k) n h =
    let g : 10 ≤ n = omega (arith, ten-pow k) in
    let i = at_least k (n / 10) (omega arith) in
    rw (last-digit n g) (simp length-append (omega arith))

-- ---- with a sign
signed : (v : ℤ) → lt_z v (pos 0) ≡ true → 45 ∷ numeral (nat_abs v) ≡ integer v
unfolding integer
signed (pos n) t = let h = ltb-true n 0 t in absurd (omega arith)
signed (negsuc n) t = refl

unsigned : (v : ℤ) → lt_z v (pos 0) ≡ false → numeral (nat_abs v) ≡ integer v
unfolding integer
unsigned (pos n) t = refl
unsigned (negsuc n) t = let z : ◌≡◌ {A = ℕ} 0 1 = cc in absurd (omega arith)

pub bounded : (z : ℤ) → SFits w32 z → nat_abs z ≤ 2147483648
bounded = each _ λ p q. simp lin (omega arith)

-- a sign and ten digits
pub eleven : (v : ℤ) → SFits w32 v → length (integer v) ≤ 11
unfolding integer
eleven (pos n) f = omega (arith, at_most 9 n (omega (arith, bounded (pos n) f)))
eleven (negsuc n) f = omega (arith, at_most 9 (suc n) (omega (arith, bounded (negsuc n) f)))

-- x is the number as it was read back, r its magnitude
module _ (v x : ℤ) (r : ℕ) (p : x ≡ v) (e : r ≡ nat_abs x) where
  pub below : lt_z x (pos 0) ≡ true → 45 ∷ numeral r ≡ integer v
  below t = ap (λ n. 45 ∷ numeral n) e ∙ signed x t ∙ ap integer p

  pub above : lt_z x (pos 0) ≡ false → numeral r ≡ integer v
  above t = ap numeral e ∙ unsigned x t ∙ ap integer p
