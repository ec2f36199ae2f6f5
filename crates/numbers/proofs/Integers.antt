-- Linear arithmetic over ℤ, by `omega`, which reads only ℕ.
-- An integer is a difference of two natural numbers, `dif p q`. Sums, negations, multiples by a literal and divisions by a literal, rounded down (`shr_z`), of
-- differences are differences again,
-- and an equation, an order, a bound or a test of differences is one of the cross sums. The set `lin` rewrites by these laws. So a law of integers is proved
-- in one line, with an `each _ λ p q.` for each integer:
--     law : (x y : ℤ) → x ≤ℤ y → shr_z (x +ℤ pos 1) 4 ≤ℤ shr_z (y +ℤ pos 2) 4
--     law = each _ λ p q. each _ λ r s. simp lin (omega arith)
-- A definition of one's own is named on an `unfolding` line. A fact of a term that is no variable is such a law, applied to the term.
-- Assumes nothing.
use mathlib.Core.Path.{◌≡◌, refl, sym, ◌∙◌, ap, subst}
use Prim.Native.Nat.{ℕ, zero, suc, ◌+◌, ◌*◌, ◌-◌, ◌/◌, ◌%◌, ◌^◌, ◌<◌, ◌≤◌}
use native.Mathlib.Omega.{arith}
use native.Mathlib.Nat.{div-mul-le_self, lt-div-mul-add, div-eq_of_lt-le, div-add-mod', mod-lt, zero-lt-suc}
use mathlib.Core.Logic.{◌↔◌}
use lib.Dec.{T, leb, ltb, ltb→lt, nltb→le, leb→le, le→leb, lt→ltb}
use lib.IntN.{ℤ, pos, negsuc, neg_ℤ, nat_abs, pos-ne-negsuc, sub_ℕ, ◌+ℤ◌, ◌*ℤ◌}
use lib.Signed.{mag, shr_z, le_z, lt_z, non_neg, ◌≤ℤ◌, ◌<ℤ◌}
use mathlib.Core.Bool.{Bool, true, false, not, cond}
use mir.Syntax.{Width}
use mir.Val.{SFits, hbits}

-- p − q
unfoldable pub dif : ℕ → ℕ → ℤ
dif p q = sub_ℕ p q

module _ (P : ℤ → Type 0) where
  cond_ind : (c : Bool) {x y : ℤ} → (T c → P x) → (T (not c) → P y) → P (cond c x y)
  cond_ind true f g = f tt
  cond_ind false f g = g tt

-- what holds of n and of −(n + 1), as the case may be, holds of p − q
pub dif-ind : (P : ℤ → Type 0) (p q : ℕ) → ((n : ℕ) → p ≡ q + n → P (pos n)) → ((n : ℕ) → q ≡ p + suc n → P (negsuc n)) → P (dif p q)
unfolding dif
dif-ind P p q f g =
    cond_ind P (ltb p q) (λ t. g (q - suc p) (below (ltb→lt p q t))) (λ t. f (p - q) (above (nltb→le p q t)))
  where
    below : p < q → q ≡ p + suc (q - suc p)
    below h = omega arith

    above : q ≤ p → p ≡ q + (p - q)
    above h = omega arith

pub dif_pos : (n : ℕ) → pos n ≡ dif n 0
dif_pos n = dif-ind (λ z. pos n ≡ z) n 0 (λ m e. ap pos (omega arith)) (λ m e. absurd (omega arith))

pub dif-negsuc : (n : ℕ) → negsuc n ≡ dif 0 (suc n)
dif-negsuc n = dif-ind (λ z. negsuc n ≡ z) 0 (suc n) (λ m e. absurd (omega arith)) (λ m e. ap negsuc (omega arith))

-- two differences are one number where the cross sums agree
pub dif-eq : (p q p' q' : ℕ) → p + q' ≡ p' + q → dif p q ≡ dif p' q'
dif-eq p q p' q' h =
    dif-ind (λ z. z ≡ dif p' q') p q
    (λ n e. dif-ind (λ z. pos n ≡ z) p' q' (λ m d. ap pos (omega arith)) (λ m d. absurd (omega arith)))
    (λ n e. dif-ind (λ z. negsuc n ≡ z) p' q' (λ m d. absurd (omega arith)) (λ m d. ap negsuc (omega arith)))

-- what holds of every difference holds of every integer
pub each {ℓ} : (P : ℤ → Type ℓ) → ((p q : ℕ) → P (dif p q)) → (z : ℤ) → P z
each P f (pos n) = subst P (sym (dif_pos n)) (f n 0)
each P f (negsuc n) = subst P (sym (dif-negsuc n)) (f 0 (suc n))

-- ---- the operations
pub dif_neg : (p q : ℕ) → neg_ℤ (dif p q) ≡ dif q p
dif_neg p q = dif-ind (λ z. neg_ℤ z ≡ dif q p) p q
    (λ n e. neg-pos n ∙ dif-eq _ _ _ _ (omega arith))
    (λ n e. dif_pos (suc n) ∙ dif-eq _ _ _ _ (omega arith))
  where
    neg-pos : (n : ℕ) → neg_ℤ (pos n) ≡ dif 0 n
    neg-pos zero = dif_pos 0
    neg-pos (suc n) = dif-negsuc n

sub_is : (p q : ℕ) → sub_ℕ p q ≡ dif p q
unfolding dif
sub_is p q = refl

pub dif-add : (p q p' q' : ℕ) → dif p q +ℤ dif p' q' ≡ dif (p + p') (q + q')
dif-add p q p' q' = dif-ind (λ z. z +ℤ dif p' q' ≡ dif (p + p') (q + q')) p q
    (λ n e. dif-ind (λ z. pos n +ℤ z ≡ dif (p + p') (q + q')) p' q'
    (λ m d. dif_pos (n + m) ∙ dif-eq _ _ _ _ (omega arith))
    (λ m d. sub_is n (suc m) ∙ dif-eq _ _ _ _ (omega arith)))
    (λ n e. dif-ind (λ z. negsuc n +ℤ z ≡ dif (p + p') (q + q')) p' q'
    (λ m d. sub_is m (suc n) ∙ dif-eq _ _ _ _ (omega arith))
    (λ m d. dif-negsuc (suc (n + m)) ∙ dif-eq _ _ _ _ (omega arith)))

-- a natural number's multiple
times : (k p q : ℕ) → pos k *ℤ dif p q ≡ dif (k * p) (k * q)
times k p q = dif-ind (λ z. pos k *ℤ z ≡ dif (k * p) (k * q)) p q
    (λ n e. dif_pos (k * n) ∙ dif-eq _ _ _ _ (omega (arith, ap (λ (m : ℕ). k * m) e)))
    (λ n e. ap neg_ℤ (dif_pos (k * suc n)) ∙ dif_neg _ _ ∙ dif-eq _ _ _ _ (omega (arith, ap (λ (m : ℕ). k * m) e)))

pub dif-mul : (k p q : ℕ) → dif k 0 *ℤ dif p q ≡ dif (k * p) (k * q)
dif-mul k p q = ap (λ (z : ℤ). z *ℤ dif p q) (sym (dif_pos k)) ∙ times k p q

-- rounded down, by a divisor that is not 0
module _ (k p q : ℕ) where
  floor : shr_z (dif p q) (suc k) ≡ dif ((p + k * q) / suc k) q
  floor = dif-ind (λ z. shr_z z (suc k) ≡ dif ((p + k * q) / suc k) q) p q
      (λ n e. dif_pos (n / suc k) ∙ dif-eq _ _ _ _ (above n e))
      (λ n e. dif-negsuc (n / suc k) ∙ dif-eq _ _ _ _ (below n e))
    where
      above : (n : ℕ) → p ≡ q + n → n / suc k + q ≡ (p + k * q) / suc k + 0
      above n e =
          let low = div-mul-le_self n (suc k) in
          let high = lt-div-mul-add {a = n} (zero-lt-suc k) in
          let d : (p + k * q) / suc k ≡ n / suc k + q = div-eq_of_lt-le (suc k) (omega arith) (omega arith) in
          omega arith

      below : (n : ℕ) → q ≡ p + suc n → 0 + q ≡ (p + k * q) / suc k + suc (n / suc k)
      below n e =
          let whole = div-add-mod' n (suc k) in
          let times = ap (λ (x : ℕ). k * x) whole in
          let times' = ap (λ (x : ℕ). k * x) e in
          let rest = mod-lt n (zero-lt-suc k) in
          let d : (p + k * q) / suc k ≡ p + n / suc k * k + n % suc k = div-eq_of_lt-le (suc k) (omega arith) (omega arith) in
          omega arith

pub dif-shr : (m p q : ℕ) → ltb 0 m ≡ true → shr_z (dif p q) m ≡ dif ((p + (m - 1) * q) / m) q
dif-shr zero p q h = absurd (subst T (sym h) tt)
dif-shr (suc k) p q h = floor k p q ∙ ap (λ (x : ℕ). dif ((p + x * q) / suc k) q) (omega arith)

-- ---- the statements
-- a statement of two differences, from its four cases of the signs
module _ (R : ℤ → ℤ → Type 0) (S : ℕ → ℕ → ℕ → ℕ → Type 0) where
  cases :
      ((p q p' q' m n : ℕ) → p ≡ q + m → p' ≡ q' + n → R (pos m) (pos n) → S p q p' q') →
      ((p q p' q' m n : ℕ) → p ≡ q + m → q' ≡ p' + suc n → R (pos m) (negsuc n) → S p q p' q') →
      ((p q p' q' m n : ℕ) → q ≡ p + suc m → p' ≡ q' + n → R (negsuc m) (pos n) → S p q p' q') →
      ((p q p' q' m n : ℕ) → q ≡ p + suc m → q' ≡ p' + suc n → R (negsuc m) (negsuc n) → S p q p' q') →
      (p q p' q' : ℕ) → R (dif p q) (dif p' q') → S p q p' q'
  cases pp pn np nn p q p' q' = dif-ind (λ z. R z (dif p' q') → S p q p' q') p q
      (λ m d. dif-ind (λ z. R (pos m) z → S p q p' q') p' q' (λ n e. pp p q p' q' m n d e) (λ n e. pn p q p' q' m n d e))
      (λ m d. dif-ind (λ z. R (negsuc m) z → S p q p' q') p' q' (λ n e. np p q p' q' m n d e) (λ n e. nn p q p' q' m n d e))

eq-cross : (p q p' q' : ℕ) → dif p q ≡ dif p' q' → p + q' ≡ p' + q
eq-cross = cases (λ a b. a ≡ b) (λ p q p' q'. p + q' ≡ p' + q)
    (λ p q p' q' m n d e g. omega (arith, ap mag g)) (λ p q p' q' m n d e g. absurd (pos-ne-negsuc _ _ g))
    (λ p q p' q' m n d e g. absurd (pos-ne-negsuc _ _ (sym g))) (λ p q p' q' m n d e g. omega (arith, ap mag g))

pub dif-≡ : (p q p' q' : ℕ) → dif p q ≡ dif p' q' ↔ p + q' ≡ p' + q
dif-≡ p q p' q' = (eq-cross p q p' q', dif-eq p q p' q')

le-cross : (p q p' q' : ℕ) → dif p q ≤ℤ dif p' q' → p + q' ≤ p' + q
le-cross = cases ◌≤ℤ◌ (λ p q p' q'. p + q' ≤ p' + q)
    (λ p q p' q' m n d e g. omega (arith, leb→le m n g.le)) (λ p q p' q' m n d e g. absurd g.le)
    (λ p q p' q' m n d e g. omega arith) (λ p q p' q' m n d e g. omega (arith, leb→le n m g.le))

cross-le : (p q p' q' : ℕ) → p + q' ≤ p' + q → dif p q ≤ℤ dif p' q'
cross-le p q p' q' h = dif-ind (λ z. z ≤ℤ dif p' q') p q
    (λ m d. dif-ind (λ z. pos m ≤ℤ z) p' q' (λ n e. record { le = le→leb m n (omega arith) }) (λ n e. absurd (omega arith)))
    (λ m d. dif-ind (λ z. negsuc m ≤ℤ z) p' q' (λ n e. record { le = tt }) (λ n e. record { le = le→leb n m (omega arith) }))

pub dif-≤ : (p q p' q' : ℕ) → dif p q ≤ℤ dif p' q' ↔ p + q' ≤ p' + q
dif-≤ p q p' q' = (le-cross p q p' q', cross-le p q p' q')

lt-cross : (p q p' q' : ℕ) → dif p q <ℤ dif p' q' → p + q' < p' + q
lt-cross = cases ◌<ℤ◌ (λ p q p' q'. p + q' < p' + q)
    (λ p q p' q' m n d e g. omega (arith, ltb→lt m n g.lt)) (λ p q p' q' m n d e g. absurd g.lt)
    (λ p q p' q' m n d e g. omega arith) (λ p q p' q' m n d e g. omega (arith, ltb→lt n m g.lt))

cross-lt : (p q p' q' : ℕ) → p + q' < p' + q → dif p q <ℤ dif p' q'
cross-lt p q p' q' h = dif-ind (λ z. z <ℤ dif p' q') p q
    (λ m d. dif-ind (λ z. pos m <ℤ z) p' q' (λ n e. record { lt = lt→ltb m n (omega arith) }) (λ n e. absurd (omega arith)))
    (λ m d. dif-ind (λ z. negsuc m <ℤ z) p' q' (λ n e. record { lt = tt }) (λ n e. record { lt = lt→ltb n m (omega arith) }))

pub dif-< : (p q p' q' : ℕ) → dif p q <ℤ dif p' q' ↔ p + q' < p' + q
dif-< p q p' q' = (lt-cross p q p' q', cross-lt p q p' q')

-- |p − q| ≤ M
pub dif-abs : (p q M : ℕ) → nat_abs (dif p q) ≤ M ↔ (p ≤ q + M) × (q ≤ p + M)
dif-abs p q M = dif-ind (λ z. nat_abs z ≤ M ↔ (p ≤ q + M) × (q ≤ p + M)) p q (λ n e. omega arith) (λ n e. omega arith)

pub dif-fits : (w : Width) (p q : ℕ) → SFits w (dif p q) ↔ (p < q + 2 ^ hbits w) × (q ≤ p + 2 ^ hbits w)
dif-fits w p q = dif-ind (λ z. SFits w z ↔ (p < q + 2 ^ hbits w) × (q ≤ p + 2 ^ hbits w)) p q (λ n e. omega arith) (λ n e. omega arith)

-- ---- the tests that the machine makes
same : (x y : Bool) → (T x → T y) → (T y → T x) → x ≡ y
same true true f g = refl
same true false f g = absurd (f tt)
same false true f g = absurd (g tt)
same false false f g = refl

ruleset tests = (arith, ltb→lt, lt→ltb, leb→le, le→leb)

pub dif-lt_z : (p q p' q' : ℕ) → lt_z (dif p q) (dif p' q') ≡ ltb (p + q') (p' + q)
dif-lt_z p q p' q' = dif-ind (λ z. lt_z z (dif p' q') ≡ ltb (p + q') (p' + q)) p q
    (λ m d. dif-ind (λ z. lt_z (pos m) z ≡ ltb (p + q') (p' + q)) p' q' (λ n e. same _ _ (omega tests) (omega tests))
    (λ n e. same _ _ (omega tests) (omega tests)))
    (λ m d. dif-ind (λ z. lt_z (negsuc m) z ≡ ltb (p + q') (p' + q)) p' q' (λ n e. same _ _ (omega tests) (omega tests))
    (λ n e. same _ _ (omega tests) (omega tests)))

pub dif-le_z : (p q p' q' : ℕ) → le_z (dif p q) (dif p' q') ≡ leb (p + q') (p' + q)
dif-le_z p q p' q' = dif-ind (λ z. le_z z (dif p' q') ≡ leb (p + q') (p' + q)) p q
    (λ m d. dif-ind (λ z. le_z (pos m) z ≡ leb (p + q') (p' + q)) p' q' (λ n e. same _ _ (omega tests) (omega tests))
    (λ n e. same _ _ (omega tests) (omega tests)))
    (λ m d. dif-ind (λ z. le_z (negsuc m) z ≡ leb (p + q') (p' + q)) p' q' (λ n e. same _ _ (omega tests) (omega tests))
    (λ n e. same _ _ (omega tests) (omega tests)))

pub dif-non_neg : (p q : ℕ) → T (non_neg (dif p q)) ↔ q ≤ p
dif-non_neg p q = dif-ind (λ z. T (non_neg z) ↔ q ≤ p) p q (λ n e. (λ t. omega arith, λ h. tt)) (λ n e. (λ t. absurd t, λ h. omega arith))

-- not in the set, since each use splits `omega`'s proof in four: for a bound, `dif-abs` is
pub dif-nat_abs : (p q : ℕ) → nat_abs (dif p q) ≡ (p - q) + (q - p)
dif-nat_abs p q = dif-ind (λ z. nat_abs z ≡ (p - q) + (q - p)) p q (λ n e. omega arith) (λ n e. omega arith)

pub ruleset lin = (dif_pos, dif-negsuc, dif_neg, dif-add, dif-mul, dif-shr, dif-≡, dif-≤, dif-<, dif-abs, dif-fits, dif-lt_z, dif-le_z, dif-non_neg)
