-- Values of a row as numbers, as the code makes them, and the checksum a byte at a time. Assumes nothing.
use mathlib.Core.Path.{◌≡◌, refl, sym, ap, ap₂, subst, ◌∙◌}
use mathlib.Core.Bool.{Bool, true, false, ◌&&◌}
use mathlib.Core.List.{List, [], ◌∷◌, ◌++◌}
use Prim.Native.Nat.{ℕ, zero, suc, ◌+◌, ◌*◌, ◌-◌, ◌/◌, ◌%◌, ◌^◌, ◌≤◌, ◌<◌}
use native.Mathlib.Nat.{mul-add-mod_self_right, mod-add-div, mod-le, mod-lt, mul_comm, mul-le-mul_left, mul-suc}
use native.Mathlib.Omega.{arith}
use native.Mathlib.Decide.{dec_lt}
use lib.IntN.{ℤ, pos, negsuc, nat_abs, neg_ℤ, ◌+ℤ◌, ◌-ℤ◌, ◌*ℤ◌}
use lib.Signed.{mag, lt_z, shr_z, non_neg}
use lib.Dec.{T}
use lib.ListN.{length, take, set, get_or, length-set}
use lib.Seq.{take-suc, take-suc-set}
use mir.Syntax.{w32}
use mir.Val.{SFits, to_z, of_z, bool_byte}
use mir.ValLaws.{to_z-of_z}
use borrow.Author.Tests.{ltb-true, ltb-false, lt-ltb, eq-eqb, eqb-true}
use Rattle.std.specs.List.{list_all}
use Rattle.numbers.specs.Signal.{at, both}
use Rattle.numbers.specs.Tests.{every}
use Rattle.numbers.proofs.Integers.{each, lin, dif-nat_abs}
use Rattle.ground_file.specs.Groups.{zigzag, holds}
use Rattle.ground_file.specs.File.{listed, as_number, prime}
use Rattle.ground_file.specs.Values.{sign_of, kept, is_multiple}

-- ---- a value without its sign
module _ (z : ℤ) (f : SFits w32 z) where
  pub read : to_z w32 (of_z w32 z) ≡ z
  read = to_z-of_z w32 z f

  module _ (low : lt_z z (pos 0) ≡ true) where
    plus-fits : SFits w32 (z +ℤ pos 1)
    plus-fits = go z f low
      where
        go : (z : ℤ) → SFits w32 z → lt_z z (pos 0) ≡ true → SFits w32 (z +ℤ pos 1)
        go = each _ λ p q. simp lin (λ f e. let h : p + 0 < 0 + q = ltb-true (p + 0) (0 + q) e in omega arith)

    opposite-fits : SFits w32 (pos 0 -ℤ (z +ℤ pos 1))
    opposite-fits = go z f low
      where
        go : (z : ℤ) → SFits w32 z → lt_z z (pos 0) ≡ true → SFits w32 (pos 0 -ℤ (z +ℤ pos 1))
        go = each _ λ p q. simp lin (λ f e. let h : p + 0 < 0 + q = ltb-true (p + 0) (0 + q) e in omega arith)

    pub add-fits : SFits w32 (to_z w32 (of_z w32 z) +ℤ pos 1)
    add-fits = rw read plus-fits

    plus : to_z w32 (of_z w32 (to_z w32 (of_z w32 z) +ℤ pos 1)) ≡ z +ℤ pos 1
    plus = rw read (to_z-of_z w32 (z +ℤ pos 1) plus-fits)

    pub sub-fits : SFits w32 (pos 0 -ℤ to_z w32 (of_z w32 (to_z w32 (of_z w32 z) +ℤ pos 1)))
    sub-fits = rw plus opposite-fits

    pub turned : to_z w32 (of_z w32 (pos 0 -ℤ to_z w32 (of_z w32 (to_z w32 (of_z w32 z) +ℤ pos 1)))) ≡ pos 0 -ℤ (z +ℤ pos 1)
    turned = rw plus (to_z-of_z w32 (pos 0 -ℤ (z +ℤ pos 1)) opposite-fits)

pub above : (z : ℤ) → lt_z z (pos 0) ≡ true → T (non_neg (pos 0 -ℤ (z +ℤ pos 1)))
above = each _ λ p q. simp lin (λ e. let h : p + 0 < 0 + q = ltb-true (p + 0) (0 + q) e in omega arith)

pub not-below : (z : ℤ) → lt_z z (pos 0) ≡ false → T (non_neg z)
not-below = each _ λ p q. simp lin (λ e. let h : 0 + q ≤ p + 0 = ltb-false (p + 0) (0 + q) e in omega arith)

one_less : (z : ℤ) → lt_z z (pos 0) ≡ true → nat_abs (pos 0 -ℤ (z +ℤ pos 1)) ≡ nat_abs z - 1
one_less = each _ λ p q. simp (lin, dif-nat_abs) (λ e. let h : p + 0 < 0 + q = ltb-true (p + 0) (0 + q) e in omega arith)

mag_low : (z : ℤ) → lt_z z (pos 0) ≡ true → nat_abs z - 1 ≡ mag z
mag_low (pos n) e = absurd (omega (arith, ltb-true n 0 e))
mag_low (negsuc n) e = omega arith

pub mag-below : (z : ℤ) → lt_z z (pos 0) ≡ true → nat_abs (pos 0 -ℤ (z +ℤ pos 1)) ≡ mag z
mag-below z e = one_less z e ∙ mag_low z e

pub mag-above : (z : ℤ) → lt_z z (pos 0) ≡ false → nat_abs z ≡ mag z
mag-above (pos n) e = refl
mag-above (negsuc n) e = let b : ◌≡◌ {A = ℕ} 0 1 = cc in absurd (omega arith)

pub mag-small : (z : ℤ) → SFits w32 z → mag z < 2147483648
mag-small (pos n) f = f.sfits
mag-small (negsuc n) f = f.sfits

sign_below : (z : ℤ) → lt_z z (pos 0) ≡ true → 1 ≡ sign_of z
unfolding sign_of
sign_below (pos n) e = absurd (omega (arith, ltb-true n 0 e))
sign_below (negsuc n) e = refl

sign_above : (z : ℤ) → lt_z z (pos 0) ≡ false → 0 ≡ sign_of z
unfolding sign_of
sign_above (pos n) e = refl
sign_above (negsuc n) e = let b : ◌≡◌ {A = ℕ} 0 1 = cc in absurd (omega arith)

pub sign_small : (z : ℤ) → sign_of z ≤ 1
unfolding sign_of
sign_small (pos n) = omega arith
sign_small (negsuc n) = omega arith

pub sign_from : (z : ℤ) → bool_byte (lt_z z (pos 0)) ≡ sign_of z
sign_from z = go (lt_z z (pos 0)) refl
  where
    go : (t : Bool) → lt_z z (pos 0) ≡ t → bool_byte t ≡ sign_of z
    go true e = sign_below z e
    go false e = sign_above z e

pub by_one : (m q : ℕ) → q ≡ 1 → m ≡ m / q
by_one m q e = rw e (omega arith)

-- ---- a number of 28 bits
pub kept_small : (q : ℕ) (v : ℤ) → kept q v < 2 ^ 28
unfolding kept
kept_small q v = omega (arith, sign_small v)

pub number_fits : (m g : ℕ) (u : ℤ) → g ≡ sign_of u → 2 * (m % 134217728) + g < 4294967296
number_fits m g u e = omega (arith, e, sign_small u)

-- of a value in its range it is the format's
pub kept-is : (q : ℕ) (v : ℤ) → mag v / q < 2 ^ 27 → kept q v ≡ zigzag (shr_z v q)
unfolding kept zigzag sign_of
kept-is q (pos n) h = omega arith
kept-is q (negsuc n) h = omega arith

-- ---- a list filled from the front
zero-mod : (q : ℕ) → 0 % q ≡ 0
zero-mod q = omega (arith, mod-le 0 q)

-- a value that is a multiple of the step is the step times its quotient
times-back : (n q : ℕ) → 1 ≤ q → n % q ≡ 0 → q * (n / q) ≡ n
times-back n q h e = omega (arith, mod-add-div n q, e)

next-quotient : (n q : ℕ) → 1 ≤ q → (n + 1) % q ≡ 0 → q * suc (n / q) ≡ suc n
next-quotient n q h e =
    let a : q * ((n + 1) / q) ≡ n + 1 = times-back (n + 1) q h e in
    let b = mod-add-div n q in
    let r : n % q < q = mod-lt n h in
    elim (dec_lt (n / q) ((n + 1) / q)) [
      | yes l ↦ (let m : q * suc (n / q) ≤ q * ((n + 1) / q) = mul-le-mul_left q (omega arith) in omega (arith, mul-suc q (n / q), m, a, b, r))
      | no l ↦ (let m : q * ((n + 1) / q) ≤ q * (n / q) = mul-le-mul_left q (omega (arith, l)) in omega (arith, m, a, b))
    ]

pub multiple-of : (q : ℕ) (v : ℤ) → 1 ≤ q → is_multiple q v ≡ true → v ≡ pos q *ℤ shr_z v q
unfolding is_multiple sign_of
multiple-of q (pos n) h e =
    ap pos (sym (times-back n q h (ap (λ k. k % q) (omega arith) ∙ eqb-true _ _ e)))
multiple-of q (negsuc n) h e = ap (λ k. neg_ℤ (pos k)) (sym (next-quotient n q h (eqb-true _ _ e)))

-- and the other way
pub is-multiple : (q : ℕ) (v : ℤ) → 1 ≤ q → v ≡ pos q *ℤ shr_z v q → is_multiple q v ≡ true
unfolding is_multiple sign_of
is-multiple q (pos n) h e =
    let f : n ≡ q * (n / q) = ap nat_abs e in
    eq-eqb _ 0 (ap (λ k. k % q) (omega arith) ∙ rest-none (n / q) (f ∙ mul_comm q (n / q)))
  where
    rest-none : (k : ℕ) → n ≡ k * q → n % q ≡ 0
    rest-none k g = ap (λ m. m % q) (g ∙ omega arith) ∙ mul-add-mod_self_right k q 0 ∙ zero-mod q
is-multiple q (negsuc n) h e =
    let f : suc n ≡ q * suc (n / q) = ap nat_abs e ∙ size (q * suc (n / q)) in
    let g : n + 1 ≡ suc (n / q) * q + 0 = omega (arith, f, mul_comm q (suc (n / q))) in
    eq-eqb _ 0 (ap (λ m. m % q) g ∙ mul-add-mod_self_right (suc (n / q)) q 0 ∙ zero-mod q)
  where
    size : (k : ℕ) → nat_abs (neg_ℤ (pos k)) ≡ k
    size zero = refl
    size (suc k) = refl

pub listed_more : (n : ℕ) (x : ℕ → ℕ) → listed (suc n) x ≡ listed n x ++ (x n ∷ [])
unfolding listed
listed_more zero x = refl
listed_more (suc n) x = ap (λ l. x 0 ∷ l) (listed_more n (λ i. x (suc i)))

pub record Filling (numbers₀ numbers : List ℕ) (x : ℕ → ℕ) (i : ℕ) : Type 0 where
  pub size : length numbers ≡ length numbers₀
  pub done : take i numbers ≡ listed i x

pub filling-start : (l : List ℕ) (x : ℕ → ℕ) → Filling l l x 0
unfolding listed
filling-start l x = record { size = refl; done = take_0 l }
  where
    take_0 : (l : List ℕ) → take 0 l ≡ []
    take_0 [] = refl
    take_0 (y ∷ l) = refl

pub filling-end : {l₀ l : List ℕ} {x : ℕ → ℕ} {i n : ℕ} → i ≡ n → Filling l₀ l x i → take n l ≡ listed n x
filling-end {l = l} {x = x} e f = subst (λ m. take m l ≡ listed m x) e f.done

pub filling-more : {l₀ l : List ℕ} {x : ℕ → ℕ} {i : ℕ} (v : ℕ) → Filling l₀ l x i → i < length l₀ → v ≡ x i →
    Filling l₀ (set l i v) x (i + 1)
filling-more {l₀} {l} {x} {i} v f h e =
    let one : i + 1 ≡ suc i = omega arith in
    record {
      size = length-set l i v ∙ f.size;
      done = rw one (take-suc-set l i v (omega (arith, f.size)) ∙ ap₂ (λ t u. t ++ (u ∷ [])) f.done e ∙ sym (listed_more i x));
    }

pub listed-held : (n : ℕ) (x : ℕ → ℕ) → ((i : ℕ) → x i < 2 ^ 28) → holds 28 (listed n x) ≡ true
unfolding listed holds
listed-held zero x h = refl
listed-held (suc n) x h = rw (lt-ltb (x 0) (2 ^ 28) (h 0), listed-held n (λ i. x (suc i)) (λ i. h (suc i))) refl

-- ---- every value passed
both_assoc : (a b c : Bool) → both (both a b) c ≡ both a (both b c)
both_assoc true b c = refl
both_assoc false b c = refl

both-true : (b : Bool) → b ≡ both b true
both-true true = refl
both-true false = refl

every-front : (n : ℕ) (p : ℕ → Bool) → every (suc n) p ≡ both (p 0) (every n (λ i. p (suc i)))
unfolding every
every-front zero p = both-true (p 0)
every-front (suc n) p = ap (λ b. both b (p (suc n))) (every-front n p) ∙ both_assoc (p 0) (every n (λ i. p (suc i))) (p (suc n))

and_both : (a b : Bool) → a && b ≡ both a b
and_both true b = refl
and_both false b = refl

-- the answer so far, and the test of one value more
pub every_more : (i : ℕ) (p : ℕ → Bool) (ok b : Bool) → ok ≡ every i p → b ≡ p i → ok && b ≡ every (i + 1) p
unfolding every
every_more i p ok b e f =
    let one : i + 1 ≡ suc i = omega arith in
    rw one (ap₂ ◌&&◌ e f ∙ and_both (every i p) (p i))

pub all_every : (test : ℤ → Bool) (l : List ℤ) → list_all test l ≡ every (length l) (λ i. test (at l i))
unfolding every
all_every test [] = refl
all_every test (x ∷ l) =
    and_both (test x) (list_all test l) ∙ ap (both (test x)) (all_every test l) ∙ sym (every-front (length l) (λ i. test (at (x ∷ l) i)))

-- ---- the checksum
as_number-more : (n : ℕ) (l : List ℕ) (b : ℕ) → as_number n (l ++ (b ∷ [])) ≡ 256 * as_number n l + b
unfolding as_number
as_number-more n [] b = refl
as_number-more n (c ∷ l) b = as_number-more (256 * n + c) l b

-- a remainder in the place of its number
pub rest_of : (a b : ℕ) → (256 * (a % prime) + b) % prime ≡ (256 * a + b) % prime
unfolding prime
rest_of a b =
    let e : 256 * a + b ≡ 256 * (a / prime) * prime + (256 * (a % prime) + b) = omega arith in
    sym (ap (λ n. n % prime) e ∙ mul-add-mod_self_right (256 * (a / prime)) prime (256 * (a % prime) + b))

-- of two stretches
pub number_append : (n : ℕ) (l m : List ℕ) → as_number n (l ++ m) ≡ as_number (as_number n l) m
unfolding as_number
number_append n [] m = refl
number_append n (b ∷ l) m = number_append (256 * n + b) l m

pub number-rest : (n : ℕ) (l : List ℕ) → as_number (n % prime) l % prime ≡ as_number n l % prime
unfolding as_number
number-rest n [] = twice n
  where
    twice : (n : ℕ) → n % prime % prime ≡ n % prime
    twice n = unfold prime in omega arith
number-rest n (b ∷ l) =
    sym (number-rest (256 * (n % prime) + b) l) ∙ ap (λ k. as_number k l % prime) (rest_of n b) ∙ number-rest (256 * n + b) l

pub sum_more : (sum : ℕ) (l : List ℕ) (i r b : ℕ) → i < length l → r ≡ as_number sum (take i l) % prime → b ≡ get_or l i 0 →
    (256 * r + b) % prime ≡ as_number sum (take (i + 1) l) % prime
sum_more sum l i r b h e f =
    let one : i + 1 ≡ suc i = omega arith in
    rw one
    (ap₂ (λ a c. (256 * a + c) % prime) e f ∙ rest_of (as_number sum (take i l)) (get_or l i 0)
    ∙ ap (λ a. a % prime) (sym (as_number-more sum (take i l) (get_or l i 0)) ∙ ap (as_number sum) (sym (take-suc l i 0 h))))
