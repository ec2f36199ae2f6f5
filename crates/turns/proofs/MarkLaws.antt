-- The laws of marks as bits: marking or clearing one reader changes its bit and no other (`put-at`), and the number stays in its range (`put-range`).
-- Assumes nothing.
use mathlib.Core.Path.{◌≡◌, refl, sym, ap, ◌∙◌}
use mathlib.Core.Bool.{Bool, true, false}
use Prim.Native.Nat.{ℕ, zero, suc, ◌+◌, ◌*◌, ◌/◌, ◌%◌, ◌^◌, ◌-◌, ◌≤◌, ◌<◌}
use native.Mathlib.Nat.{pow-succ', div-div-eq-div-mul, div-one}
use native.Mathlib.Omega.{arith}
use lib.Dec.{eqb}
use lib.Pow.{pow_mono}
use borrow.Author.Tests.{eq-eqb, ne_eqb, eqb-true, eqb-false}
use Rattle.numbers.specs.Signal.{pick}
use Rattle.turns.specs.Marks.{marked, with_mark, without_mark}

-- bit 0 says whether a number is odd, and bit n + 1 of a number is bit n of its half
bit-first : (x : ℕ) → marked x 0 ≡ eqb (x % 2) 1
unfolding marked
bit-first x = rw div-one refl

bit-later : (x n : ℕ) → marked x (suc n) ≡ marked (x / 2) n
unfolding marked
bit-later x n = ap (λ d. eqb (x / d % 2) 1) (pow-succ' 2 n) ∙ ap (λ d. eqb (d % 2) 1) (sym (div-div-eq-div-mul x 2 (2 ^ n)))

-- a bit that is set is part of the number
pub bit-within : (n x : ℕ) → marked x n ≡ true → 2 ^ n ≤ x
bit-within zero x e = let h : x % 2 ≡ 1 = eqb-true (x % 2) 1 (sym (bit-first x) ∙ e) in omega arith
bit-within (suc n) x e = let h : 2 ^ n ≤ x / 2 = bit-within n (x / 2) (sym (bit-later x n) ∙ e) in omega (arith, pow-succ' 2 n)

-- the marks of the sixteen readers are small numbers
pub bit-small : (n : ℕ) → n < 16 → 2 ^ n ≤ 32768
bit-small n h = let l : n ≤ 15 = omega arith in pow_mono l

-- ---- what the code does, b being whether the reader is marked and p its bit
module _ (x n p : ℕ) (is : p ≡ 2 ^ n) where
  pub marked-on : marked x n ≡ true → (x ≡ with_mark x n) × (x - p ≡ without_mark x n)
  unfolding with_mark without_mark
  marked-on e = (rw e refl, rw (e, is) refl)

  pub marked-off : marked x n ≡ false → (x + p ≡ with_mark x n) × (x ≡ without_mark x n)
  unfolding with_mark without_mark
  marked-off e = (rw (e, is) refl, rw e refl)

-- ---- marking (true) and clearing (false), alike
abbrev pub put : Bool → ℕ → ℕ → ℕ
put true x n = with_mark x n
put false x n = without_mark x n

abbrev one : Bool → ℕ
one true = 1
one false = 0

-- v is the bit as it stands, p its power of two
abbrev put-by : (b : Bool) (v : Bool) (x p : ℕ) → ℕ
put-by true v x p = pick v x (x + p)
put-by false v x p = pick v (x - p) x

put_is : (b : Bool) (x n : ℕ) → put b x n ≡ put-by b (marked x n) x (2 ^ n)
unfolding with_mark without_mark
put_is true x n = refl
put_is false x n = refl

put_first : (b : Bool) (x : ℕ) → put b x 0 ≡ x / 2 * 2 + one b
put_first b x = put_is b x 0 ∙ go b (marked x 0) (sym (bit-first x))
  where
    go : (b v : Bool) → eqb (x % 2) 1 ≡ v → put-by b v x 1 ≡ x / 2 * 2 + one b
    go true true e = omega (arith, eqb-true (x % 2) 1 e)
    go true false e = omega (arith, eqb-false (x % 2) 1 e)
    go false true e = omega (arith, eqb-true (x % 2) 1 e)
    go false false e = omega (arith, eqb-false (x % 2) 1 e)

put-later : (b : Bool) (x n : ℕ) → put b x (suc n) ≡ put b (x / 2) n * 2 + x % 2
put-later b x n =
    put_is b x (suc n) ∙ ap (λ v. put-by b v x (2 ^ suc n)) (bit-later x n) ∙ ap (put-by b (marked (x / 2) n) x) (pow-succ' 2 n)
    ∙ go b (marked (x / 2) n) refl ∙ ap (λ y. y * 2 + x % 2) (sym (put_is b (x / 2) n))
  where
    go : (b v : Bool) → marked (x / 2) n ≡ v → put-by b v x (2 * 2 ^ n) ≡ put-by b v (x / 2) (2 ^ n) * 2 + x % 2
    go true true e = omega arith
    go true false e = omega arith
    go false true e = omega (arith, bit-within n (x / 2) e)
    go false false e = omega arith

half_of : (y r : ℕ) → r < 2 → (y * 2 + r) / 2 ≡ y
half_of y r h = omega arith

one-small : (b : Bool) → one b < 2
one-small true = omega arith
one-small false = omega arith

-- reader n's mark is what was put, any other stays
pub put-at : (b : Bool) (x n m : ℕ) → marked (put b x n) m ≡ pick (eqb n m) b (marked x m)
put-at b x zero zero = bit-first (put b x 0) ∙ ap (λ y. eqb (y % 2) 1) (put_first b x) ∙ go b
  where
    go : (b : Bool) → eqb ((x / 2 * 2 + one b) % 2) 1 ≡ b
    go true = eq-eqb ((x / 2 * 2 + 1) % 2) 1 (omega arith)
    go false = ne_eqb ((x / 2 * 2 + 0) % 2) 1 (λ e. omega arith)
put-at b x zero (suc m) =
    bit-later (put b x 0) m ∙ ap (λ y. marked (y / 2) m) (put_first b x) ∙ ap (λ y. marked y m) (half_of (x / 2) (one b) (one-small b)) ∙ sym (bit-later x m)
    ∙ sym (ap (λ t. pick t b (marked x (suc m))) (ne_eqb 0 (suc m) (λ e. omega arith)))
put-at b x (suc n) zero =
    bit-first (put b x (suc n)) ∙ ap (λ y. eqb (y % 2) 1) (put-later b x n)
    ∙ ap (λ y. eqb y 1) (let e : (put b (x / 2) n * 2 + x % 2) % 2 ≡ x % 2 = omega arith in e) ∙ sym (bit-first x)
    ∙ sym (ap (λ t. pick t b (marked x 0)) (ne_eqb (suc n) 0 (λ e. omega arith)))
put-at b x (suc n) (suc m) =
    bit-later (put b x (suc n)) m ∙ ap (λ y. marked (y / 2) m) (put-later b x n)
    ∙ ap (λ y. marked y m) (half_of (put b (x / 2) n) (x % 2) (omega arith)) ∙ put-at b (x / 2) n m
    ∙ ap (λ v. pick (eqb n m) b v) (sym (bit-later x m)) ∙ ap (λ t. pick t b (marked x (suc m))) (sym (same n m))
  where
    same : (n m : ℕ) → eqb (suc n) (suc m) ≡ eqb n m
    same n m = go (eqb n m) refl
      where
        go : (t : Bool) → eqb n m ≡ t → eqb (suc n) (suc m) ≡ t
        go true e = eq-eqb (suc n) (suc m) (ap suc (eqb-true n m e))
        go false e = ne_eqb (suc n) (suc m) (λ h. eqb-false n m e (omega arith))

-- a number of k bits has k bits still
pub put-range : (k : ℕ) (b : Bool) (x n : ℕ) → n < k → x < 2 ^ k → put b x n < 2 ^ k
put-range zero b x n h g = absurd (omega arith)
put-range (suc k) b x zero h g = omega (arith, put_first b x, one-small b, pow-succ' 2 k)
put-range (suc k) b x (suc n) h g =
    let less : x / 2 < 2 ^ k = omega (arith, pow-succ' 2 k) in
    let small = put-range k b (x / 2) n (omega arith) less in
    omega (arith, put-later b x n, pow-succ' 2 k)

-- nobody is marked in 0
pub none-marked : (n : ℕ) → marked 0 n ≡ false
none-marked zero = bit-first 0
none-marked (suc n) = bit-later 0 n ∙ none-marked n
