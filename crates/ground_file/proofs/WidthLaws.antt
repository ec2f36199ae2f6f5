-- The smallest width of a part is that of its largest number (`code-largest`), by its bits (`code-bits`). Assumes nothing.
use mathlib.Core.Path.{◌≡◌, refl, sym, ap, ap₂, ◌∙◌, subst}
use mathlib.Core.Bool.{true, false}
use mathlib.Core.List.{List, [], ◌∷◌}
use Prim.Native.Nat.{ℕ, zero, suc, ◌+◌, ◌*◌, ◌-◌, ◌^◌, ◌≤◌, ◌<◌, max}
use native.Mathlib.Nat.{lt_of_lt_of_le}
use native.Mathlib.Omega.{arith}
use native.Mathlib.Decide.{dec_lt}
use lib.Dec.{ltb}
use lib.ListN.{length, take, drop, get_or, drop_of_length-le}
use Rattle.std.proofs.lemmas.List.{at_drop_more}
use lib.Pow.{pow_pos, pow_mono, pow-add}
use borrow.Author.Tests.{lt-ltb, le-ltb, le-leb, lt-leb, eq-eqb, ne_eqb}
use Rattle.numbers.specs.Signal.{pick, both}
use Rattle.ground_file.specs.Groups.{width_of, holds, code_from, code_of}
use Rattle.ground_file.specs.Local.{largest_of, code_for}

-- ---- the largest number decides
both-ltb : (x m w : ℕ) → both (ltb x w) (ltb m w) ≡ ltb (pick (ltb m x) x m) w
both-ltb x m w =
    elim (dec_lt m x) [
      | yes p ↦ elim (dec_lt x w) [
        | yes q ↦ rw (lt-ltb m x p, lt-ltb x w q) (lt-ltb m w (omega arith))
        | no q ↦ rw (lt-ltb m x p, le-ltb x w (omega arith)) refl
      ]
      | no p ↦ elim (dec_lt x w) [
        | yes q ↦ rw (le-ltb m x (omega arith), lt-ltb x w q) refl
        | no q ↦ rw (le-ltb m x (omega arith), le-ltb x w (omega arith)) (sym (le-ltb m w (omega arith)))
      ]
    ]

pub holds-largest : (w : ℕ) (l : List ℕ) → holds w l ≡ ltb (largest_of l) (2 ^ w)
unfolding holds largest_of
holds-largest w [] = sym (lt-ltb 0 (2 ^ w) (pow_pos w))
holds-largest w (x ∷ l) = ap (both (ltb x (2 ^ w))) (holds-largest w l) ∙ both-ltb x (largest_of l) (2 ^ w)

only : (m : ℕ) → pick (ltb 0 m) m 0 ≡ m
only zero = refl
only (suc m) = rw (lt-ltb 0 (suc m) (omega arith)) refl

holds-one : (w m : ℕ) → holds w (m ∷ []) ≡ ltb m (2 ^ w)
unfolding largest_of
holds-one w m = holds-largest w (m ∷ []) ∙ ap (λ v. ltb v (2 ^ w)) (only m)

code-from-largest : (n c : ℕ) (l : List ℕ) → code_from n c l ≡ code_from n c (largest_of l ∷ [])
unfolding code_from
code-from-largest zero c l = refl
code-from-largest (suc n) c l =
    ap₂ (λ t r. pick t c r) (holds-largest (width_of c) l ∙ sym (holds-one (width_of c) (largest_of l))) (code-from-largest n (c + 1) l)

pub code-largest : (l : List ℕ) → code_of l ≡ code_of (largest_of l ∷ [])
unfolding code_of
code-largest l = code-from-largest 15 0 l

-- ---- the table of widths
module _ (c : ℕ) where
  pub width-own : c ≤ 11 → c ≡ width_of c
  unfolding width_of
  width-own h = rw (le-leb c 11 h) refl

  pub width-13 : 11 < c → c ≤ 12 → 13 ≡ width_of c
  unfolding width_of
  width-13 h g = rw (lt-leb c 11 h, eq-eqb c 12 (omega arith)) refl

  pub width-16 : 12 < c → c ≤ 13 → 16 ≡ width_of c
  unfolding width_of
  width-16 h g = rw (lt-leb c 11 (omega arith), ne_eqb c 12 (λ e. omega arith), eq-eqb c 13 (omega arith)) refl

  pub width-20 : 13 < c → c ≤ 14 → 20 ≡ width_of c
  unfolding width_of
  width-20 h g =
      rw (lt-leb c 11 (omega arith), ne_eqb c 12 (λ e. omega arith), ne_eqb c 13 (λ e. omega arith), eq-eqb c 14 (omega arith)) refl

  pub width-28 : 14 < c → 28 ≡ width_of c
  unfolding width_of
  width-28 h =
      rw (lt-leb c 11 (omega arith), ne_eqb c 12 (λ e. omega arith), ne_eqb c 13 (λ e. omega arith), ne_eqb c 14 (λ e. omega arith)) refl

  -- the code for so many bits
  pub for-own : c ≤ 11 → c ≡ code_for c
  unfolding code_for
  for-own h = rw (le-leb c 11 h) refl

  pub for-13 : 11 < c → c ≤ 13 → 12 ≡ code_for c
  unfolding code_for
  for-13 h g = rw (lt-leb c 11 h, le-leb c 13 g) refl

  pub for-16 : 13 < c → c ≤ 16 → 13 ≡ code_for c
  unfolding code_for
  for-16 h g = rw (lt-leb c 11 (omega arith), lt-leb c 13 h, le-leb c 16 g) refl

  pub for-20 : 16 < c → c ≤ 20 → 14 ≡ code_for c
  unfolding code_for
  for-20 h g = rw (lt-leb c 11 (omega arith), lt-leb c 13 (omega arith), lt-leb c 16 h, le-leb c 20 g) refl

  pub for-28 : 20 < c → 15 ≡ code_for c
  unfolding code_for
  for-28 h = rw (lt-leb c 11 (omega arith), lt-leb c 13 (omega arith), lt-leb c 16 (omega arith), lt-leb c 20 h) refl

-- the widths of the codes up to one
up-11 : (i : ℕ) → i ≤ 11 → width_of i ≤ i
up-11 i h = omega (arith, width-own i h)

up-12 : (i : ℕ) → i ≤ 12 → width_of i ≤ 13
up-12 i h = elim (dec_lt 11 i) [ yes p ↦ omega (arith, width-13 i p h) | no p ↦ omega (arith, up-11 i (omega arith)) ]

up-13 : (i : ℕ) → i ≤ 13 → width_of i ≤ 16
up-13 i h = elim (dec_lt 12 i) [ yes p ↦ omega (arith, width-16 i p h) | no p ↦ omega (arith, up-12 i (omega arith)) ]

pub up-14 : (i : ℕ) → i ≤ 14 → width_of i ≤ 20
up-14 i h = elim (dec_lt 13 i) [ yes p ↦ omega (arith, width-20 i p h) | no p ↦ omega (arith, up-13 i (omega arith)) ]

-- the code for b bits: every width before it is too small, and its own is not
record First (b t : ℕ) : Type 0 where
  code : code_for b ≡ t
  few : t ≤ 15
  before : (i : ℕ) → i < t → width_of i < b
  here : t < 15 → b ≤ width_of t

first : (b : ℕ) → First b (code_for b)
first b =
    elim (dec_lt 11 b) [
      | no p ↦ by b (sym (for-own b (omega arith))) (omega arith) (λ i h. omega (arith, up-11 i (omega arith))) (λ h. omega (arith, width-own b (omega arith)))
      | yes p ↦ elim (dec_lt 13 b) [
        | no q ↦ by 12 (sym (for-13 b p (omega arith))) (omega arith) (λ i h. omega (arith, up-11 i (omega arith)))
            (λ h. omega (arith, width-13 12 (omega arith) (omega arith)))
        | yes q ↦ elim (dec_lt 16 b) [
          | no r ↦ by 13 (sym (for-16 b q (omega arith))) (omega arith) (λ i h. omega (arith, up-12 i (omega arith)))
              (λ h. omega (arith, width-16 13 (omega arith) (omega arith)))
          | yes r ↦ elim (dec_lt 20 b) [
            | no s ↦ by 14 (sym (for-20 b r (omega arith))) (omega arith) (λ i h. omega (arith, up-13 i (omega arith)))
                (λ h. omega (arith, width-20 14 (omega arith) (omega arith)))
            | yes s ↦ by 15 (sym (for-28 b s)) (omega arith) (λ i h. omega (arith, up-14 i (omega arith))) (λ h. absurd (omega arith))
          ]
        ]
      ]
    ]
  where
    by : (t : ℕ) → code_for b ≡ t → t ≤ 15 → ((i : ℕ) → i < t → width_of i < b) → (t < 15 → b ≤ width_of t) → First b (code_for b)
    by t e p q r = subst (First b) (sym e) (record { code = e; few = p; before = q; here = r })

-- ---- the first code whose width holds a number
code_is : (n c t : ℕ) (l : List ℕ) → n + c ≡ 15 → c ≤ t → t ≤ 15 → ((i : ℕ) → i < t → holds (width_of i) l ≡ false) → (t < 15 → holds (width_of t) l ≡ true)
    → code_from n c l ≡ t
unfolding code_from
code_is zero c t l e p q small held = omega arith
code_is (suc n) c t l e p q small held =
    elim (dec_lt c t) [
      | yes h ↦ rw (small c h) (code_is n (c + 1) t l (omega arith) (omega arith) q small held)
      | no h ↦ let same : c ≡ t = omega arith in rw (ap (λ i. holds (width_of i) l) same ∙ held (omega arith)) same
    ]

-- a number of b bits
pub code-bits : (m b : ℕ) → m < 2 ^ b → 2 ^ b ≤ 2 * m + 1 → code_for b ≡ code_of (m ∷ [])
unfolding code_of
code-bits m b p q =
    let f = first b in
    sym (code_is 15 0 (code_for b) (m ∷ []) (omega arith) (omega arith) f.few
    (λ i h. holds-one (width_of i) m ∙ le-ltb m (2 ^ width_of i) (half (width_of i) (f.before i h)))
    (λ h. holds-one (width_of (code_for b)) m ∙ lt-ltb m (2 ^ width_of (code_for b)) (lt_of_lt_of_le p (pow_mono (f.here h)))))
  where
    half : (w : ℕ) → w < b → 2 ^ w ≤ m
    half w h = let d : 2 ^ (w + 1) ≤ 2 ^ b = pow_mono (omega arith) in omega (arith, d, q, pow-add 2 w 1)

-- ---- the numbers of a list from a place on
pub drop-first : (l : List ℕ) (j : ℕ) → j < length l → drop j l ≡ get_or l j 0 ∷ drop (j + 1) l
drop-first [] j h = absurd (omega arith)
drop-first (x ∷ l) zero h = refl
drop-first (x ∷ l) (suc j) h = let e : suc j + 1 ≡ suc (j + 1) = omega arith in rw e (drop-first l j (omega arith))

-- the n numbers from `from` on, from the one before number i on
pub part-back : (l : List ℕ) (from n i : ℕ) → from + n ≤ length l → i ≤ n → 0 < i
    → take (n - (i - 1)) (drop (from + (i - 1)) l) ≡ get_or l (from + (i - 1)) 0 ∷ take (n - i) (drop (from + i) l)
part-back l from n i there some h =
    let e : n - (i - 1) ≡ suc (n - i) = omega arith in
    let f : from + (i - 1) + 1 ≡ from + i = omega arith in
    rw e (ap (take (suc (n - i))) (drop-first l (from + (i - 1)) (omega arith))
    ∙ ap (λ k. get_or l (from + (i - 1)) 0 ∷ take (n - i) (drop k l)) f)

-- ---- the largest number, number by number
pub largest-none : largest_of [] ≡ 0
unfolding largest_of
largest-none = refl

pub largest-more : (x : ℕ) (l : List ℕ) → largest_of (x ∷ l) ≡ max x (largest_of l)
unfolding largest_of
largest-more x l =
    elim (dec_lt (largest_of l) x) [
      | yes p ↦ rw (lt-ltb (largest_of l) x p) (omega arith)
      | no p ↦ rw (le-ltb (largest_of l) x (omega arith)) (omega arith)
    ]

-- the largest number of those passed and of those to come: one number more passed, and m is the larger of it and of those before it
pub largest-turn : (l : List ℕ) (i most m : ℕ) → i < length l → m ≡ max most (get_or l i 0) → max most (largest_of (drop i l)) ≡ largest_of l
    → max m (largest_of (drop (i + 1) l)) ≡ largest_of l
largest-turn l i most m h k e =
    let one = at_drop_more largest_of l i 0 h ∙ largest-more (get_or l i 0) (drop (i + 1) l) in
    omega (arith, e, one, k)

-- all passed
pub largest-end : (l : List ℕ) (i most : ℕ) → length l ≤ i → max most (largest_of (drop i l)) ≡ largest_of l → most ≡ largest_of l
largest-end l i most h e =
    let none = ap largest_of (drop_of_length-le l h) ∙ largest-none in
    omega (arith, e, none)
