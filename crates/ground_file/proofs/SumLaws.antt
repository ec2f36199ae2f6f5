-- The checksum four bytes at a time. Assumes nothing.
use mathlib.Core.Path.{◌≡◌, refl, sym, ap, ap₂, ◌∙◌}
use mathlib.Core.List.{List, [], ◌∷◌}
use Prim.Native.Nat.{ℕ, ◌+◌, ◌*◌, ◌-◌, ◌/◌, ◌%◌, ◌^◌, ◌≤◌, ◌<◌}
use native.Mathlib.Nat.{mul-add-mod_self_right}
use native.Mathlib.Omega.{arith}
use lib.ListN.{length, take, drop, get_or, length-take, length-drop, take-append-drop}
use lib.Seq.{take-add, take_all}
use Rattle.ground_file.specs.File.{as_number, prime}
use Rattle.ground_file.proofs.WidthLaws.{drop-first}
use Rattle.ground_file.proofs.ValueLaws.{number_append, number-rest}

-- four bytes of a list
four-listed : (l : List ℕ) (k : ℕ) → k + 4 ≤ length l → take 4 (drop k l) ≡ get_or l k 0 ∷ get_or l (k + 1) 0 ∷ get_or l (k + 2) 0 ∷ get_or l (k + 3) 0 ∷ []
four-listed l k h =
    ap (take 4) (drop-first l k (omega arith))
    ∙ ap (λ t. get_or l k 0 ∷ take 3 t) (drop-first l (k + 1) (omega arith))
    ∙ ap (λ t. get_or l k 0 ∷ get_or l (k + 1) 0 ∷ take 2 t) (at_place (k + 1 + 1) (k + 2) (omega arith) (drop-first l (k + 2) (omega arith)))
    ∙ ap (λ t. get_or l k 0 ∷ get_or l (k + 1) 0 ∷ get_or l (k + 2) 0 ∷ take 1 t) (at_place (k + 2 + 1) (k + 3) (omega arith) (drop-first l (k + 3) (omega arith)))
    ∙ ap (λ t. get_or l k 0 ∷ get_or l (k + 1) 0 ∷ get_or l (k + 2) 0 ∷ get_or l (k + 3) 0 ∷ t) (none (drop (k + 3 + 1) l))
  where
    at_place : (m n : ℕ) {t : List ℕ} → m ≡ n → drop n l ≡ t → drop m l ≡ t
    at_place m n e f = ap (λ i. drop i l) e ∙ f

    none : (t : List ℕ) → take 0 t ≡ []
    none [] = refl
    none (x ∷ t) = refl

pub four_is : (l : List ℕ) (k : ℕ) → k + 4 ≤ length l →
    16777216 * get_or l k 0 + 65536 * get_or l (k + 1) 0 + 256 * get_or l (k + 2) 0 + get_or l (k + 3) 0 ≡ as_number 0 (take 4 (drop k l))
unfolding as_number
four_is l k h = rw (four-listed l k h) (omega arith)

-- the number of four bytes after a number
number-four : (n : ℕ) (l : List ℕ) → length l ≡ 4 → as_number n l ≡ 4294967296 * n + as_number 0 l
unfolding as_number
number-four n [] h = absurd (omega arith)
number-four n (a ∷ []) h = absurd (omega arith)
number-four n (a ∷ b ∷ []) h = absurd (omega arith)
number-four n (a ∷ b ∷ c ∷ []) h = absurd (omega arith)
number-four n (a ∷ b ∷ c ∷ d ∷ []) h = omega arith
number-four n (a ∷ b ∷ c ∷ d ∷ e ∷ l) h = absurd (omega arith)

rest-four : (a b : ℕ) → (4294967296 * (a % prime) + b) % prime ≡ (4294967296 * a + b) % prime
unfolding prime
rest-four a b =
    let e : 4294967296 * a + b ≡ 4294967296 * (a / prime) * prime + (4294967296 * (a % prime) + b) = omega arith in
    sym (ap (λ n. n % prime) e ∙ mul-add-mod_self_right (4294967296 * (a / prime)) prime (4294967296 * (a % prime) + b))

pub remains : (a : ℕ) → a % prime < prime
unfolding prime
remains a = omega arith

-- ---- i fours are summed
pub record Fours (sum : ℕ) (l : List ℕ) (m r i : ℕ) : Type 0 where
  pub there : 4 * m ≤ length l
  pub short : length l < 2 ^ 63
  pub small : r < prime
  pub number : r ≡ as_number sum (take (4 * i) l) % prime

own : (sum : ℕ) → sum < prime → sum ≡ sum % prime
unfolding prime
own sum h = omega arith

pub begin-is : (sum : ℕ) (l : List ℕ) → sum < prime → sum ≡ as_number sum (take 0 l) % prime
unfolding as_number
begin-is sum [] h = own sum h
begin-is sum (x ∷ l) h = own sum h

pub fours-start : {sum : ℕ} {l : List ℕ} {m : ℕ} → 4 * m ≤ length l → sum < prime → length l < 2 ^ 63 → Fours sum l m sum 0
fours-start {sum} {l} {m} h s z =
    let e : 4 * 0 ≡ 0 = omega arith in
    record { there = h; short = z; small = s; number = begin-is sum l s ∙ ap (λ k. as_number sum (take k l) % prime) (sym e) }

pub fours-next : {sum : ℕ} {l : List ℕ} {m r i : ℕ} → Fours sum l m r i → i < m → (f : ℕ) → f ≡ as_number 0 (take 4 (drop (4 * i) l))
    → Fours sum l m ((4294967296 * r + f) % prime) (i + 1)
fours-next {sum} {l} {m} {r} {i} s h f e = record {
  there = s.there;
  short = s.short;
  small = remains (4294967296 * r + f);
  number = ap₂ (λ a b. (4294967296 * a + b) % prime) s.number e
      ∙ rest-four (as_number sum (take (4 * i) l)) (as_number 0 (take 4 (drop (4 * i) l)))
      ∙ ap (λ n. n % prime) (sym (number-four (as_number sum (take (4 * i) l)) (take 4 (drop (4 * i) l)) long)
      ∙ sym (number_append sum (take (4 * i) l) (take 4 (drop (4 * i) l)))
      ∙ ap (as_number sum) (sym (take-add (4 * i) 4 l) ∙ ap (λ k. take k l) place));
}
  where
    place : 4 * i + 4 ≡ 4 * (i + 1)
    place = omega arith

    long : length (take 4 (drop (4 * i) l)) ≡ 4
    long = omega (arith, length-take 4 (drop (4 * i) l), length-drop (4 * i) l, s.there, h)

pub fours-end : {sum : ℕ} {l : List ℕ} {m r i : ℕ} → Fours sum l m r i → i ≡ m → (r ≡ as_number sum (take (4 * m) l) % prime) × (r < prime)
fours-end {sum} {l} {m} {r} {i} s e = (s.number ∙ ap (λ k. as_number sum (take (4 * k) l) % prime) e, s.small)

-- ---- both
pub sum_is : (sum : ℕ) (l : List ℕ) (k a r : ℕ) → a ≡ as_number sum (take k l) % prime → r ≡ as_number a (take (length l - k) (drop k l)) % prime
    → r ≡ as_number sum l % prime
sum_is sum l k a r ea er =
    er ∙ ap (λ m. as_number a m % prime) (take_all (length l - k) (drop k l) (omega (arith, length-drop k l))) ∙ ap (λ x. as_number x (drop k l) % prime) ea ∙ number-rest (as_number sum (take k l)) (drop k l)
    ∙ ap (λ x. x % prime) (sym (number_append sum (take k l) (drop k l)) ∙ ap (as_number sum) (take-append-drop k l))
