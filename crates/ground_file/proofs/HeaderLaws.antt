-- The header's definitions as its code takes them. Assumes nothing.
use mathlib.Core.Path.{◌≡◌, refl, sym, ap, ap₂, subst, ◌∙◌}
use mathlib.Core.Bool.{true, false, not}
use mathlib.Core.List.{List, [], ◌∷◌}
use Prim.Native.Nat.{ℕ, suc, ◌+◌, ◌*◌, ◌-◌, ◌^◌, ◌≤◌, ◌<◌}
use native.Mathlib.Omega.{arith}
use native.Mathlib.Nat.{lt_of_lt_of_le, mul-suc}
use lib.Dec.{eqb}
use lib.ListN.{length, take, drop, get_or}
use lib.Pow.{pow-add, pow_mono}
use borrow.Author.Tests.{le-leb, lt-leb, eq-eqb, ne_eqb}
use Rattle.numbers.specs.Signal.{pick}
use Rattle.wavelet.specs.declared.shape.Shape.{Shape}
use Rattle.ground_file.specs.Groups.{digits}
use Rattle.ground_file.specs.Saving.{set_up_number}
use Rattle.ground_file.specs.Header.{number_in, shape_in, step_in, is_header, roundable, header_number}
use Rattle.ground_file.proofs.WidthLaws.{drop-first}

-- ---- a number's bytes, from the last on
-- the n numbers from `from` on, from the one before number i on
part-back : (l : List ℕ) (from n i : ℕ) → from + n ≤ length l → i ≤ n → 0 < i
    → take (n - (i - 1)) (drop (from + (i - 1)) l) ≡ get_or l (from + (i - 1)) 0 ∷ take (n - i) (drop (from + i) l)
part-back l from n i there some h =
    let e : n - (i - 1) ≡ suc (n - i) = omega arith in
    let f : from + (i - 1) + 1 ≡ from + i = omega arith in
    rw e (ap (take (suc (n - i))) (drop-first l (from + (i - 1)) (omega arith))
    ∙ ap (λ k. get_or l (from + (i - 1)) 0 ∷ take (n - i) (drop k l)) f)

pub record Reading (bytes : List ℕ) (from n r i : ℕ) : Type 0 where
  pub there : from + n ≤ length bytes
  pub few : n ≤ 8
  pub some : i ≤ n
  pub short : length bytes < 2 ^ 63
  pub number : r ≡ digits 256 (take (n - i) (drop (from + i) bytes))
  pub small : r < 2 ^ (8 * (n - i))

pub reading-start : {bytes : List ℕ} {from n : ℕ} → from + n ≤ length bytes → n ≤ 8 → length bytes < 2 ^ 63 → Reading bytes from n 0 n
unfolding digits
reading-start {bytes} {from} {n} h f s =
    let e : n - n ≡ 0 = omega arith in
    record { there = h; few = f; some = omega arith; short = s; number = rw e refl; small = rw e (omega arith) }

module _ {bytes : List ℕ} {from n r i : ℕ} (s : Reading bytes from n r i) (h : 0 < i) where
  pub reading-room : r < 2 ^ 56
  reading-room =
      let few : 8 * (n - i) ≤ 56 = omega (arith, s.few, s.some, h) in
      lt_of_lt_of_le s.small (pow_mono few)

  pub reading-next : (x : ℕ) → x ≡ get_or bytes (from + (i - 1)) 0 → x < 256 → Reading bytes from n (256 * r + x) (i - 1)
  unfolding digits
  reading-next x is below =
      let e : n - (i - 1) ≡ suc (n - i) = omega (arith, s.some) in
      let power : 2 ^ (8 * suc (n - i)) ≡ 2 ^ (8 * (n - i)) * 256 = ap (λ k. 2 ^ k) (mul-suc 8 (n - i)) ∙ pow-add 2 (8 * (n - i)) 8 in
      record {
        there = s.there;
        few = s.few;
        some = omega (arith, s.some);
        short = s.short;
        number = sum ∙ sym (ap (digits 256) (part-back bytes from n i s.there s.some h));
        small = rw e (omega (arith, power, s.small, below));
      }
    where
      sum : 256 * r + x ≡ get_or bytes (from + (i - 1)) 0 + 256 * digits 256 (take (n - i) (drop (from + i) bytes))
      sum = omega (arith, is, s.number)

pub reading-end : {bytes : List ℕ} {from n r i : ℕ} → Reading bytes from n r i → i ≤ 0 → (r ≡ number_in bytes from n) × (r < 2 ^ (8 * n))
unfolding number_in
reading-end {bytes} {from} {n} {r} {i} s h =
    let e : n - i ≡ n = omega arith in
    let f : from + i ≡ from = omega arith in
    (s.number ∙ ap₂ (λ a b. digits 256 (take a (drop b bytes))) e f, subst (λ a. r < 2 ^ (8 * a)) e s.small)

-- ---- the tests one after the other
module _ (b : List ℕ) where
  abbrev Signature : ℕ
  Signature = digits 256 (137 ∷ 71 ∷ 78 ∷ 68 ∷ 13 ∷ 10 ∷ 26 ∷ 10 ∷ [])

  pub signature-is : Signature ≡ 727905341870589833
  unfolding digits
  signature-is = refl

  pub header-signature : (n : ℕ) → n ≡ number_in b 0 8 → (n ≡ 727905341870589833 → ⊥) → false ≡ is_header b
  unfolding is_header
  header-signature n e z = rw (← e, ne_eqb n Signature (λ k. z (k ∙ signature-is))) refl

  module _ (n : ℕ) (e : n ≡ number_in b 0 8) (z : n ≡ 727905341870589833) where
    pub header-version : (m : ℕ) → m ≡ number_in b 8 1 → (m ≡ 1 → ⊥) → false ≡ is_header b
    unfolding is_header
    header-version m f y = rw (← e, eq-eqb n Signature (z ∙ sym signature-is), ← f, ne_eqb m 1 y) refl

    pub header-end : (m k : ℕ) → m ≡ number_in b 8 1 → m ≡ 1 → k ≡ number_in b 22 2 → eqb k 0 ≡ is_header b
    unfolding is_header
    header-end m k f y g = rw (← e, eq-eqb n Signature (z ∙ sym signature-is), ← f, eq-eqb m 1 y, ← g) refl

module _ (s : Shape) (q : ℕ) where
  pub round-one : q ≤ 1 → true ≡ roundable s q
  unfolding roundable
  round-one h = rw (le-leb q 1 h) refl

  module _ (big : 1 < q) where
    pub round-x : (s.x ≡ 0 → ⊥) → false ≡ roundable s q
    unfolding roundable
    round-x e = rw (lt-leb q 1 big, ne_eqb s.x 0 e) refl

    pub round-y : s.x ≡ 0 → (s.y ≡ 0 → ⊥) → false ≡ roundable s q
    unfolding roundable
    round-y z e = rw (lt-leb q 1 big, eq-eqb s.x 0 z, ne_eqb s.y 0 e) refl

    pub round-filter : s.x ≡ 0 → s.y ≡ 0 → not (eqb s.filter 1) ≡ roundable s q
    unfolding roundable
    round-filter z e = rw (lt-leb q 1 big, eq-eqb s.x 0 z, eq-eqb s.y 0 e) refl

module _ (b : List ℕ) where
  pub header-short : length b < 24 → 5 ≡ header_number b
  unfolding header_number
  header-short h = rw (lt-leb 24 (length b) h) refl

  module _ (long : 24 ≤ length b) where
    pub header-other : is_header b ≡ false → 22 ≡ header_number b
    unfolding header_number
    header-other e = rw (le-leb 24 (length b) long, e) refl

    module _ (head : is_header b ≡ true) (s : Shape) (q : ℕ) (es : s ≡ shape_in b) (eq : q ≡ step_in b) where
      pub header-rounded : roundable s q ≡ false → 22 ≡ header_number b
      unfolding header_number
      header-rounded e = rw (le-leb 24 (length b) long, head, ap₂ roundable (sym es) (sym eq) ∙ e) refl

      pub header-set-up : roundable s q ≡ true → set_up_number s q ≡ header_number b
      unfolding header_number
      header-set-up e = rw (le-leb 24 (length b) long, head, ap₂ roundable (sym es) (sym eq) ∙ e) (ap₂ set_up_number es eq)

pub shape-made : (b : List ℕ) {w h k x y f : ℕ} → w ≡ number_in b 16 2 → h ≡ number_in b 18 4 → k ≡ number_in b 10 1 → x ≡ number_in b 12 2
    → y ≡ number_in b 14 2 → f ≡ number_in b 9 1 → ◌≡◌ {A = Shape} (record { width = w; height = h; levels = k; x = x; y = y; filter = f }) (shape_in b)
unfolding shape_in
shape-made b p q r s t u = λ i. record { width = p i; height = q i; levels = r i; x = s i; y = t i; filter = u i }

pub step_is : (b : List ℕ) (q : ℕ) → q ≡ number_in b 11 1 → q ≡ step_in b
unfolding step_in
step_is b q e = e
