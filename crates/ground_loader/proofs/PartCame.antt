-- A part as its bytes come in: what came of it (`Came`) with one byte more (`came-byte`); with its last byte it is the part of its numbers (`came-end`), and a
-- part that has this byte there is not turned away (`came-told`). Assumes nothing.
use mathlib.Core.Path.{◌≡◌, refl, sym, ap, ap₂, ◌∙◌, subst}
use mathlib.Core.List.{List, [], ◌∷◌, ◌++◌}
use Prim.Native.Nat.{ℕ, zero, suc, ◌+◌, ◌*◌, ◌-◌, ◌/◌, ◌%◌, ◌^◌, ◌≤◌, ◌<◌}
use native.Mathlib.Nat.{mul-add, mul-zero, mul-one, mul-suc, mul_comm, mul_assoc, mul-le-mul_left, div-one, mod-lt, lt_of_lt_of_le}
use native.Mathlib.Omega.{arith}
use native.Mathlib.Decide.{dec_lt}
use lib.Dec.{ltb}
use lib.ListN.{length, length-append}
use lib.Pow.{split, pow_pos, pow-add, pow_mono, shr-shr, shr_lt}
use borrow.Author.Tests.{lt-ltb, le-ltb}
use Rattle.numbers.specs.Signal.{pick}
use Rattle.ground_file.specs.Groups.{code_of, digits, bytes_of, part_of}
use Rattle.ground_file.specs.Local.{largest_of}
use Rattle.ground_file.proofs.Digits.{append-is, Below, none, more, digits-told, digits-below}
use Rattle.ground_file.proofs.GroupLaws.{part_length}
use Rattle.ground_file.proofs.WidthLaws.{code-largest}
use Rattle.ground_loader.specs.Numbers.{numbers_in, greatest}

-- ---- digits and bytes
pub digits_append : (w : ℕ) (l m : List ℕ) → digits (2 ^ w) (l ++ m) ≡ digits (2 ^ w) l + 2 ^ (w * length l) * digits (2 ^ w) m
unfolding digits
digits_append w [] m = sym (ap (λ e. 0 + 2 ^ e * digits (2 ^ w) m) (mul-zero w) ∙ one (digits (2 ^ w) m))
  where
    one : (d : ℕ) → 0 + 1 * d ≡ d
    one d = omega arith
digits_append w (x ∷ l) m =
    let d = digits (2 ^ w) m in
    let power : 2 ^ (w * suc (length l)) ≡ 2 ^ (w * length l) * 2 ^ w = ap (λ e. 2 ^ e) (mul-suc w (length l)) ∙ pow-add 2 (w * length l) w in
    let above : 2 ^ (w * suc (length l)) * d ≡ 2 ^ w * (2 ^ (w * length l) * d) =
    ap (λ v. v * d) (power ∙ mul_comm (2 ^ (w * length l)) (2 ^ w)) ∙ mul_assoc (2 ^ w) (2 ^ (w * length l)) d in
    let step : 2 ^ w * digits (2 ^ w) (l ++ m) ≡ 2 ^ w * digits (2 ^ w) l + 2 ^ w * (2 ^ (w * length l) * d) =
    ap (λ v. 2 ^ w * v) (digits_append w l m) ∙ mul-add (2 ^ w) (digits (2 ^ w) l) (2 ^ (w * length l) * d) in
    omega (arith, above, step)

pub below-append : (b : ℕ) (l m : List ℕ) → Below b l → Below b m → Below b (l ++ m)
below-append b [] m p q = q
below-append b (x ∷ l) m (more h p) q = more h (below-append b l m p q)

-- bytes are those of their number
bytes-are : (l : List ℕ) → Below (2 ^ 8) l → bytes_of (length l) (digits (2 ^ 8) l) ≡ l
unfolding bytes_of digits
bytes-are [] p = refl
bytes-are (x ∷ l) (more h p) =
    let low : (x + 256 * digits (2 ^ 8) l) % 256 ≡ x = omega arith in
    let high : (x + 256 * digits (2 ^ 8) l) / 256 ≡ digits (2 ^ 8) l = omega arith in
    ap₂ ◌∷◌ low (ap (bytes_of (length l)) high ∙ bytes-are l p)

-- a number is that of its bytes
number_of : (k n : ℕ) → n < 2 ^ (8 * k) → digits (2 ^ 8) (bytes_of k n) ≡ n
unfolding bytes_of digits
number_of zero n h = omega arith
number_of (suc k) n h =
    let power : 2 ^ (8 * suc k) ≡ 2 ^ (8 * k) * 256 = ap (λ e. 2 ^ e) (mul-suc 8 k) ∙ pow-add 2 (8 * k) 8 in
    let rest = number_of k (n / 256) (omega (arith, power)) in
    omega (arith, rest)

-- ---- the numbers in some bits
pub numbers-length : (w k x : ℕ) → length (numbers_in w k x) ≡ k
unfolding numbers_in
numbers-length w zero x = refl
numbers-length w (suc k) x = ap suc (numbers-length w k (x / 2 ^ w))

pub numbers-below : (w k x : ℕ) → Below (2 ^ w) (numbers_in w k x)
unfolding numbers_in
numbers-below w zero x = none
numbers-below w (suc k) x = more (mod-lt x (pow_pos w)) (numbers-below w k (x / 2 ^ w))

numbers-are : (w k x : ℕ) → digits (2 ^ w) (numbers_in w k x) + 2 ^ (w * k) * (x / 2 ^ (w * k)) ≡ x
unfolding numbers_in digits
numbers-are w zero x = ap (λ e. 0 + 2 ^ e * (x / 2 ^ e)) (mul-zero w) ∙ ap (λ v. 0 + 1 * v) (div-one x) ∙ one x
  where
    one : (d : ℕ) → 0 + 1 * d ≡ d
    one d = omega arith
numbers-are w (suc k) x =
    let y = x / 2 ^ w in
    let power : 2 ^ (w * suc k) ≡ 2 ^ w * 2 ^ (w * k) =
    ap (λ e. 2 ^ e) (mul-suc w k) ∙ pow-add 2 (w * k) w ∙ mul_comm (2 ^ (w * k)) (2 ^ w) in
    let shift : x / 2 ^ (w * suc k) ≡ y / 2 ^ (w * k) =
    ap (λ e. x / 2 ^ e) (mul-suc w k ∙ swapped (w * k) w) ∙ sym (shr-shr x w (w * k)) in
    let above : 2 ^ (w * suc k) * (x / 2 ^ (w * suc k)) ≡ 2 ^ w * (2 ^ (w * k) * (y / 2 ^ (w * k))) =
    ap₂ ◌*◌ power shift ∙ mul_assoc (2 ^ w) (2 ^ (w * k)) (y / 2 ^ (w * k)) in
    let step : 2 ^ w * digits (2 ^ w) (numbers_in w k y) + 2 ^ w * (2 ^ (w * k) * (y / 2 ^ (w * k))) ≡ 2 ^ w * y =
    sym (mul-add (2 ^ w) (digits (2 ^ w) (numbers_in w k y)) (2 ^ (w * k) * (y / 2 ^ (w * k)))) ∙ ap (λ v. 2 ^ w * v) (numbers-are w k y) in
    omega (arith, above, step, split x w, mul_comm (2 ^ w) y)
  where
    swapped : (a b : ℕ) → a + b ≡ b + a
    swapped a b = omega arith

-- ---- the largest number
pub greatest-append : (m : ℕ) (l r : List ℕ) → greatest m (l ++ r) ≡ greatest (greatest m l) r
unfolding greatest
greatest-append m [] r = refl
greatest-append m (x ∷ l) r = greatest-append (pick (ltb m x) x m) l r

join : (m x y : ℕ) → pick (ltb (pick (ltb m x) x m) y) y (pick (ltb m x) x m) ≡ pick (ltb m (pick (ltb y x) x y)) (pick (ltb y x) x y) m
join m x y =
    elim (dec_lt m x) [
      | yes p ↦ elim (dec_lt y x) [
        | yes q ↦ rw (lt-ltb m x p, lt-ltb y x q, le-ltb x y (omega arith), lt-ltb m x p) refl
        | no q ↦ elim (dec_lt x y) [
          | yes r ↦ rw (lt-ltb m x p, le-ltb y x (omega arith), lt-ltb x y r, lt-ltb m y (omega arith)) refl
          | no r ↦ rw (lt-ltb m x p, le-ltb y x (omega arith), le-ltb x y (omega arith), lt-ltb m y (omega arith)) (omega arith)
        ]
      ]
      | no p ↦ elim (dec_lt y x) [
        | yes q ↦ rw (le-ltb m x (omega arith), lt-ltb y x q, le-ltb m y (omega arith), le-ltb m x (omega arith)) refl
        | no q ↦ rw (le-ltb m x (omega arith), le-ltb y x (omega arith)) refl
      ]
    ]

greatest-largest : (m : ℕ) (l : List ℕ) → greatest m l ≡ pick (ltb m (largest_of l)) (largest_of l) m
unfolding greatest largest_of
greatest-largest m [] = rw (le-ltb m 0 (omega arith)) refl
greatest-largest m (x ∷ l) = greatest-largest (pick (ltb m x) x m) l ∙ join m x (largest_of l)

only : (m : ℕ) → pick (ltb 0 m) m 0 ≡ m
only zero = refl
only (suc m) = rw (lt-ltb 0 (suc m) (omega arith)) refl

pub code-greatest : (l : List ℕ) → code_of l ≡ code_of (greatest 0 l ∷ [])
code-greatest l = code-largest l ∙ ap (λ v. code_of (v ∷ [])) (sym (greatest-largest 0 l ∙ only (largest_of l)))

-- ---- what came of a part of m numbers of w bits: the bytes ps; of its numbers xs are stored
pub record Came (w m : ℕ) (ps xs : List ℕ) (left low bits most : ℕ) : Type 0 where
  pub bytes : Below (2 ^ 8) ps
  pub held : Below (2 ^ w) xs
  pub size : length xs + left ≡ m
  pub count : bits + w * length xs ≡ 8 * length ps
  pub number : digits (2 ^ 8) ps ≡ digits (2 ^ w) xs + 2 ^ (w * length xs) * low
  pub small : low < 2 ^ bits
  pub largest : most ≡ greatest 0 xs

pub came-start : (w m : ℕ) → Came w m [] [] m 0 0 0
unfolding digits greatest
came-start w m =
    record {
      bytes = none;
      held = none;
      size = omega arith;
      count = omega (arith, mul-zero w);
      number = omega (arith, mul-zero (2 ^ (w * 0)));
      small = omega arith;
      largest = refl;
    }

module _ {w m : ℕ} {ps xs : List ℕ} {left low bits most : ℕ} (c : Came w m ps xs left low bits most) (b : ℕ) (byte : b < 2 ^ 8) where
  abbrev all : ℕ
  all = low + b * 2 ^ bits

  -- the number with a byte more
  joined : digits (2 ^ 8) (ps ++ (b ∷ [])) ≡ digits (2 ^ w) xs + 2 ^ (w * length xs) * all
  unfolding digits
  joined =
      let place : 2 ^ (8 * length ps) ≡ 2 ^ (w * length xs) * 2 ^ bits =
      ap (λ e. 2 ^ e) (sym c.count) ∙ pow-add 2 bits (w * length xs) ∙ mul_comm (2 ^ bits) (2 ^ (w * length xs)) in
      let one : digits (2 ^ 8) (b ∷ []) ≡ b = omega arith in
      let above : 2 ^ (8 * length ps) * digits (2 ^ 8) (b ∷ []) ≡ 2 ^ (w * length xs) * (b * 2 ^ bits) =
      ap₂ ◌*◌ place one ∙ mul_assoc (2 ^ (w * length xs)) (2 ^ bits) b ∙ ap (λ v. 2 ^ (w * length xs) * v) (mul_comm (2 ^ bits) b) in
      let parts : 2 ^ (w * length xs) * all ≡ 2 ^ (w * length xs) * low + 2 ^ (w * length xs) * (b * 2 ^ bits) =
      mul-add (2 ^ (w * length xs)) low (b * 2 ^ bits) in
      digits_append 8 ps (b ∷ []) ∙ ap₂ ◌+◌ c.number above ∙ regroup (digits (2 ^ w) xs) _ _ _ parts
    where
      regroup : (d u v t : ℕ) → t ≡ u + v → (d + u) + v ≡ d + t
      regroup d u v t e = omega arith

  all_small : all < 2 ^ (bits + 8)
  all_small =
      let times : b * 2 ^ bits + 2 ^ bits ≤ 2 ^ bits * 256 = top in
      omega (arith, c.small, times, pow-add 2 bits 8)
    where
      top : b * 2 ^ bits + 2 ^ bits ≤ 2 ^ bits * 256
      top =
          let l : 2 ^ bits * (b + 1) ≤ 2 ^ bits * 256 = mul-le-mul_left (2 ^ bits) (omega arith) in
          omega (arith, l, mul-add (2 ^ bits) b 1, mul-one (2 ^ bits), mul_comm (2 ^ bits) b)

  module _ (k : ℕ) (few : k ≤ left) (there : w * k ≤ bits + 8) where
    abbrev now : List ℕ
    now = xs ++ numbers_in w k all

    now-length : length now ≡ length xs + k
    now-length = length-append xs (numbers_in w k all) ∙ ap (λ v. length xs + v) (numbers-length w k all)

    pub came-byte : Came w m (ps ++ (b ∷ [])) now (left - k) (all / 2 ^ (w * k)) (bits + 8 - w * k) (greatest most (numbers_in w k all))
    came-byte =
        let wide : w * length now ≡ w * length xs + w * k = ap (λ v. w * v) now-length ∙ mul-add w (length xs) k in
        let longer : length (ps ++ (b ∷ [])) ≡ length ps + 1 = length-append ps (b ∷ []) in
        let power : 2 ^ (w * length now) ≡ 2 ^ (w * length xs) * 2 ^ (w * k) = ap (λ e. 2 ^ e) wide ∙ pow-add 2 (w * length xs) (w * k) in
        let rest = all / 2 ^ (w * k) in
        let d = digits (2 ^ w) (numbers_in w k all) in
        let parts : 2 ^ (w * length xs) * all ≡ 2 ^ (w * length xs) * d + 2 ^ (w * length xs) * (2 ^ (w * k) * rest) =
        ap (λ v. 2 ^ (w * length xs) * v) (sym (numbers-are w k all)) ∙ mul-add (2 ^ (w * length xs)) d (2 ^ (w * k) * rest) in
        let high : 2 ^ (w * length now) * rest ≡ 2 ^ (w * length xs) * (2 ^ (w * k) * rest) =
        ap (λ v. v * rest) power ∙ mul_assoc (2 ^ (w * length xs)) (2 ^ (w * k)) rest in
        let bits_are : bits + 8 ≡ (bits + 8 - w * k) + w * k = omega arith in
        record {
          bytes = below-append (2 ^ 8) ps (b ∷ []) c.bytes (more byte none);
          held = below-append (2 ^ w) xs (numbers_in w k all) c.held (numbers-below w k all);
          size = omega (arith, now-length, c.size);
          count = omega (arith, wide, longer, c.count);
          number = joined ∙ regroup (digits (2 ^ w) xs) _ _ _ _ _ (digits_append w xs (numbers_in w k all)) parts high;
          small = shr_lt (bits + 8 - w * k) (w * k) (subst (λ e. all < 2 ^ e) bits_are all_small);
          largest = ap (λ v. greatest v (numbers_in w k all)) c.largest ∙ sym (greatest-append 0 xs (numbers_in w k all));
        }
      where
        regroup : (d u v t n h : ℕ) → n ≡ d + u → t ≡ u + v → h ≡ v → d + t ≡ n + h
        regroup d u v t n h e f g = omega arith

-- ---- with the last byte
pub came-end : {w m : ℕ} {ps xs : List ℕ} {low bits most : ℕ} → Came w m ps xs 0 low bits most → low ≡ 0 → length ps ≡ (w * m + 7) / 8
    → (ps ≡ part_of w xs) × (code_of (most ∷ []) ≡ code_of xs)
unfolding part_of
came-end {w} {m} {ps} {xs} {low} {bits} {most} c none_left long =
    let size : length xs ≡ m = omega (arith, c.size) in
    let number : digits (2 ^ 8) ps ≡ digits (2 ^ w) xs =
    c.number ∙ ap (λ v. digits (2 ^ w) xs + 2 ^ (w * length xs) * v) none_left ∙ plain (digits (2 ^ w) xs) _ (mul-zero (2 ^ (w * length xs))) in (
      sym (bytes-are ps c.bytes) ∙ ap₂ bytes_of (long ∙ ap (λ v. (w * v + 7) / 8) (sym size)) number,
      ap (λ v. code_of (v ∷ [])) c.largest ∙ sym (code-greatest xs),
    )
  where
    plain : (d e : ℕ) → e ≡ 0 → d + e ≡ d
    plain d e h = omega arith

-- a part q of that width whose bytes these are: what came is q
pub came-told : {w m : ℕ} {ps xs : List ℕ} {low bits most : ℕ} → Came w m ps xs 0 low bits most → length ps ≡ (w * m + 7) / 8
    → (q t u : List ℕ) → length q ≡ m → Below (2 ^ w) q → ps ++ t ≡ part_of w q ++ u
    → (low ≡ 0) × (xs ≡ q) × (t ≡ u) × (code_of (most ∷ []) ≡ code_of q)
came-told {w} {m} {ps} {xs} {low} {bits} {most} c long q t u size below e =
    let sizes : length ps ≡ length (part_of w q) = long ∙ ap (λ v. (w * v + 7) / 8) (sym size) ∙ sym (part_length w q) in
    let both = append-is ps (part_of w q) sizes e in
    let own : length xs ≡ length q = omega (arith, c.size, size) in
    let top : digits (2 ^ w) q < 2 ^ (w * length xs) = subst (λ v. digits (2 ^ w) q < 2 ^ (w * v)) (sym own) (digits-below w q below) in
    let number : digits (2 ^ w) q ≡ digits (2 ^ w) xs + 2 ^ (w * length xs) * low = sym (of_part both.0) ∙ c.number in
    let none_left : low ≡ 0 = no-rest low number top in
    let same : xs ≡ q =
    digits-told (2 ^ w) xs q own c.held below
    (sym (number ∙ ap (λ v. digits (2 ^ w) xs + 2 ^ (w * length xs) * v) none_left ∙ plain (digits (2 ^ w) xs) _ (mul-zero (2 ^ (w * length xs))))) in
    (none_left, same, both.1, ap (λ v. code_of (v ∷ [])) c.largest ∙ sym (code-greatest xs) ∙ ap code_of same)
  where
    plain : (d e : ℕ) → e ≡ 0 → d + e ≡ d
    plain d e h = omega arith

    of_part : ps ≡ part_of w q → digits (2 ^ 8) ps ≡ digits (2 ^ w) q
    of_part p =
        ap (digits (2 ^ 8)) p
        ∙ unfold part_of in
        number_of ((w * length q + 7) / 8) (digits (2 ^ w) q) (lt_of_lt_of_le (digits-below w q below) (pow_mono (omega arith)))

    no-rest : (z : ℕ) → digits (2 ^ w) q ≡ digits (2 ^ w) xs + 2 ^ (w * length xs) * z → digits (2 ^ w) q < 2 ^ (w * length xs) → z ≡ 0
    no-rest zero f g = refl
    no-rest (suc z) f g = absurd (omega (arith, f, g, mul-suc (2 ^ (w * length xs)) z))
