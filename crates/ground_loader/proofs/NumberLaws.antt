-- Behind the loops over the numbers in some bits: the lowest bits, the largest number, the numbers stored (`Storing`). Assumes nothing.
use mathlib.Core.Path.{◌≡◌, refl, sym, ap, ◌∙◌, subst}
use mathlib.Core.List.{List, ◌∷◌}
use Prim.Native.Nat.{ℕ, suc, ◌+◌, ◌*◌, ◌-◌, ◌/◌, ◌%◌, ◌^◌, ◌≤◌, ◌<◌, max}
use native.Mathlib.Nat.{mul-suc, mul-zero, div-one, mod-lt, lt_of_lt_of_le}
use native.Mathlib.Omega.{arith}
use native.Mathlib.Decide.{dec_lt}
use lib.IntN.{ℤ, pos, negsuc, ◌-ℤ◌}
use lib.Dec.{ltb}
use lib.ListN.{length, set}
use lib.Pow.{split, shr-shr, pow_pos, pow_mono}
use borrow.Author.Tests.{lt-ltb, le-ltb, eq-eqb, ne_eqb}
use mir.Syntax.{w32}
use mir.Val.{SFits, to_z}
use mir.ValLaws.{to_z_pos}
use Rattle.numbers.proofs.Integers.{each, lin}
use Rattle.numbers.specs.Signal.{at, pick, spliced}
use Rattle.numbers.proofs.Sweep.{Swept, start, store, finish}
use Rattle.numbers.proofs.Parts.{splice-below, splice-in, splice-past}
use Rattle.ground_loader.specs.Numbers.{value_of, number_at, numbers_in, greatest}

-- ---- the lowest bits
pub above-fits : (b w : ℕ) → b < 2 ^ 64 → (b / 2 ^ w * 2 ^ w) % 2 ^ 64 ≤ b
above-fits b w h = omega (arith, split b w)

pub lowest-is : (b w : ℕ) → b < 2 ^ 64 → b - (b / 2 ^ w * 2 ^ w) % 2 ^ 64 ≡ b % 2 ^ w
lowest-is b w h = omega (arith, split b w)

-- ---- a value
pub half-read : (m : ℕ) → m < 2 ^ 28 → to_z w32 (m / 2) ≡ pos (m / 2)
half-read m h = to_z_pos w32 (m / 2) (omega arith)

turned-fits : (z : ℤ) (k : ℕ) → k < 2 ^ 27 → z ≡ pos k → SFits w32 (negsuc 0 -ℤ z)
turned-fits = each _ λ p q. simp lin (omega arith)

turned-is : (z : ℤ) (k : ℕ) → z ≡ pos k → negsuc 0 -ℤ z ≡ negsuc k
turned-is = each _ λ p q. simp lin (omega arith)

pub below-fits : (m : ℕ) → m < 2 ^ 28 → SFits w32 (negsuc 0 -ℤ pos (m / 2))
below-fits m h = turned-fits (pos (m / 2)) (m / 2) (omega arith) refl

pub value-even : (m : ℕ) → m % 2 ≡ 0 → pos (m / 2) ≡ value_of m
unfolding value_of
value-even m e = rw (eq-eqb (m % 2) 0 e) refl

pub value-odd : (m : ℕ) → (m % 2 ≡ 0 → ⊥) → negsuc 0 -ℤ pos (m / 2) ≡ value_of m
unfolding value_of
value-odd m e = rw (ne_eqb (m % 2) 0 e) (turned-is (pos (m / 2)) (m / 2) refl)

-- ---- the largest
pub greatest-start : (w k b m : ℕ) → greatest m (numbers_in w (k - 0) b) ≡ greatest m (numbers_in w k b)
greatest-start w k b m = let e : k - 0 ≡ k = omega arith in rw e refl

module _ (w k b : ℕ) (i m x : ℕ) (h : i < k) (is : x ≡ b % 2 ^ w) where
  one-more : numbers_in w (k - i) b ≡ x ∷ numbers_in w (k - (i + 1)) (b / 2 ^ w)
  unfolding numbers_in
  one-more = let e : k - i ≡ suc (k - (i + 1)) = omega arith in rw (e, is) refl

  pub greatest-next : greatest m (numbers_in w (k - i) b) ≡ greatest (max m x) (numbers_in w (k - (i + 1)) (b / 2 ^ w))
  unfolding greatest
  greatest-next = ap (greatest m) one-more ∙ ap (λ v. greatest v (numbers_in w (k - (i + 1)) (b / 2 ^ w))) larger
    where
      larger : pick (ltb m x) x m ≡ max m x
      larger = elim (dec_lt m x) [
        | yes p ↦ rw (lt-ltb m x p) (omega arith)
        | no p ↦ rw (le-ltb m x (omega arith)) (omega arith)
      ]

pub greatest-end : (w k i b m : ℕ) → k ≤ i → greatest m (numbers_in w (k - i) b) ≡ m
unfolding numbers_in greatest
greatest-end w k i b m h = let e : k - i ≡ 0 = omega arith in rw e refl

-- ---- the numbers stored
pub record Storing (bits w k from : ℕ) (before row : List ℤ) (rest i : ℕ) : Type 0 where
  pub narrow : w ≤ 28
  pub room : from + k ≤ length before
  pub short : length before < 2 ^ 61
  pub some : i ≤ k
  pub left : rest ≡ bits / 2 ^ (w * i)
  pub swept : Swept (length before) (spliced from k (λ j. value_of (number_at w bits j)) (at before)) (at before) (from + i) row

pub storing-start : (bits w k from : ℕ) (before : List ℤ) → w ≤ 28 → from + k ≤ length before → length before < 2 ^ 61
    → Storing bits w k from before before bits 0
storing-start bits w k from before n r s =
    let y = spliced from k (λ j. value_of (number_at w bits j)) (at before) in
    record {
      narrow = n;
      room = r;
      short = s;
      some = omega arith;
      left = sym (ap (λ e. bits / 2 ^ e) (mul-zero w) ∙ div-one bits);
      swept = start before y (from + 0) (λ j h. splice-below from k (λ j. value_of (number_at w bits j)) (at before) j (omega arith));
    }

pub rest-small : {bits w k from : ℕ} {before row : List ℤ} {rest i x : ℕ} → Storing bits w k from before row rest i → x ≡ rest % 2 ^ w → x < 2 ^ 28
rest-small {w = w} {rest = rest} s e = lt_of_lt_of_le (rw e (mod-lt rest (pow_pos w))) (pow_mono s.narrow)

module _ {bits w k from : ℕ} {before row : List ℤ} {rest i : ℕ} (s : Storing bits w k from before row rest i) (h : i < k) where
  pub storing-place : from + i < length row
  storing-place = omega (arith, s.room, s.swept.size)

  pub storing-next : (v : ℤ) → v ≡ value_of (rest % 2 ^ w) → Storing bits w k from before (set row (from + i) v) (rest / 2 ^ w) (i + 1)
  storing-next v e =
      let number : number_at w bits i ≡ rest % 2 ^ w = unfold number_at in sym (ap (λ b. b % 2 ^ w) s.left) in
      let shift : w * i + w ≡ w * (i + 1) = omega (arith, mul-suc w i) in
      let place : from + i - from ≡ i = omega arith in
      let here : spliced from k (λ j. value_of (number_at w bits j)) (at before) (from + i) ≡ value_of (number_at w bits i) =
      splice-in from k (λ j. value_of (number_at w bits j)) (at before) (from + i) (omega arith) (omega arith)
      ∙ ap (λ j. value_of (number_at w bits j)) place in
      let next : from + i + 1 ≡ from + (i + 1) = omega arith in
      record {
        narrow = s.narrow;
        room = s.room;
        short = s.short;
        some = omega arith;
        left = ap (λ b. b / 2 ^ w) s.left ∙ shr-shr bits (w * i) w ∙ ap (λ e. bits / 2 ^ e) shift;
        swept = subst (λ p. Swept (length before) (spliced from k (λ j. value_of (number_at w bits j)) (at before)) (at before) p (set row (from + i) v)) next
            (store v s.swept (omega (arith, s.room)) (e ∙ ap value_of (sym number) ∙ sym here));
      }

pub storing-end : {bits w k from : ℕ} {before row : List ℤ} {rest i : ℕ} → Storing bits w k from before row rest i → k ≤ i
    → (rest ≡ bits / 2 ^ (w * k)) × (at row ≡ spliced from k (λ j. value_of (number_at w bits j)) (at before))
storing-end {bits} {w} {k} {from} {before} {row} {rest} {i} s h =
    let e : i ≡ k = omega (arith, s.some) in (
      s.left ∙ ap (λ n. bits / 2 ^ (w * n)) e,
      finish s.swept (λ j g. splice-past from k (λ j. value_of (number_at w bits j)) (at before) j (omega arith)),
    )
