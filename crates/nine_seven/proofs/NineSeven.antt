-- The integer 9/7 as a lifting of two steps: a high number goes by four low ones, a low number by two high ones. What holds of such a lifting in general
-- (TwoSteps of `lifting`) holds of it. Assumes nothing.
use Prim.Native.Nat.{ℕ, ◌+◌, ◌<◌}
use mathlib.Core.Path.{◌≡◌, sym, ap, ◌∙◌}
use native.Mathlib.Omega.{arith}
use lib.IntN.{ℤ, pos, ◌+ℤ◌, ◌-ℤ◌}
use lib.Signed.{shr_z}
use Rattle.numbers.proofs.Integers.{each, lin}
use Rattle.lifting.specs.Line.{Half, lo, hi}
use Rattle.lifting.specs.Grid.{Side, side, place, count}
use Rattle.lifting.proofs.GridLaws.{ahead}
use Rattle.lifting.proofs.TwoSteps.{Step, Lifting}
use Rattle.lifting.proofs.Neighbours.{left, right, left-in, right-in, left-inner, right-inner, by_two}
use Rattle.nine_seven.specs.NineSeven.{high_part, low_part, predicted, updated, unpredicted, unupdated, line_forward, line_halves_back}
use Rattle.nine_seven.proofs.MirrorLaws.{far_before, far_after, far-before-in, far-after-in, far-before-inner, far-after-inner}
use Rattle.nine_seven.proofs.NineSevenLaws.{high-near, low_near, even-near, odd-near, low-one, high_one, even-one, odd-one}

-- what is put to a low number: −⌊(2 − a − b) / 4⌋ is ⌊(a + b + 1) / 4⌋
abbrev pub quarter_sum : ℤ → ℤ → ℤ
quarter_sum a b = shr_z (a +ℤ b +ℤ pos 1) 4

pub turned : (x a b : ℤ) → x -ℤ low_part a b ≡ x +ℤ quarter_sum a b
unfolding low_part
turned = each _ λ p q. each _ λ r s. each _ λ t u. simp lin (omega arith)

pub turned-back : (x a b : ℤ) → x +ℤ low_part a b ≡ x -ℤ quarter_sum a b
unfolding low_part
turned-back = each _ λ p q. each _ λ r s. each _ λ t u. simp lin (omega arith)

-- ---- a step by the four low numbers around a high one, by any rule
pub ap₄ : {A B : Type 0} (f : A → A → A → A → B) {a a' b b' c c' e e' : A} → a ≡ a' → b ≡ b' → c ≡ c' → e ≡ e' → f a b c e ≡ f a' b' c' e'
ap₄ f p q r s = λ i. f (p i) (q i) (r i) (s i)

abbrev pub by-four : (ℤ → ℤ → ℤ → ℤ → ℤ) → Step lo
by-four f = record {
  says = λ S n a. f (a (left lo S n)) (a (right lo S n)) (a (far_before S n)) (a (far_after S n));
  reach = 3;
  ahead = omega arith;
  reads = λ S n a b g m e.
      let l = left-in lo S n g m in
      let r = right-in lo S n g m in
      let u = far-before-in S n g m in
      let v = far-after-in S n g m in
      ap₄ f (e (left lo S n) l.0 (omega arith)) (e (right lo S n) r.0 (omega arith)) (e (far_before S n) u.0 u.1) (e (far_after S n) v.0 v.1);
  inner = λ s N N' n a l m.
      ap₄ (λ (i j u v : ℕ). f (a i) (a j) (a u) (a v))
      (left-inner lo (side s N) n (omega arith) ∙ sym (left-inner lo (side s N') n (omega arith)))
      (right-inner lo (side s N) n (omega arith) ∙ sym (right-inner lo (side s N') n (omega arith)))
      (far-before-inner (side s N) n l ∙ sym (far-before-inner (side s N') n m))
      (far-after-inner (side s N) n l ∙ sym (far-after-inner (side s N') n m));
}

-- ---- the 9/7
module _ (keep : ℤ → ℤ) (S : Side) (g : 1 < S.length) where
  pub high-by : (x : ℕ → ℤ) (n : ℕ) → n < count hi S → line_forward keep S x hi n ≡ keep (x (place S hi n) -ℤ
      high_part (x (place S lo (left lo S n))) (x (place S lo (right lo S n))) (x (place S lo (far_before S n))) (x (place S lo (far_after S n))))
  unfolding predicted
  high-by = high-near S g keep

  pub low-by : (x : ℕ → ℤ) (n : ℕ) → n < count lo S → line_forward keep S x lo n ≡ keep (x (place S lo n) +ℤ
      quarter_sum (line_forward keep S x hi (left hi S n)) (line_forward keep S x hi (right hi S n)))
  unfolding updated
  low-by x n b = low_near S g keep x n b ∙ ap keep (turned (x (place S lo n)) (line_forward keep S x hi (left hi S n)) (line_forward keep S x hi (right hi S n)))

  pub even-by : (c : Half → ℕ → ℤ) (n : ℕ) → n < count lo S
      → line_halves_back keep S c lo n ≡ keep (c lo n -ℤ quarter_sum (c hi (left hi S n)) (c hi (right hi S n)))
  unfolding unupdated
  even-by c n b = even-near S g keep c n b ∙ ap keep (turned-back (c lo n) (c hi (left hi S n)) (c hi (right hi S n)))

  pub odd-by : (c : Half → ℕ → ℤ) (n : ℕ) → n < count hi S → line_halves_back keep S c hi n ≡ keep (c hi n +ℤ
      high_part (line_halves_back keep S c lo (left lo S n)) (line_halves_back keep S c lo (right lo S n)) (line_halves_back keep S c lo (far_before S n))
      (line_halves_back keep S c lo (far_after S n)))
  unfolding unpredicted
  odd-by = odd-near S g keep

abbrev pub nine-seven : Lifting
nine-seven = record {
  predict = by-four high_part;
  update = by_two hi quarter_sum;
  forward = line_forward;
  halves = line_halves_back;
  high = λ keep S x n g b. high-by keep S g x n b;
  low = λ keep S x n g b. low-by keep S g x n b;
  even = λ keep S c n g b. even-by keep S g c n b;
  odd = λ keep S c n g b. odd-by keep S g c n b;
  low-one = λ keep S x n g. low-one S g keep x n;
  high_one = λ keep S x n g. high_one S g keep x n;
  even-one = λ keep S c n g. even-one S g keep c n;
  odd-one = λ keep S c n g. odd-one S g keep c n;
}
