-- The 5/3 as a lifting of two steps, each by the two neighbours in the other half: what holds of such a lifting in general (TwoSteps) holds of it.
-- Assumes nothing.
use Prim.Native.Nat.{ℕ, ◌<◌}
use mathlib.Core.Path.{◌≡◌}
use mathlib.Core.Bool.{true}
use lib.IntN.{ℤ, pos, ◌+ℤ◌, ◌-ℤ◌, ◌*ℤ◌}
use lib.Signed.{shr_z}
use Rattle.lifting.specs.Line.{predicted, updated, unpredicted, unupdated, Half, lo, hi}
use Rattle.lifting.specs.Grid.{Side, place, count, line_forward, line_halves_back, line_back, single_high, has_line}
use Rattle.lifting.proofs.GridLaws.{high-near, low_near, even-near, odd-near, low-one, high_one, even-one, odd-one}
use Rattle.lifting.proofs.Neighbours.{left, right, by_two}
use Rattle.lifting.proofs.TwoSteps.{Lifting}
use Rattle.lifting.proofs.TwoSteps as two
pub use Rattle.lifting.proofs.Keeping.{Keeping, words, wholes}

-- ⌊(a + b) / 2⌋ is taken of a high number, ⌊(a + b + 2) / 4⌋ put to a low one
abbrev pub half_sum : ℤ → ℤ → ℤ
half_sum a b = shr_z (a +ℤ b) 2

abbrev pub quarter_sum : ℤ → ℤ → ℤ
quarter_sum a b = shr_z (a +ℤ b +ℤ pos 2) 4

module _ (keep : ℤ → ℤ) (S : Side) (g : 1 < S.length) where
  pub high-by : (x : ℕ → ℤ) (n : ℕ) → n < count hi S
      → line_forward keep S x hi n ≡ keep (x (place S hi n) -ℤ half_sum (x (place S lo (left lo S n))) (x (place S lo (right lo S n))))
  unfolding predicted
  high-by = high-near S g keep

  pub low-by : (x : ℕ → ℤ) (n : ℕ) → n < count lo S → line_forward keep S x lo n ≡ keep (x (place S lo n) +ℤ
      quarter_sum (line_forward keep S x hi (left hi S n)) (line_forward keep S x hi (right hi S n)))
  unfolding updated
  low-by = low_near S g keep

  pub even-by : (c : Half → ℕ → ℤ) (n : ℕ) → n < count lo S
      → line_halves_back keep S c lo n ≡ keep (c lo n -ℤ quarter_sum (c hi (left hi S n)) (c hi (right hi S n)))
  unfolding unupdated
  even-by = even-near S g keep

  pub odd-by : (c : Half → ℕ → ℤ) (n : ℕ) → n < count hi S → line_halves_back keep S c hi n ≡ keep (c hi n +ℤ
      half_sum (line_halves_back keep S c lo (left lo S n)) (line_halves_back keep S c lo (right lo S n)))
  unfolding unpredicted
  odd-by = odd-near S g keep

abbrev pub five-three : Lifting
five-three = record {
  predict = by_two lo half_sum;
  update = by_two hi quarter_sum;
  forward = line_forward;
  halves = line_halves_back;
  high = λ keep S x n g b. high-by keep S g x n b;
  low = λ keep S x n g b. low-by keep S g x n b;
  even = λ keep S c n g b. even-by keep S g c n b;
  odd = λ keep S c n g b. odd-by keep S g c n b;
  low-one = λ keep S x n g. low-one S g keep x n;
  high_one = λ keep S x n g. high_one S g keep x n;
  even-one = λ keep S c n g. even-one S g keep c n;
  odd-one = λ keep S c n g. odd-one S g keep c n;
}

module _ {keep : ℤ → ℤ} (K : Keeping keep) (S : Side) where
  open K use {Good}

  -- what is stored is good
  pub forward-good : (x : ℕ → ℤ) → ((i : ℕ) → i < S.length → Good (x i)) → (h : Half) (n : ℕ) → n < count h S → Good (line_forward keep S x h n)
  forward-good = two.forward-good five-three K S

  pub back-good : (c : Half → ℕ → ℤ) → ((h : Half) (n : ℕ) → n < count h S → Good (c h n)) → (i : ℕ) → i < S.length → Good (line_back keep S c i)
  unfolding line_back
  back-good = two.back-good five-three K S

  -- and the two ways are inverse. A single sample at an odd coordinate comes back if its double is good,
  pub line-back-forward : (x : ℕ → ℤ) → ((i : ℕ) → i < S.length → Good (x i)) → (single_high S ≡ true → Good (pos 2 *ℤ x 0)) → (i : ℕ) → i < S.length
      → line_back keep S (line_forward keep S x) i ≡ x i
  unfolding line_back
  line-back-forward = two.back-forward five-three K S

  -- and values go there again if they are a line's
  pub line-forward-back : (c : Half → ℕ → ℤ) → ((h : Half) (n : ℕ) → n < count h S → Good (c h n)) → has_line S c ≡ true → (h : Half) (n : ℕ) → n < count h S
      → line_forward keep S (line_back keep S c) h n ≡ c h n
  unfolding line_back
  line-forward-back = two.forward-back five-three K S
