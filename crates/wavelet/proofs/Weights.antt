-- Lists weighed: what a list weighs is the sum of what its members weigh. So lists that have the same members in another order weigh the same, and a name is
-- counted by a weight of its own. Assumes nothing.
use mathlib.Core.Path.{◌≡◌, refl, ap}
use mathlib.Core.List.{List, [], ◌∷◌, ◌++◌}
use Prim.Native.Nat.{ℕ, zero, suc, ◌+◌, ◌<◌}
use native.Mathlib.Decide.{ℕ_discrete}
use native.Mathlib.Omega.{arith}
use Rattle.numbers.specs.Signal.{pick}
use Rattle.wavelet.specs.Order.{RowName, in_turn, same_name, times}

module _ {A : Type 0} (f : A → ℕ) where
  unfoldable pub weigh : List A → ℕ
  weigh [] = 0
  weigh (x ∷ l) = f x + weigh l

  pub weigh-append : (s t : List A) → weigh (s ++ t) ≡ weigh s + weigh t
  unfolding weigh
  weigh-append [] t = omega arith
  weigh-append (x ∷ s) t = let ih = weigh-append s t in omega arith

  pub weigh-both : (n : ℕ) (g h : ℕ → List A) → weigh (in_turn n (λ i. g i ++ h i)) ≡ weigh (in_turn n g) + weigh (in_turn n h)
  unfolding weigh in_turn
  weigh-both zero g h = refl
  weigh-both (suc n) g h = let ih = weigh-both n g h in simp weigh-append (omega arith)

  pub weigh-none : (n : ℕ) (g : ℕ → List A) → ((i : ℕ) → i < n → weigh (g i) ≡ 0) → weigh (in_turn n g) ≡ 0
  unfolding weigh in_turn
  weigh-none zero g e = refl
  weigh-none (suc n) g e = rw weigh-append (omega (arith, weigh-none n g (λ i p. e i (omega arith)), e n (omega arith)))

  pub weigh-one : (n : ℕ) (g : ℕ → List A) (i : ℕ) → i < n → ((j : ℕ) → (j ≡ i → ⊥) → weigh (g j) ≡ 0) → weigh (in_turn n g) ≡ weigh (g i)
  unfolding in_turn
  weigh-one zero g i p e = absurd (omega arith)
  weigh-one (suc n) g i p e =
      rw weigh-append
      (elim (ℕ_discrete n i) [
        | yes q ↦ omega (arith, weigh-none n g (λ j r. e j (λ z. omega arith)), ap (λ j. weigh (g j)) q)
        | no q ↦ omega (arith, weigh-one n g i (omega (arith, q)) e, e n q)
      ])

-- ---- one name
abbrev pub hit : RowName → RowName → ℕ
hit x y = pick (same_name x y) 1 0

pub times-weigh : (x : RowName) (l : List RowName) → times x l ≡ weigh (hit x) l
unfolding times weigh
times-weigh x [] = refl
times-weigh x (y ∷ l) = ap (λ n. pick (same_name x y) 1 0 + n) (times-weigh x l)
