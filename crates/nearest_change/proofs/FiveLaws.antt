-- Choices, and five numbers one by one. Assumes nothing.
use mathlib.Core.Path.{◌≡◌}
use mathlib.Core.Bool.{Bool, true, false}
use Prim.Native.Nat.{ℕ, ◌≤◌}
use native.Mathlib.Omega.{arith}
use borrow.Author.Tests.{eq-eqb, ne_eqb}
use Rattle.numbers.specs.Signal.{pick}
use Rattle.nearest_change.specs.Trials.{number_of}
use Rattle.nearest_change.specs.declared.five.Five.{Five}

module _ {A : Type 0} where
  pub pick_yes : (b : Bool) (x y : A) → b ≡ true → pick b x y ≡ x
  pick_yes b x y e = simp e

  pub pick_no : (b : Bool) (x y : A) → b ≡ false → pick b x y ≡ y
  pick_no b x y e = simp e

pub five-eq : {a a' b b' c c' d d' e e' : ℕ} → a ≡ a' → b ≡ b' → c ≡ c' → d ≡ d' → e ≡ e'
    → ◌≡◌ {A = Five} (record { a = a; b = b; c = c; d = d; e = e }) (record { a = a'; b = b'; c = c'; d = d'; e = e' })
five-eq p q r s t = λ i. record { a = p i; b = q i; c = r i; d = s i; e = t i }

module _ (f : Five) (i : ℕ) where
  pub number-0 : i ≡ 0 → f.a ≡ number_of f i
  unfolding number_of
  number-0 e = simp (eq-eqb i 0 e)

  pub number-1 : i ≡ 1 → f.b ≡ number_of f i
  unfolding number_of
  number-1 e = simp (ne_eqb i 0 (λ z. omega arith), eq-eqb i 1 e)

  pub number-2 : i ≡ 2 → f.c ≡ number_of f i
  unfolding number_of
  number-2 e = simp (ne_eqb i 0 (λ z. omega arith), ne_eqb i 1 (λ z. omega arith), eq-eqb i 2 e)

  pub number-3 : i ≡ 3 → f.d ≡ number_of f i
  unfolding number_of
  number-3 e = simp (ne_eqb i 0 (λ z. omega arith), ne_eqb i 1 (λ z. omega arith), ne_eqb i 2 (λ z. omega arith), eq-eqb i 3 e)

  pub number-rest : (i ≡ 0 → ⊥) → (i ≡ 1 → ⊥) → (i ≡ 2 → ⊥) → (i ≡ 3 → ⊥) → f.e ≡ number_of f i
  unfolding number_of
  number-rest n0 n1 n2 n3 = simp (ne_eqb i 0 n0, ne_eqb i 1 n1, ne_eqb i 2 n2, ne_eqb i 3 n3)

  pub number-last : 4 ≤ i → f.e ≡ number_of f i
  number-last h = number-rest (λ z. omega arith) (λ z. omega arith) (λ z. omega arith) (λ z. omega arith)
