-- One of several things, each with a number and a type of its own: what is changed of the one with that number, and what belongs to it.
use Rattle.std.specs.Prelude.{List, [], ◌∷◌, ℕ, zero, suc}

-- v in place of number n, the others as they were
abbrev pub changed : (F : ℕ → Type 0) (n : ℕ) → F n → ((m : ℕ) → F m) → (m : ℕ) → F m
changed F zero v f zero = v
changed F zero v f (suc m) = f (suc m)
changed F (suc n) v f zero = f zero
changed F (suc n) v f (suc m) = changed (λ k. F (suc k)) n v (λ k. f (suc k)) m

-- v, which is of number m, if that is n
abbrev pub of_number : (F : ℕ → Type 0) (n m : ℕ) → F m → List (F n)
of_number F zero zero v = v ∷ []
of_number F zero (suc m) v = []
of_number F (suc n) zero v = []
of_number F (suc n) (suc m) v = of_number (λ k. F (suc k)) n m v
