-- A signal is a function of the place, ℕ → ℤ. A slice of i32 is read as the signal `at l`: its elements, and 0 past its end.
use Rattle.std.specs.Prelude.{List, Bool, true, false, ℕ, ◌+◌, ◌-◌, ℤ, pos, get_or, leb, ltb, eqb}

abbrev pub at : List ℤ → ℕ → ℤ
at l i = get_or l i (pos 0)

-- a choice by a test
abbrev pub pick {ℓ} : {A : Type ℓ} → Bool → A → A → A
pick true a b = a
pick false a b = b

-- both tests hold
abbrev pub both : Bool → Bool → Bool
both a b = pick a b false

-- the n numbers of x from place a on
unfoldable pub windowed : ℕ → ℕ → (ℕ → ℤ) → ℕ → ℤ
windowed a n x j = pick (ltb j n) (x (a + j)) (pos 0)

-- y in place of the n numbers of x from place a on
unfoldable pub spliced : ℕ → ℕ → (ℕ → ℤ) → (ℕ → ℤ) → ℕ → ℤ
spliced a n y x j = pick (leb a j) (pick (ltb j (a + n)) (y (j - a)) (x j)) (x j)

-- a number stored at place a
unfoldable pub stored : ℕ → ℤ → (ℕ → ℤ) → ℕ → ℤ
stored a v x j = pick (eqb j a) v (x j)
