-- What working out sets comes to: a memory, or a value that does not fit (number 14).
use Rattle.std.specs.Prelude.{Bool, true, false, ℕ, ℤ}
use Rattle.numbers.specs.Signal.{pick}

pub data Tried : Type 0 where
  failed : Tried
  passed : (ℕ → ℤ) → Tried

-- a test, and the memory if it says yes
abbrev pub outcome : Bool → (ℕ → ℤ) → Tried
outcome ok x = pick ok (passed x) failed

-- one thing after another, as long as all fits
unfoldable pub bind : Tried → ((ℕ → ℤ) → Tried) → Tried
bind failed f = failed
bind (passed x) f = f x

-- a part worked out, put back into the whole
unfoldable pub onto : ((ℕ → ℤ) → ℕ → ℤ) → Tried → Tried
onto f failed = failed
onto f (passed x) = passed (f x)

unfoldable pub fits : Tried → Bool
fits failed = false
fits (passed x) = true

-- the memory, z where something did not fit
unfoldable pub memory : (ℕ → ℤ) → Tried → ℕ → ℤ
memory z failed = z
memory z (passed x) = x
