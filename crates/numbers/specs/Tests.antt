-- A test of many numbers at once.
use Rattle.std.specs.Prelude.{Bool, true, ℕ, zero, suc}
use Rattle.numbers.specs.Signal.{both}

-- a test of every number below n
unfoldable pub every : ℕ → (ℕ → Bool) → Bool
every zero p = true
every (suc n) p = both (every n p) (p n)
