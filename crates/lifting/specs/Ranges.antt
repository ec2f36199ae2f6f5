-- A number within bounds.
use Rattle.std.specs.Prelude.{Bool, ℤ}
use Rattle.std.specs.Int.Signed.{le_z}
use Rattle.numbers.specs.Signal.{both}

unfoldable pub within : ℤ → ℤ → ℤ → Bool
within least most v = both (le_z least v) (le_z v most)
