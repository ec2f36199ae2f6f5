-- One less, and 0 of 0. Assumes nothing.
use mathlib.Core.Path.{◌≡◌}
use Prim.Native.Nat.{ℕ, zero, suc, ◌-◌}
use native.Mathlib.Omega.{arith}
use Rattle.level.specs.Level.{prev}

pub prev-is : (n : ℕ) → prev n ≡ n - 1
prev-is zero = omega arith
prev-is (suc n) = omega arith
