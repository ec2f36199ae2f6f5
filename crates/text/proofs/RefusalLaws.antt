-- How long the line of a refusal is. Assumes nothing.
use mathlib.Core.Path.{◌≡◌}
use mathlib.Core.List.{[], ◌∷◌}
use Prim.Native.Nat.{ℕ, ◌+◌}
use native.Mathlib.Omega.{arith}
use lib.ListN.{length, length-append}
use Rattle.text.specs.Decimal.{numeral}
use Rattle.text.specs.Refusal.{refused_line}

pub refused-length : (q : ℕ) → length (refused_line q) ≡ 9 + length (numeral q)
unfolding refused_line
refused-length q = omega (arith, length-append (numeral q) (10 ∷ []))
