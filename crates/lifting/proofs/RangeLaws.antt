-- The test of a range: two comparisons, joined without a branch. Assumes nothing.
use mathlib.Core.Path.{◌≡◌, refl, ◌∙◌}
use mathlib.Core.Bool.{Bool, true, false, ◌&&◌}
use lib.IntN.{ℤ}
use lib.Signed.{le_z}
use Rattle.numbers.specs.Signal.{both}
use Rattle.lifting.specs.Ranges.{within}

both_is : (a b : Bool) → a && b ≡ both a b
both_is true b = refl
both_is false b = refl

pub within-is : (lo hi v : ℤ) → le_z lo v && le_z v hi ≡ within lo hi v
unfolding within
within-is lo hi v = both_is (le_z lo v) (le_z v hi)

pub within_same : (a b v c d u : ℤ) → a ≡ c → b ≡ d → v ≡ u → within a b v ≡ within c d u
within_same a b v c d u ea eb ev = cc

pub pair_is : (a b p q : Bool) → a ≡ p → b ≡ q → a && b ≡ both p q
pair_is a b p q e f = both_is a b ∙ cc (e, f)
