-- What working out a set leaves as it was: every place past its level's stretch. Assumes nothing.
use mathlib.Core.Path.{◌≡◌, refl, ap, ◌∙◌}
use Prim.Native.Nat.{ℕ, ◌*◌, ◌≤◌}
use native.Mathlib.Omega.{arith}
use lib.IntN.{ℤ}
use Rattle.level.specs.Rebuilding.{Kept}
use Rattle.level.proofs.RowsIn.{Only}

pub kept-none : (n : ℕ) (x : ℕ → ℤ) → Kept n x x
kept-none n x = record { same = λ j h. refl }

pub kept-both : (n : ℕ) (x y z : ℕ → ℤ) → Kept n x y → Kept n y z → Kept n x z
kept-both n x y z a b = record { same = λ j h. b.same j h ∙ a.same j h }

pub kept_more : (n m : ℕ) (x y : ℕ → ℤ) → n ≤ m → Kept n x y → Kept m x y
kept_more n m x y le a = record { same = λ j h. a.same j (omega arith) }

-- what is equal to something that kept it
pub kept-is : (n : ℕ) (x y z : ℕ → ℤ) → Kept n x y → z ≡ y → Kept n x z
kept-is n x y z a e = record { same = λ j h. ap (λ (f : ℕ → ℤ). f j) e ∙ a.same j h }

-- a row changed in its level's stretch
pub only_kept : {m w t : ℕ} {x y : ℕ → ℤ} → Only m w t x y → Kept (m * w) x y
only_kept o = record { same = o.past }
