-- A reader without levels, and one with levels (specs' Reading): what each call's own contract says is what is said of both. Assumes nothing.
use mathlib.Core.Path.{◌≡◌, refl, ◌∙◌}
use Prim.Native.Nat.{ℕ, zero, suc}
use native.Mathlib.Omega.{arith}
use Rattle.reader.specs.Reading.{by}

-- f and g by their numbers p and q
pub by-none : {A : Type 0} (L : ℕ) (f g : ℕ → A) (p q : ℕ) {r : A} → L ≡ 0 → r ≡ f p → r ≡ by L (f (by L p q)) (g (by L p q))
by-none zero f g p q e z = z
by-none (suc l) f g p q e z = absurd (omega arith)

pub by-some : {A : Type 0} (L : ℕ) (f g : ℕ → A) (p q : ℕ) {r : A} → (L ≡ 0 → ⊥) → r ≡ g q → r ≡ by L (f (by L p q)) (g (by L p q))
by-some zero f g p q h z = absurd (h refl)
by-some (suc l) f g p q h z = z
