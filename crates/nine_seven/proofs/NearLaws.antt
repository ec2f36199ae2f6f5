-- The low numbers that a high number goes by are there. Assumes nothing.
use mathlib.Core.Path.{◌≡◌, subst}
use Prim.Native.Nat.{ℕ, ◌+◌, ◌%◌, ◌<◌, ◌≤◌}
use native.Mathlib.Omega.{arith}
use Rattle.nine_seven.specs.Passes.{far_left, far_right}
use Rattle.nine_seven.proofs.HighLaws.{fars-low}
use Rattle.nine_seven.specs.Near.{Beside, Around, AroundAny}

pub around-is : (low high o n l r b a : ℕ) → n < high → Beside low o n l r → b ≡ far_left low o n → a ≡ far_right low high o n
    → AroundAny low high o n l r b a
around-is low high o n l r b a h by e f =
    record { there = λ _. record { left = by.left; right = by.right; before = e; after = f }; past = λ g. absurd (omega arith) }

-- o is itself modulo 2, being at most 1
pub beside-few : {m n l r : ℕ} (o : ℕ) → Beside m (o % 2) n l r → o ≤ 1 → Beside m o n l r
beside-few {m} {n} {l} {r} o by few = let same : o % 2 ≡ o = omega arith in subst (λ k. Beside m k n l r) same by

pub around-few : {low high n l r b a : ℕ} (o : ℕ) → AroundAny low high (o % 2) n l r b a → o ≤ 1 → n < high → Around low high o n l r b a
around-few {low} {high} {n} {l} {r} {b} {a} o by few h =
    let same : o % 2 ≡ o = omega arith in subst (λ k. Around low high k n l r b a) same (by.there h)

pub two-there : (m o n l r : ℕ) → Beside m o n l r → 0 < m → (l < m) × (r < m)
two-there m o n l r is some = (omega arith, omega arith)

module _ (low high o n l r b a : ℕ) (is : Around low high o n l r b a) (some : 0 < low) (near : n + o ≤ low) (there : n < high) where
  pub four-there : (l < low) × (r < low) × (b < low) × (a < low)
  four-there = let f = fars-low low high o n some near there in (omega arith, omega arith, omega arith, omega arith)
