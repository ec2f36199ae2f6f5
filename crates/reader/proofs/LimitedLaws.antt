-- A value limited to 0 to 65,535. Assumes nothing.
use mathlib.Core.Path.{◌≡◌, refl, ap}
use mathlib.Core.Bool.{true, false}
use Prim.Native.Nat.{ℕ, zero, suc, ◌+◌, ◌≤◌, ◌<◌, min}
use native.Mathlib.Omega.{arith}
use lib.Dec.{T}
use lib.IntN.{ℤ, pos, negsuc, nat_abs}
use lib.Signed.{non_neg, lt_z}
use borrow.Author.Tests.{ltb-true, ltb-false}
use Rattle.numbers.proofs.Integers.{each, lin, dif-nat_abs}
use Rattle.wavelet.specs.Limits.{max_sample}
use Rattle.lifting.specs.Halves.{fronted}
use Rattle.areas.specs.Areas.{height16}
use Rattle.reader.specs.Limited.{limited, shown}

below : (z : ℤ) → lt_z z (pos 0) ≡ true → T (non_neg z) → ⊥
below = each _ λ p q. simp lin (λ e. let h : p + 0 < 0 + q = ltb-true (p + 0) (0 + q) e in λ n. omega arith)

pub kept : (z : ℤ) → lt_z z (pos 0) ≡ false → T (non_neg z)
kept = each _ λ p q. simp lin (λ e. let h : 0 + q ≤ p + 0 = ltb-false (p + 0) (0 + q) e in omega arith)

above : (z : ℤ) → lt_z (pos 65535) z ≡ true → T (non_neg z)
above = each _ λ p q. simp lin (λ e. let h : 65535 + q < p + 0 = ltb-true (65535 + q) (p + 0) e in omega arith)

large : (n : ℕ) → lt_z (pos 65535) (pos n) ≡ true → 65535 < n
large n e = ltb-true 65535 n e

pub small : (z : ℤ) → T (non_neg z) → lt_z (pos 65535) z ≡ false → nat_abs z ≤ 65535
small (pos n) h e = ltb-false 65535 n e
small (negsuc n) h e = absurd h

-- ---- below, above, and between
pub limited-low : (v : ℤ) → lt_z v (pos 0) ≡ true → pos 0 ≡ limited v
unfolding limited
limited-low (pos n) e = absurd (below (pos n) e tt)
limited-low (negsuc n) e = refl

pub limited-high : (v : ℤ) → lt_z (pos 65535) v ≡ true → pos 65535 ≡ limited v
unfolding limited max_sample
limited-high (pos n) e = let h = large n e in ap pos (omega arith)
limited-high (negsuc n) e = absurd (above (negsuc n) e)

pub limited-same : (v : ℤ) → T (non_neg v) → nat_abs v ≤ 65535 → pos (nat_abs v) ≡ limited v
unfolding limited max_sample
limited-same (pos n) h le = ap pos (omega arith)
limited-same (negsuc n) h le = absurd h

-- ---- a row drawn, by the stop
pub shown-none : (b : ℕ) → b ≡ 0 → (n : ℕ) (g z u : ℕ → ℤ) → u ≡ fronted n (λ c. height16 (g c)) z → u ≡ fronted n (λ c. shown b (g c)) z
shown-none zero e n g z u made = made
shown-none (suc b) e n g z u made = absurd (omega arith)

pub shown-some : (b : ℕ) → (b ≡ 0 → ⊥) → (n : ℕ) (g z u : ℕ → ℤ) → u ≡ fronted n (λ c. limited (g c)) z → u ≡ fronted n (λ c. shown b (g c)) z
shown-some zero h n g z u made = absurd (h refl)
shown-some (suc b) h n g z u made = made
