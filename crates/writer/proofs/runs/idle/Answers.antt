-- `runs::idle` meets its contract: the definition's cases. Assumes nothing.
use mathlib.Core.Path.{◌≡◌, refl}
use Prim.Native.Nat.{ℕ, zero, suc, ◌<◌}
use native.Mathlib.Omega.{arith}
use Rattle.writer.specs.Runs.{idle}
use Rattle.writer.proofs.runs.idle.Goals as goal

waits : (v k : ℕ) → 0 < v → 12 ≡ idle v k
unfolding idle
waits zero k h = absurd (omega arith)
waits (suc v) k h = refl

heights : (v k : ℕ) → v ≡ 0 → 0 < k → 10 ≡ idle v k
unfolding idle
heights zero zero e h = absurd (omega arith)
heights zero (suc k) e h = refl
heights (suc v) k e h = absurd (omega arith)

neither : (v k : ℕ) → v ≡ 0 → k ≡ 0 → 0 ≡ idle v k
unfolding idle
neither zero zero e h = refl
neither zero (suc k) e h = absurd (omega arith)
neither (suc v) k e h = absurd (omega arith)

pub returns-then-level-gt0 : goal.returns-then-level-gt0
returns-then-level-gt0 c = waits _ _ (omega arith)

pub returns-then-k-gt0 : goal.returns-then-k-gt0
returns-then-k-gt0 c = heights _ _ (omega arith) (omega arith)

pub returns : goal.returns
returns c = neither _ _ (omega arith) (omega arith)
