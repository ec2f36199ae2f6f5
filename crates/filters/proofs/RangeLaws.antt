-- The ranges of the 9/7's levels. Assumes nothing.
use mathlib.Core.Path.{◌≡◌}
use Prim.Native.Nat.{ℕ, suc, ◌*◌, ◌^◌, ◌≤◌, ◌<◌}
use native.Mathlib.Nat.{pow-suc, pow-le-pow_right, mul-le-mul_left}
use native.Mathlib.Omega.{arith}
use Rattle.wavelet.specs.Limits.{max_sample, range}
use Rattle.nine_seven.specs.NineSevenFilter.{nine_seven_filter}
use Rattle.filters.specs.Range.{max_levels}

pub range-suc : (k : ℕ) → range nine_seven_filter (suc k) ≡ 6 * range nine_seven_filter k
unfolding range
range-suc k = rw pow-suc (omega arith)

range_last : range nine_seven_filter max_levels < 2 ^ 31
unfolding range max_sample max_levels
range_last = omega arith

range-le : (j k : ℕ) → j ≤ k → range nine_seven_filter j ≤ range nine_seven_filter k
unfolding range
range-le j k h = mul-le-mul_left max_sample (pow-le-pow_right {n = 6} (omega arith) h)

pub range_small : (k : ℕ) → k ≤ max_levels → range nine_seven_filter k < 2 ^ 31
range_small k h = omega (arith, range-le k max_levels h, range_last)

pub levels-small : max_levels < 2 ^ 32
unfolding max_levels
levels-small = omega arith
