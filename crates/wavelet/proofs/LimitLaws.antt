-- What arithmetic needs of the limits. No other law or proof knows their numbers. Assumes nothing.
use Prim.Native.Nat.{ℕ, ◌*◌, ◌^◌, ◌≤◌, ◌<◌}
use native.Mathlib.Nat.{pow-le-pow_right}
use native.Mathlib.Omega.{arith}
use Rattle.lifting.specs.Filter.{Filter}
use Rattle.lifting.specs.FiveThree.{five_three_filter}
use Rattle.lifting.proofs.FilterLaws.{FilterLaws}
use Rattle.wavelet.specs.Limits.{max_width, max_height, max_levels, max_sample, max_origin, range}

pub width_small : max_width < 2 ^ 16
unfolding max_width
width_small = omega arith

pub height-small : max_height < 2 ^ 32
unfolding max_height
height-small = omega arith

pub levels-small : max_levels < 2 ^ 16
unfolding max_levels
levels-small = omega arith

unit-last : 2 ^ max_levels < 2 ^ 16
unfolding max_levels
unit-last = omega arith

pub unit-small : (k : ℕ) → k ≤ max_levels → 2 ^ k < 2 ^ 16
unit-small k h = omega (arith, pow-le-pow_right {n = 2} (omega arith) h, unit-last)

-- the stride of the last level of a map's rows
pub stride-small : max_width * 2 ^ max_levels < 2 ^ 32
unfolding max_width max_levels
stride-small = omega arith

-- a height as a 16-bit number
pub sample-small : max_sample < 2 ^ 16
unfolding max_sample
sample-small = omega arith

-- a coordinate of a map's first column or row as a 16-bit number
pub origin-small : max_origin < 2 ^ 16
unfolding max_origin
origin-small = omega arith

-- the range of the last level that a filter has, as a 32-bit number
pub range_last : (F : Filter) → FilterLaws F → range F F.levels < 2 ^ 31
unfolding range max_sample
range_last F laws = omega (arith, laws.words-enough)

-- the 5/3 has as many levels as any filter
pub five-three-few : {L : ℕ} → L ≤ max_levels → L ≤ five_three_filter.levels
unfolding max_levels
five-three-few h = h
