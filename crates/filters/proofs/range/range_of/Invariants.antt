-- `filters::range::range_of` meets its contract. The loop's invariant: `most` is the range of level k. Assumes nothing.
use mathlib.Core.Path.{◌≡◌}
use Prim.Native.Nat.{◌≤◌}
use lib.IntN.{pos}
use Rattle.wavelet.specs.Limits.{range}
use Rattle.filters.specs.Range.{max_levels}
use Rattle.nine_seven.specs.NineSevenFilter.{nine_seven_filter}
use Rattle.filters.proofs.range.range_of.Given as goal

abbrev pub invariant-loop : goal.invariant-loop
invariant-loop l = (l.end ≤ max_levels) × (l.most ≡ pos (range nine_seven_filter l.counter))
