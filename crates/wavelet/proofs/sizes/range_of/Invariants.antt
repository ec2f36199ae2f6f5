-- `sizes::range_of` meets its contract. The loop's invariant: `most` is the range of level k. Assumes nothing.
use mathlib.Core.Path.{◌≡◌}
use Prim.Native.Nat.{◌≤◌}
use lib.IntN.{pos}
use Rattle.lifting.specs.FiveThree.{five_three_filter}
use Rattle.wavelet.specs.Limits.{max_levels, range}
use Rattle.wavelet.proofs.sizes.range_of.Given as goal

abbrev pub invariant-loop : goal.invariant-loop
invariant-loop l = (l.end ≤ max_levels) × (l.most ≡ pos (range five_three_filter l.counter))
