-- `small::surely_within` meets its contract: no number passed is larger than the or so far and 1. Assumes nothing.
use Prim.Native.Nat.{ℕ, ◌+◌, ◌-◌, ◌≤◌, ◌<◌}
use lib.IntN.{nat_abs}
use lib.ListN.{length}
use Rattle.numbers.specs.Signal.{at}
use Rattle.map_levels.proofs.small.surely_within.Given as goal

abbrev pub invariant-loop-v : goal.invariant-loop-v
invariant-loop-v l = ((j : ℕ) → j < l.v-index → nat_abs (at l.row j) ≤ l.all + 1)
