-- `small::surely_heights` meets its contract: the bits of no number passed are more than the or so far. Assumes nothing.
use Prim.Native.Nat.{◌-◌, ◌≤◌}
use lib.ListN.{length}
use mir.Syntax.{w32}
use mir.Val.{of_z}
use Rattle.numbers.specs.Signal.{at}
use Rattle.map_levels.proofs.SmallLaws.{BitsWithin}
use Rattle.map_levels.proofs.small.surely_heights.Given as goal

abbrev pub invariant-loop-v : goal.invariant-loop-v
invariant-loop-v l = BitsWithin l.v-index (of_z w32 l.all) (at l.row)
