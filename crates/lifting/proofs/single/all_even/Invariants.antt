-- `lifting::single::all_even` meets its contract: the answer so far is that of the numbers passed. Assumes nothing.
use mathlib.Core.Path.{◌≡◌}
use Prim.Native.Nat.{◌≤◌}
use lib.ListN.{length}
use Rattle.numbers.specs.Signal.{at}
use Rattle.numbers.specs.Tests.{every}
use Rattle.lifting.specs.Grid.{is_even}
use Rattle.lifting.proofs.single.all_even.Given as goal

abbrev pub invariant-loop-x : goal.invariant-loop-x
invariant-loop-x l = (l.x-index ≤ length l.row) × (l.ok ≡ every l.x-index (λ j. is_even (at l.row j)))
