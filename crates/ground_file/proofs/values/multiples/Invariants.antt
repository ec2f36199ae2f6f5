-- `values::multiples` meets its contract: the answer so far is that of the values passed. Assumes nothing.
use mathlib.Core.Path.{◌≡◌}
use Prim.Native.Nat.{◌≤◌}
use lib.ListN.{length}
use Rattle.numbers.specs.Signal.{at}
use Rattle.numbers.specs.Tests.{every}
use Rattle.ground_file.specs.Values.{is_multiple}
use Rattle.ground_file.proofs.values.multiples.Given as goal

abbrev pub invariant-loop-v : goal.invariant-loop-v
invariant-loop-v l = (l.v-index ≤ length l.row) × (l.ok ≡ every l.v-index (λ j. is_multiple l.step (at l.row j)))
