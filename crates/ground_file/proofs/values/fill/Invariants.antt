-- `values::fill` meets its contract: number by number from the front. Assumes nothing.
use Prim.Native.Nat.{◌+◌, ◌-◌, ◌≤◌}
use lib.ListN.{length}
use Rattle.numbers.specs.Signal.{at}
use Rattle.ground_file.specs.Values.{kept}
use Rattle.ground_file.proofs.ValueLaws.{Filling}
use Rattle.ground_file.proofs.values.fill.Given as goal

abbrev pub invariant-loop-i : goal.invariant-loop-i
invariant-loop-i l = Filling l.initial.numbers l.numbers (λ j. kept l.step (at l.row (l.from + j))) l.i
