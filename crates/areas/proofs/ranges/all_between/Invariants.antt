-- `areas::ranges::all_between` meets its contract: the answer so far is that of the numbers passed. Assumes nothing.
use mathlib.Core.Path.{◌≡◌}
use Rattle.numbers.specs.Signal.{at}
use Rattle.numbers.specs.Tests.{every}
use Rattle.areas.specs.Areas.{between}
use Rattle.areas.proofs.ranges.all_between.Given as goal

abbrev pub invariant-loop-v : goal.invariant-loop-v
invariant-loop-v l =
    l.ok ≡ every l.v-index (λ j. between l.low l.high (at l.row j))
