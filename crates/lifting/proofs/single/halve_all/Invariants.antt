-- `lifting::single::halve_all` meets its contract: a sweep over the row, and the answer so far is that of the numbers passed. Assumes nothing.
use mathlib.Core.Path.{◌≡◌}
use lib.Signed.{shr_z}
use Rattle.numbers.specs.Signal.{at}
use Rattle.numbers.specs.Tests.{every}
use Rattle.lifting.specs.Grid.{is_even}
use Rattle.lifting.proofs.EachLaws.{Each}
use Rattle.lifting.proofs.single.halve_all.Given as goal

abbrev pub invariant-loop-v : goal.invariant-loop-v
invariant-loop-v l = (l.ok ≡ every l.v-index (λ j. is_even (at l.initial.row j))) × Each (λ v. shr_z v 2) l.initial.row l.v-index l.row
