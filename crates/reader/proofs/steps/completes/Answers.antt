-- `reader::steps::completes` meets its contract: the test of the first band after it. Assumes nothing.
use mathlib.Core.Path.{ap}
use native.Mathlib.Omega.{arith}
use lib.Dec.{leb}
use Rattle.reader_steps.specs.Places.{last_of_set}
use Rattle.reader.proofs.QuestionLaws.{counts-small}
use Rattle.reader.proofs.StepLaws.{spot_in}
use Rattle.reader.proofs.steps.completes.Goals as goal

pub overflow_sub-n : goal.overflow_sub-n
overflow_sub-n c = omega arith

pub overflow_add-n : goal.overflow_add-n
overflow_add-n c =
    omega (arith, (spot_in _ _ c.requires.1.spot c.requires.2).1)

pub band_at-c-requires : goal.band_at-c-requires
band_at-c-requires c =
    let counts = c.requires.0 in
    let near = spot_in _ _ c.requires.1.spot c.requires.2 in
    (counts-small c.args.s counts, c.requires.1.at c.requires.2, omega (arith, near.0, counts.at, counts.few))

pub returns : goal.returns
unfolding last_of_set
returns c = ap (leb _) c.band_at-c.ensures
