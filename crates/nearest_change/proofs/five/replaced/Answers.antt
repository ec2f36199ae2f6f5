-- `replaced`: each number by itself. Assumes nothing.
use Rattle.nearest_change.proofs.FiveLaws.{five-eq}
use Rattle.nearest_change.proofs.five.replaced.Goals as goal

pub returns : goal.returns
returns c =
    five-eq c.chosen.ensures c.chosen-2.ensures c.chosen-3.ensures
    c.chosen-4.ensures
    c.chosen-5.ensures
