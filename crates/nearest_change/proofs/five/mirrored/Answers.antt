-- `mirrored`: by the three cases of the place. Assumes nothing.
use borrow.Author.Rules.{rules}
use Rattle.nearest_change.specs.Trials.{mirrored}
use Rattle.nearest_change.proofs.five.mirrored.Goals as goal

pub returns-then-p-n : goal.returns-then-p-n
unfolding mirrored
returns-then-p-n c = search rules

pub returns-then-p-back : goal.returns-then-p-back
unfolding mirrored
returns-then-p-back c = search rules

pub returns-else-p-back : goal.returns-else-p-back
unfolding mirrored
returns-else-p-back c = search rules
