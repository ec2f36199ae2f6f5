-- `lifted`: the number by its definition. Assumes nothing.
use borrow.Author.Rules.{rules}
use Rattle.nearest_change.specs.Trials.{lifted_of}
use Rattle.nearest_change.proofs.five.lifted.Goals as goal

pub returns : goal.returns
unfolding lifted_of
returns c = search rules
