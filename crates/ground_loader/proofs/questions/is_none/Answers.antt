-- `questions::is_none` meets its contract: the definition's tests. Assumes nothing.
use Rattle.ground_loader.proofs.AskLaws.{none_is}
use Rattle.ground_loader.proofs.questions.is_none.Goals as goal

pub returns : goal.returns
returns c = none_is _
