-- `steps::is_over` meets its contract: two tests together. Assumes nothing.
use Rattle.ground_loader.proofs.AskLaws.{over-is}
use Rattle.ground_loader.proofs.steps.is_over.Goals as goal

pub returns : goal.returns
returns c = let a = c.args in over-is a.n a.c
