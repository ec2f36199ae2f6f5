-- `direction::lowered` meets its contract: number by number. Assumes nothing.
use Rattle.strokes.proofs.direction.lowered.Goals as goal

pub returns : goal.returns
returns c = cc
