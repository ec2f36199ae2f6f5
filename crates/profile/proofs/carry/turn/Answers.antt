-- `turn`: the values of its calls, put together. Assumes nothing.
use Rattle.profile.proofs.carry.turn.Goals as goal

pub returns : goal.returns
returns c = cc
