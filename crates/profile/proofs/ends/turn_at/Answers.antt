-- `turn_at`: the values of its calls, put together. Assumes nothing.
use Rattle.profile.proofs.ends.turn_at.Goals as goal

pub returns : goal.returns
returns c = cc
