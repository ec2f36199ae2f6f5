-- `carry_on`: the third value is the call's. Assumes nothing.
use Rattle.profile.proofs.carry.carry_on.Goals as goal

pub returns : goal.returns
returns c = cc
