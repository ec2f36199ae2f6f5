-- `loader_state::pack_loader` meets its contract: the numbers as they are, and the flag as one. Assumes nothing.
use Rattle.states.proofs.loader_state.pack_loader.Goals as goal

pub returns : goal.returns
returns c = let e = c.flag_of-ended.ensures in cc
