-- `writer_state::pack_writer` meets its contract: the numbers as they are, and the flag as one. Assumes nothing.
use Rattle.states.proofs.writer_state.pack_writer.Goals as goal

pub returns : goal.returns
returns c = let e = c.flag_of-finished.ensures in cc
