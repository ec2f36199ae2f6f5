-- `reader_steps::sets::row_below` meets its contract: the set's number, less where the low rows begin. Assumes nothing.
use Rattle.wavelet.specs.Order.{first_set}
use Rattle.reader_steps.proofs.sets.row_below.Goals as goal

pub returns : goal.returns
unfolding first_set
returns c = λ h. c.less.ensures
