-- `reader::Reader::max_levels` meets its contract: the definition's number. Assumes nothing.
use mathlib.Core.Path.{refl}
use Rattle.wavelet.specs.Limits.{max_levels}
use Rattle.reader.proofs.Reader.max_levels.Goals as goal

pub returns : goal.returns
unfolding max_levels
returns c = refl
