-- `Writer::max_levels` meets its contract: the definition's number. Assumes nothing.
use mathlib.Core.Path.{refl}
use Rattle.wavelet.specs.Limits.{max_levels}
use Rattle.writer.proofs.Writer.max_levels.Goals as goal

pub returns : goal.returns
unfolding max_levels
returns c = refl
