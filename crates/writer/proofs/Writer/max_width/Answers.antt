-- `Writer::max_width` meets its contract: the definition's number. Assumes nothing.
use mathlib.Core.Path.{refl}
use Rattle.wavelet.specs.Limits.{max_width}
use Rattle.writer.proofs.Writer.max_width.Goals as goal

pub returns : goal.returns
unfolding max_width
returns c = refl
