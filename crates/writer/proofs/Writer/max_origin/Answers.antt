-- `Writer::max_origin` meets its contract: the definition's number. Assumes nothing.
use mathlib.Core.Path.{refl}
use Rattle.wavelet.specs.Limits.{max_origin}
use Rattle.writer.proofs.Writer.max_origin.Goals as goal

pub returns : goal.returns
unfolding max_origin
returns c = refl
