-- `limits::max_height` meets its contract: the definition's number. Assumes nothing.
use mathlib.Core.Path.{refl}
use Rattle.wavelet.specs.Limits.{max_height}
use Rattle.wavelet.proofs.limits.max_height.Goals as goal

pub returns : goal.returns
unfolding max_height
returns c = refl
