-- `limits::max_sample` meets its contract: the definition's number. Assumes nothing.
use mathlib.Core.Path.{refl}
use Rattle.wavelet.specs.Limits.{max_sample}
use Rattle.wavelet.proofs.limits.max_sample.Goals as goal

pub returns : goal.returns
unfolding max_sample
returns c = refl
