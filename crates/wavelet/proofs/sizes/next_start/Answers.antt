-- `sizes::next_start` meets its contract: s − ⌊s / 2⌋ is ⌈s / 2⌉. Assumes nothing.
use native.Mathlib.Omega.{arith}
use Rattle.wavelet.specs.Levels.{next}
use Rattle.wavelet.proofs.sizes.next_start.Goals as goal

pub overflow_sub-result : goal.overflow_sub-result
overflow_sub-result c = omega arith

pub returns : goal.returns
unfolding next
returns c = λ n. omega arith
