-- `sizes::low_count` meets its contract, for a start of either parity. Assumes nothing.
use native.Mathlib.Omega.{arith}
use Rattle.lifting.specs.Grid.{count}
use Rattle.wavelet.proofs.sizes.low_count.Goals as goal

pub overflow_sub-result : goal.overflow_sub-result
overflow_sub-result c = omega arith

pub returns-then-start-eq0 : goal.returns-then-start-eq0
unfolding count
returns-then-start-eq0 c = omega arith

pub returns-else-start-eq0 : goal.returns-else-start-eq0
unfolding count
returns-else-start-eq0 c = omega arith
