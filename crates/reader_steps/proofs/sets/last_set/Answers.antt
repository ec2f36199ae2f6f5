-- `reader_steps::sets::last-set` meets its contract: the definition's number. Assumes nothing.
use native.Mathlib.Omega.{arith}
use Rattle.wavelet.specs.Order.{last_set}
use Rattle.reader_steps.proofs.sets.last_set.Goals as goal

pub overflow_sub-result : goal.overflow_sub-result
overflow_sub-result c = omega arith

pub overflow_add-result : goal.overflow_add-result
overflow_add-result c = omega arith

pub returns-then-h-eq0 : goal.returns-then-h-eq0
unfolding last_set
returns-then-h-eq0 c = omega arith

pub returns-else-h-eq0 : goal.returns-else-h-eq0
unfolding last_set
returns-else-h-eq0 c = omega arith
