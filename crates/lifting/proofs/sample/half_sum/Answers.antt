-- `lifting::sample::half_sum` meets its contract: the sum fits 64 bits, and its half 32. Assumes nothing.
use Rattle.lifting.proofs.Fits.{sums}
use Rattle.lifting.proofs.sample.half_sum.Goals as goal

pub overflow_cast-result : goal.overflow_cast-result
overflow_cast-result c = search sums

pub overflow_cast-result-2 : goal.overflow_cast-result-2
overflow_cast-result-2 c = search sums

pub overflow_add-result : goal.overflow_add-result
overflow_add-result c = search sums

pub overflow_cast-result-3 : goal.overflow_cast-result-3
overflow_cast-result-3 c = search sums

pub returns : goal.returns
returns c = search sums
