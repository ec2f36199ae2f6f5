-- `counts::is_left` meets its contract. Assumes nothing.
use Rattle.std.proofs.Common.{arith, le-ltb, lt-ltb}
use Rattle.wavelet.specs.Order.{last_set}
use Rattle.progress.proofs.counts.is_left.Goals as goal

pub returns-else-m-gt0 : goal.returns-else-m-gt0
returns-else-m-gt0 c = let a = c.args in simp (le-ltb 0 a.m (omega arith))

pub returns-then-m-gt0 : goal.returns-then-m-gt0
unfolding last_set
returns-then-m-gt0 c = let a = c.args in simp (lt-ltb 0 a.m (omega arith))
