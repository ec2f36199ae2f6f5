-- `nine_seven::near::lows` meets its contract, by the parity of the start. Assumes nothing.
use native.Mathlib.Omega.{arith}
use Rattle.lifting.specs.Grid.{count}
use Rattle.nine_seven.proofs.near.lows.Goals as goal

pub overflow_sub-result : goal.overflow_sub-result
overflow_sub-result c = omega arith

pub returns-then-start-eq0 : goal.returns-then-start-eq0
unfolding count
returns-then-start-eq0 c = omega arith

pub returns : goal.returns
unfolding count
returns c = omega arith
