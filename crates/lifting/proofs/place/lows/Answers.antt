-- `lifting::place::lows` meets its contract, by the parity of the start. Assumes nothing.
use native.Mathlib.Omega.{arith}
use Rattle.lifting.specs.Grid.{count}
use Rattle.lifting.proofs.place.lows.Goals as goal

pub returns-then-start-eq0 : goal.returns-then-start-eq0
unfolding count
returns-then-start-eq0 c = omega arith

pub returns : goal.returns
unfolding count
returns c = omega arith
