-- `nine_seven::put::put_inner` meets its contract: two places a turn, the even coordinates carried from one to the next. Assumes nothing.
use mathlib.Core.Path.{◌∙◌}
use mir.Syntax.{w32}
use mir.Val.{to_z}
use Prim.Native.Nat.{◌+◌, ◌*◌, ◌%◌, ◌-◌}
use native.Mathlib.Omega.{arith}
use lib.ListN.{length}
use Rattle.numbers.specs.Signal.{at}
use Rattle.numbers.proofs.Words.{read_back}
use Rattle.numbers.proofs.Sweep.{start}
use Rattle.lifting.specs.Grid.{side}
use Rattle.lifting.proofs.GridLaws.{beside-lows}
use Rattle.nine_seven.proofs.PutLaws.{Carried, put-below, long, carry-turn, carry-end}
use Rattle.nine_seven.proofs.put.put_inner.Given as goal

abbrev pub invariant-loop-n : goal.invariant-loop-n
invariant-loop-n l =
    Carried (side l.start (length l.coefficients)) (at l.coefficients) l.initial.out l.low l.from l.to l.n l.e0 l.e1 l.e2 l.out
