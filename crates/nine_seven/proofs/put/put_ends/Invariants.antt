-- `nine_seven::put::put_ends` meets its contract: a sweep over the places. Assumes nothing.
use Prim.Native.Nat.{◌-◌}
use native.Mathlib.Omega.{arith}
use lib.ListN.{length}
use Rattle.numbers.specs.Signal.{at}
use Rattle.numbers.proofs.Words.{read_back}
use Rattle.lifting.specs.Grid.{side}
use Rattle.nine_seven.proofs.PutLaws.{Placed, place-start, place-turn, place_end}
use Rattle.nine_seven.proofs.put.put_ends.Given as goal

abbrev pub invariant-loop-q : goal.invariant-loop-q
invariant-loop-q l = Placed (side l.start (length l.coefficients)) (at l.coefficients) l.initial.out l.from l.to l.q l.out
