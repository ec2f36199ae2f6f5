-- `copies::copy_row` meets its contract: a row call whose step takes the number of the other row. Assumes nothing.
use Prim.Native.Nat.{◌-◌}
use native.Mathlib.Omega.{arith}
use Rattle.numbers.proofs.Words.{read_back}
use Rattle.lifting.proofs.RowSweep.{Turned, row-start, row-turn, row-end}
use Rattle.lifting.specs.Pairs.{first}
use Rattle.level.proofs.copies.copy_row.Given as goal

abbrev pub invariant-loop-i : goal.invariant-loop-i
invariant-loop-i l = Turned first l.w l.w l.to l.from l.from l.initial.store l.i l.store
