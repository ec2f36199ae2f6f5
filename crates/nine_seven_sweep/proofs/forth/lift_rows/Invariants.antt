-- `forth::lift_rows` meets its contract: a sweep over the rows of both halves. Assumes nothing.
use Rattle.nine_seven_sweep.proofs.LoopLaws.{Raising}
use Rattle.nine_seven_sweep.proofs.forth.lift_rows.Given as goal

abbrev pub invariant-loop-n : goal.invariant-loop-n
invariant-loop-n l = Raising l.initial.area l.stride l.width l.y l.height l.end l.n l.area
