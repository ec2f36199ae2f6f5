-- `back::unlift_rows` meets its contract: a sweep over the rows of both halves. Assumes nothing.
use Rattle.nine_seven_sweep.proofs.LoopLaws.{Lowering}
use Rattle.nine_seven_sweep.proofs.back.unlift_rows.Given as goal

abbrev pub invariant-loop-n : goal.invariant-loop-n
invariant-loop-n l = Lowering l.initial.area l.stride l.width l.y l.height l.last l.n l.area
