-- `nine_seven::rows::change_row` meets its contract. The loop sweeps row `target`: up to place `target * stride + i` the area is the definition's,
-- and from there on it is as it was. Assumes nothing.
use Rattle.nine_seven.proofs.FiveRows.{Turned}
use Rattle.nine_seven.proofs.rows.change_row.Given as goal

abbrev pub invariant-loop-i : goal.invariant-loop-i
invariant-loop-i g l = Turned g.S.WideStep.op l.stride l.width l.target l.left l.right l.before l.after l.initial.area l.i l.area
