-- `lifting::rows::change_row` meets its contract. The loop sweeps row `target`: up to place `target * stride + i` the area is the definition's,
-- and from there on it is as it was. Assumes nothing.
use Rattle.lifting.proofs.RowSweep.{Turned}
use Rattle.lifting.proofs.rows.change_row.Given as goal

abbrev pub invariant-loop-i : goal.invariant-loop-i
invariant-loop-i g l = Turned g.S.Step.op l.stride l.width l.target l.left l.right l.initial.area l.i l.area
