-- `runs::read` meets its contract: after i turns the first i heights stand in the run. Assumes nothing.
use Rattle.pgm.proofs.RunReads.{Run}
use Rattle.pgm.proofs.runs.read.Given as goal

abbrev pub invariant-loop-i : goal.invariant-loop-i
invariant-loop-i l = Run l.bytes l.initial.run l.run l.largest l.from l.n l.i
