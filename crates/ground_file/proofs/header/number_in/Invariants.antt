-- `header::number_in` meets its contract: the bytes are taken from the last on (`Reading`). Assumes nothing.
use Rattle.ground_file.proofs.HeaderLaws.{Reading}
use Rattle.ground_file.proofs.header.number_in.Given as goal

abbrev pub invariant-loop-i : goal.invariant-loop-i
invariant-loop-i l = Reading l.bytes l.from l.n l.r l.i
