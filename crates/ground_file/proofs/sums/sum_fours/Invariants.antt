-- `sums::sum_fours` meets its contract: after each turn four bytes more are summed (`Fours`). Assumes nothing.
use Rattle.ground_file.proofs.SumLaws.{Fours}
use Rattle.ground_file.proofs.sums.sum_fours.Given as goal

abbrev pub invariant-loop-i : goal.invariant-loop-i
invariant-loop-i l = Fours l.sum l.bytes l.m l.r l.i
