-- `parts::pack` meets its contract: after each turn one number more is put, and its whole bytes are written (`Puts`). Assumes nothing.
use Rattle.ground_file.proofs.Packing.{Puts}
use Rattle.ground_file.proofs.parts.pack.Given as goal

abbrev pub invariant-loop-x : goal.invariant-loop-x
invariant-loop-x l = Puts l.numbers l.w l.at l.initial.out l.out l.bits.low l.bits.count l.bits.at l.x-index
