-- `parts::flush` meets its contract: after each turn one byte more is written (`Flushed`). Assumes nothing.
use Prim.Native.Nat.{◌/◌}
use Rattle.ground_file.proofs.Packing.{Flushed}
use Rattle.ground_file.proofs.parts.flush.Given as goal

abbrev pub invariant-loop-place : goal.invariant-loop-place
invariant-loop-place l = Flushed l.initial.low (l.fn.bits.count / 8) l.fn.bits.at l.initial.out l.out l.low l.place
