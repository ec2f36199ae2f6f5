-- `saver::run` meets its contract: turn by turn (`running-by`). Assumes nothing.
use Prim.Native.Nat.{◌-◌}
use lib.ListN.{length}
use Rattle.ground_file.proofs.SaverLaws.{Running}
use Rattle.ground_file.proofs.saver.run.Given as goal

abbrev pub invariant-loop-turn : goal.invariant-loop-turn
invariant-loop-turn l = Running l.plane l.initial.turn.saver l.initial.out l.turn.saver l.turn.at l.out

abbrev pub decreases-loop-turn : goal.decreases-loop-turn
decreases-loop-turn l = length l.initial.out - l.turn.at
