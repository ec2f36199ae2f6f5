-- `runs::go` meets its contract: turn by turn, until nothing more is to be done. Assumes nothing.
use Prim.Native.Nat.{◌/◌}
use lib.ListN.{length}
use Rattle.writer.proofs.RunSets.{Going, todo, going_start, going-ready, going-over, going_on, going_less}
use Rattle.writer.proofs.runs.go.Given as goal

abbrev pub invariant-loop-t : goal.invariant-loop-t
invariant-loop-t l =
    Going l.initial.store l.store l.heights l.initial.out l.out l.initial.names l.names l.initial.t.done l.t.done l.initial.t.writer l.t.writer l.t.on

abbrev pub decreases-loop-t : goal.decreases-loop-t
decreases-loop-t l = todo l.t.on (length l.heights) (length l.initial.names / 4) l.t.done
