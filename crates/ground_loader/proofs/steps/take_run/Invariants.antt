-- `steps::take_run` meets its contract: turn by turn, what is left to do is the same. Assumes nothing.
use lib.ListN.{length}
use Rattle.numbers.specs.Signal.{at}
use Rattle.ground_loader.specs.Loader.{world_of}
use Rattle.ground_loader.proofs.RunLaws.{Running}
use Rattle.ground_loader.proofs.steps.take_run.Given as goal

abbrev pub invariant-loop-at : goal.invariant-loop-at
invariant-loop-at l =
    Running (length l.initial.store) (length l.initial.row) l.run (world_of l.fn.l (at l.initial.store) (at l.initial.row)) l.next.loader l.next.due
    l.at 0 (at l.store) (at l.row)
