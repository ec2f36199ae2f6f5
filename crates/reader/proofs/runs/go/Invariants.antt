-- `reader::runs::go` meets its contract: turn by turn, until nothing more is to be done. Assumes nothing.
use Prim.Native.Nat.{◌+◌}
use Rattle.std.specs.Prelude.{is_none}
use lib.ListN.{length}
use Rattle.numbers.specs.Signal.{at}
use Rattle.areas.specs.Areas.{heights_at}
use Rattle.reader.specs.RunSteps.{reader_at, run_at, left_of}
use Rattle.reader.proofs.RunOver.{Going, going}
use Rattle.reader.proofs.runs.go.Given as goal

abbrev pub invariant-loop-s : goal.invariant-loop-s
invariant-loop-s l = Going l.s l.initial.store l.run l.initial.out l.store l.out l.t

abbrev pub decreases-loop-s : goal.decreases-loop-s
decreases-loop-s l =
    left_of (length l.run) (run_at l.t.done (reader_at l.s l.t.place) (at l.store) (heights_at l.out)) + going (is_none l.t.over)
