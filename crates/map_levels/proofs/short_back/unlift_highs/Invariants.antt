-- `short_back::unlift_highs` meets its contract: a sweep over the high numbers, the last and the first behind the loop. Assumes nothing.
use Prim.Native.Nat.{◌-◌}
use Rattle.map_levels.proofs.BackLineLaws.{HighsRun}
use Rattle.map_levels.proofs.short_back.unlift_highs.Given as goal

abbrev pub invariant-loop-n : goal.invariant-loop-n
invariant-loop-n l = HighsRun l.row l.initial.out l.m l.o l.end l.n l.out
