-- `short_back::unlift_lows` meets its contract: a sweep over the low numbers, the last and the first behind the loop. Assumes nothing.
use Prim.Native.Nat.{◌-◌}
use Rattle.map_levels.proofs.BackLineLaws.{LowsRun}
use Rattle.map_levels.proofs.short_back.unlift_lows.Given as goal

abbrev pub invariant-loop-n : goal.invariant-loop-n
invariant-loop-n l = LowsRun l.low l.row l.m l.o l.end l.n l.out
