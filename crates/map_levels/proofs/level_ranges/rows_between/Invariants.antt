-- `level_ranges::rows_between` meets its contract: the rows passed are all between. Assumes nothing.
use Prim.Native.Nat.{◌-◌, ◌≤◌}
use lib.ListN.{length}
use Rattle.map_levels.specs.Passes.{Rows}
use Rattle.map_levels.proofs.LevelCalls.{Tested}
use Rattle.map_levels.proofs.level_ranges.rows_between.Given as goal

abbrev pub invariant-loop-r : goal.invariant-loop-r
invariant-loop-r l =
    Rows (length l.area) l.stride l.to l.last × (l.from ≤ l.to) × Tested l.stride l.first l.last l.from l.to l.low l.high l.area l.r
