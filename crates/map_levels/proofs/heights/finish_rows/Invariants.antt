-- `map_levels::heights::finish_rows` meets its contract: a pass over the rows of both areas, each row lent as a part. Assumes nothing.
use Prim.Native.Nat.{◌-◌}
use Rattle.lifting.specs.Grid.{side}
use Rattle.map_levels.proofs.HeightRows.{Finishing}
use Rattle.map_levels.proofs.heights.finish_rows.Given as goal

abbrev pub invariant-loop-r : goal.invariant-loop-r
invariant-loop-r l = Finishing (side l.x l.width) l.height l.initial.work l.initial.heights l.r l.work l.heights
