-- `passes::lift_rows` meets its contract: a pass over the rows, each lent as a part. Assumes nothing.
use Prim.Native.Nat.{◌-◌, ◌≤◌}
use Rattle.numbers.specs.Signal.{at}
use Rattle.lifting.specs.Grid.{side}
use Rattle.nine_seven.specs.Memory.{lifted_in_place}
use Rattle.wavelet.specs.Plane.{cells}
use Rattle.map_levels.specs.Passes.{rows_mapped}
use Rattle.map_levels.proofs.GridSweep.{Passed}
use Rattle.map_levels.proofs.passes.lift_rows.Given as goal

abbrev pub invariant-loop-r : goal.invariant-loop-r
invariant-loop-r l =
    Passed l.stride l.width l.height (rows_mapped (lifted_in_place (side l.x l.width)) l.width l.height (cells l.stride (at l.initial.area))) l.initial.area l.r l.area
