-- `levels::spread` meets its contract: a pass over the plane's rows, each from its row of the grid, in halves. Assumes nothing.
use mathlib.Core.Path.{◌≡◌}
use Prim.Native.Nat.{◌≤◌, ◌-◌}
use lib.ListN.{length}
use Rattle.numbers.specs.Signal.{at}
use Rattle.lifting.specs.Grid.{side}
use Rattle.wavelet.specs.Plane.{cells}
use Rattle.map_levels.specs.Passes.{Rows, grid_halved}
use Rattle.map_levels.proofs.GridSweep.{RowSwept}
use Rattle.map_levels.proofs.levels.spread.Given as goal

abbrev pub invariant-loop-r : goal.invariant-loop-r
invariant-loop-r l =
    (length l.plane ≡ length l.initial.plane)
    × Rows (length l.work) l.sides.width l.sides.width l.sides.height
    × Rows (length l.initial.plane) l.across l.sides.width l.sides.height
    × RowSwept l.across (grid_halved (side l.sides.x l.sides.width) (side l.sides.y l.sides.height) (cells l.sides.width (at l.work)) (cells l.across (at l.initial.plane))) (cells l.across (at l.initial.plane)) l.r (at l.plane)
