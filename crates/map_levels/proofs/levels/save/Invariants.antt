-- `levels::save` meets its contract: a pass over the rows of the grid, each from its row of the plane. Assumes nothing.
use mathlib.Core.Path.{◌≡◌}
use Prim.Native.Nat.{◌≤◌, ◌-◌}
use lib.ListN.{length}
use Rattle.numbers.specs.Signal.{at}
use Rattle.wavelet.specs.Plane.{cells}
use Rattle.map_levels.specs.Passes.{Rows, grid_copied}
use Rattle.map_levels.proofs.GridSweep.{RowSwept}
use Rattle.map_levels.proofs.levels.save.Given as goal

abbrev pub invariant-loop-r : goal.invariant-loop-r
invariant-loop-r l =
    (length l.work ≡ length l.initial.work)
    × Rows (length l.plane) l.across l.width l.height
    × Rows (length l.initial.work) l.width l.width l.height
    × RowSwept l.width (grid_copied l.width l.height (cells l.across (at l.plane)) (cells l.width (at l.initial.work))) (cells l.width (at l.initial.work)) l.r (at l.work)
