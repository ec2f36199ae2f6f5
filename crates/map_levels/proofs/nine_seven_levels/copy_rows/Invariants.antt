-- `nine_seven_levels::copy_rows` meets its contract: a pass over the rows, each from its row of the plane. Assumes nothing.
use mathlib.Core.Path.{◌≡◌}
use Prim.Native.Nat.{◌+◌, ◌-◌, ◌≤◌}
use lib.ListN.{length}
use Rattle.numbers.specs.Signal.{at}
use Rattle.lifting.specs.Grid.{side}
use Rattle.wavelet.specs.Plane.{cells}
use Rattle.map_levels.specs.Passes.{rows_fetched}
use Rattle.map_levels.proofs.GridSweep.{RowSwept}
use Rattle.map_levels.proofs.nine_seven_levels.copy_rows.Given as goal

abbrev pub invariant-loop-r : goal.invariant-loop-r
invariant-loop-r l =
    (l.height ≤ length l.initial.work + 1)
    × (length l.work ≡ length l.initial.work)
    × RowSwept l.stride (rows_fetched l.from l.width (side l.y l.height) (cells l.across (at l.plane)) (cells l.stride (at l.initial.work))) (cells l.stride (at l.initial.work)) l.r (at l.work)
