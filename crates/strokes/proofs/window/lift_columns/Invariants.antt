-- `window::lift_columns` meets its contract: a pair of rows a turn. Assumes nothing.
use mathlib.Core.Path.{◌≡◌}
use Prim.Native.Nat.{◌/◌, ◌^◌, ◌<◌}
use lib.ListN.{length}
use Rattle.numbers.specs.Signal.{at}
use Rattle.wavelet.specs.Bands.{Grid}
use Rattle.map_levels.specs.Passes.{Rows}
use Rattle.map_levels.proofs.GridSweep.{RowSwept}
use Rattle.strokes.specs.Local.{columns_done}
use Rattle.strokes.proofs.ColumnTurns.{rows_done}
use Rattle.strokes.proofs.window.lift_columns.Given as goal

abbrev pub invariant-loop-n : goal.invariant-loop-n
invariant-loop-n l =
    (l.end ≡ l.height / 2)
    × (1 < l.height)
    × (length l.initial.area < 2 ^ 63)
    × (length l.area ≡ length l.initial.area)
    × Rows (length l.initial.area) l.stride l.width l.height
    × ((X : Grid) → RowSwept l.stride (columns_done l.width l.height X) X (rows_done l.height 1) (at l.initial.area) →
    RowSwept l.stride (columns_done l.width l.height X) X (rows_done l.height l.n) (at l.area))
