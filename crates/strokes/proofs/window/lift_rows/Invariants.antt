-- `window::lift_rows` meets its contract: a pass over the rows, each lent as a part. Assumes nothing.
use mathlib.Core.Path.{◌≡◌}
use Prim.Native.Nat.{◌+◌, ◌^◌, ◌≤◌}
use lib.ListN.{length}
use Rattle.numbers.specs.Signal.{at}
use Rattle.wavelet.specs.Limits.{max_width}
use Rattle.wavelet.specs.Plane.{cells}
use Rattle.map_levels.proofs.GridSweep.{Passed}
use Rattle.strokes.specs.Local.{rows_done}
use Rattle.strokes.proofs.window.lift_rows.Given as goal

abbrev pub invariant-loop-r : goal.invariant-loop-r
invariant-loop-r l =
    (l.width ≤ max_width)
    × (length l.other ≡ max_width)
    × Passed l.stride l.width l.rows.size (rows_done l.width l.rows (cells l.stride (at l.initial.area))) l.initial.area l.r l.area
    × (l.rows.start + l.rows.size ≤ 2 ^ 32)
    × (l.rows.last ≤ 2 ^ 32)
