-- `map_levels::heights::load_rows` meets its contract: two rows a turn, and the last of an odd number. Assumes nothing.
use mathlib.Core.Path.{◌≡◌}
use Prim.Native.Nat.{◌-◌, ◌≤◌}
use lib.ListN.{length}
use Rattle.numbers.specs.Signal.{at}
use Rattle.lifting.specs.Grid.{side}
use Rattle.wavelet.specs.Plane.{cells}
use Rattle.map_levels.specs.Rowwise.{heights_at}
use Rattle.map_levels.specs.Passes.{Rows}
use Rattle.map_levels.proofs.ForwardCalls.{Pairs}
use Rattle.map_levels.proofs.ForwardCalls.{Laid}
use Rattle.map_levels.proofs.heights.load_rows.Given as goal

abbrev pub invariant-loop-n : goal.invariant-loop-n
invariant-loop-n l =
    Pairs (length l.initial.plane) l.sides.y l.sides.height l.b l.low l.pairs
    × (length l.plane ≡ length l.initial.plane)
    × Rows (length l.heights) l.sides.width l.sides.width l.sides.height
    × Rows (length l.initial.plane) l.sides.width l.sides.width l.sides.height
    × Laid (side l.sides.x l.sides.width) (side l.sides.y l.sides.height) (cells l.sides.width (heights_at l.heights)) (at l.initial.plane) l.n (at l.plane)
