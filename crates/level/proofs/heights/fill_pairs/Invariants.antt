-- `heights::fill_pairs` meets its contract: after j turns 2j heights are put. Assumes nothing.
use mathlib.Core.Path.{◌≡◌, ap, ◌∙◌}
use Prim.Native.Nat.{ℕ, ◌+◌, ◌*◌, ◌-◌, ◌^◌, ◌≤◌, ◌<◌}
use native.Mathlib.Omega.{arith}
use lib.ListN.{length, get_or, length-set}
use Rattle.numbers.specs.Signal.{at}
use Rattle.lifting.specs.Grid.{side}
use Rattle.level.specs.Cells.{spot}
use Rattle.level.specs.Heights.{height_at, heights_put}
use Rattle.level.proofs.FillLaws.{height-fits, height-read, Put, put-none, put-pair, put-place}
use Rattle.level.proofs.heights.fill_pairs.Given as goal

-- the bounds, the two places, and the heights put
abbrev pub invariant-loop-j : goal.invariant-loop-j
invariant-loop-j l =
    (length l.initial.row < 2 ^ 62) × (l.column + 2 * l.pairs ≤ length l.initial.row) × (2 * l.pairs ≤ length l.run)
    × (l.first ≡ spot (side l.x (length l.initial.row)) l.column) × (l.second ≡ spot (side l.x (length l.initial.row)) (l.column + 1))
    × Put (side l.x (length l.initial.row)) l.column (2 * l.j) (height_at l.run) l.initial.row l.row
