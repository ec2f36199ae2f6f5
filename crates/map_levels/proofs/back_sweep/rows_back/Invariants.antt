-- `back_sweep::rows_back` meets its contract: the first rows, then pair by pair, and the last row. What is done is told of the areas at the start of the level,
-- which the loop does not know: so its invariant says it of any. Assumes nothing.
use mathlib.Core.Path.{◌≡◌}
use Prim.Native.Nat.{ℕ, ◌+◌, ◌*◌}
use lib.IntN.{ℤ}
use lib.ListN.{length}
use Rattle.numbers.specs.Signal.{at}
use Rattle.lifting.specs.Grid.{side}
use Rattle.areas.specs.Areas.{heights_at}
use Rattle.map_levels.specs.SweepBack.{SmallBands}
use Rattle.map_levels.specs.BackLines.{RowsDone}
use Rattle.map_levels.proofs.back_sweep.rows_back.Given as goal

abbrev pub invariant-loop-n : goal.invariant-loop-n
invariant-loop-n l =
    (length l.heights ≡ length l.initial.heights) × (length l.work ≡ length l.initial.work) × (length l.lines ≡ length l.initial.lines)
    × ((g₀ x₀ : ℕ → ℤ) → SmallBands l.across (side l.sides.x l.sides.width) (side l.sides.y l.sides.height) (at l.plane) x₀ →
    RowsDone l.initial.ok l.level l.across (side l.sides.x l.sides.width) (side l.sides.y l.sides.height) (at l.plane) g₀ x₀ l.start (heights_at l.initial.heights) (at l.initial.work) (at l.initial.lines) →
    RowsDone l.ok l.level l.across (side l.sides.x l.sides.width) (side l.sides.y l.sides.height) (at l.plane) g₀ x₀ (l.start + 2 * l.n) (heights_at l.heights) (at l.work) (at l.lines))
