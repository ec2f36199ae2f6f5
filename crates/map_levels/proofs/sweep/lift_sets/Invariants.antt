-- `sweep::lift_sets` meets its contract: the first high row, and then set by set. What is done is told of the areas at the start of the level, which the
-- loop does not know: so its invariant says it of any. Assumes nothing.
use mathlib.Core.Path.{◌≡◌}
use Prim.Native.Nat.{ℕ, ◌-◌, ◌*◌, ◌≤◌}
use lib.IntN.{ℤ}
use lib.ListN.{length}
use Rattle.numbers.specs.Signal.{at}
use Rattle.lifting.specs.Grid.{side}
use Rattle.lifting.specs.FiveThree.{five_three_filter}
use Rattle.areas.specs.Areas.{heights_at}
use Rattle.map_levels.specs.Sweep.{line_half, SetsDone}
use Rattle.map_levels.proofs.sweep.lift_sets.Given as goal

abbrev pub invariant-loop-n : goal.invariant-loop-n
invariant-loop-n l =
    (length l.lines ≡ 4 * line_half) × (length l.plane ≡ length l.initial.plane) × (length l.work ≡ length l.initial.work)
    × ((z₀ x₀ : ℕ → ℤ) → SetsDone five_three_filter l.first l.across (side l.sides.x l.sides.width) (side l.sides.y l.sides.height) (heights_at l.heights) z₀ x₀ 0 (at l.initial.plane) (at l.initial.work) (at l.initial.lines) →
    SetsDone five_three_filter l.first l.across (side l.sides.x l.sides.width) (side l.sides.y l.sides.height) (heights_at l.heights) z₀ x₀ l.n (at l.plane) (at l.work) (at l.lines))
