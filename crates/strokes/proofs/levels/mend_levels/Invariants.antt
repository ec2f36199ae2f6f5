-- `levels::mend_levels` meets its contract: what is still to be done stays the same from level to level. Assumes nothing.
use mathlib.Core.Path.{◌≡◌}
use Prim.Native.Nat.{ℕ, ◌+◌, ◌-◌, ◌≤◌}
use lib.IntN.{ℤ}
use lib.ListN.{length}
use Rattle.numbers.specs.Signal.{at}
use Rattle.wavelet.specs.Limits.{max_width}
use Rattle.map_levels.specs.Passes.{Rows}
use Rattle.map_levels.specs.LevelPasses.{Doubling}
use Rattle.strokes.specs.Local.{Placed}
use Rattle.strokes.proofs.Standing.{Standing}
use Rattle.strokes.proofs.levels.mend_levels.Given as goal

abbrev pub invariant-loop-level : goal.invariant-loop-level
invariant-loop-level l =
    (length l.work ≡ length l.initial.work)
    × (length l.plane ≡ length l.initial.plane)
    × Placed (l.levels + 1 - l._level) l.l.columns
    × Placed (l.levels + 1 - l._level) l.l.rows
    × Doubling (l.levels + 1 - l._level) l.l.stride l.l.columns.size
    × Rows (length l.work) l.l.stride l.l.columns.size l.l.rows.size
    × Rows (length l.plane) l.l.across l.l.columns.length l.l.rows.length
    × (l.l.columns.length ≤ max_width)
    × ((goal : ℕ → ℤ) (u v u' v' : ℕ) → Standing l.across goal u v u' v' l.levels l.initial.l.stride l.initial.l.columns l.initial.l.rows (at l.initial.work) (at l.initial.plane) →
    Standing l.across goal u v u' v' (l.levels + 1 - l._level) l.l.stride l.l.columns l.l.rows (at l.work) (at l.plane))
    × (l.l.across ≡ l.across)
