-- The rows beside a row, mirrored at the ends: they are there, and of the other parity. Assumes nothing.
use mathlib.Core.Logic.{◌≢◌}
use Prim.Native.Nat.{ℕ, ◌+◌, ◌%◌, ◌<◌}
use native.Mathlib.Decide.{dec_lt}
use native.Mathlib.Omega.{arith}
use borrow.Author.Tests.{lt-ltb, le-ltb}
use Rattle.map_levels.specs.Passes.{before, after}

-- ---- the neighbours: b is where the rows start
pub after_is : (b h r : ℕ) → 1 < h → r < h → (after h r < h) × ((b + after h r) % 2 ≢ (b + r) % 2)
unfolding after
after_is b h r g lt =
    elim (dec_lt (r + 1) h) [
      | yes p ↦ simp (lt-ltb (r + 1) h p) (p, λ e. omega arith)
      | no d ↦ simp (le-ltb (r + 1) h (omega arith)) (omega arith, λ e. omega arith)
    ]

pub before-is : (b h r : ℕ) → 1 < h → r < h → (before r < h) × ((b + before r) % 2 ≢ (b + r) % 2)
unfolding before
before-is b h r g lt =
    elim (dec_lt 0 r) [
      | yes p ↦ simp (lt-ltb 0 r p) (omega arith, λ e. omega arith)
      | no d ↦ simp (le-ltb 0 r (omega arith)) (omega arith, λ e. omega arith)
    ]
