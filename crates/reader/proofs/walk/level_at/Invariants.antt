-- `reader::walk::level_at` meets its contract: a walk from level 1 on. Assumes nothing.
use mathlib.Core.Path.{◌≡◌}
use Prim.Native.Nat.{◌-◌, ◌≤◌, ◌<◌, ◌^◌}
use native.Mathlib.Omega.{arith}
use Rattle.lifting.specs.Grid.{side}
use Rattle.wavelet.specs.Limits.{max_levels}
use Rattle.wavelet.proofs.StoreLaws.{widths-le}
use Rattle.reader.proofs.StoreLaws.{Ends, ends-start, ends_on, walked-level, begins-small}
use Rattle.reader.proofs.walk.level_at.Given as goal

abbrev pub invariant-loop-i : goal.invariant-loop-i
invariant-loop-i l =
    (l.k ≤ max_levels) × (l.width ≤ 2 ^ 16) × (l.height < 2 ^ 32) × (l.drawn ≤ l.height)
    × Ends l.filter (side l.x l.width) (side l.y l.height) l.drawn l._i l.columns l.left l.right l.top l.bottom l.row
