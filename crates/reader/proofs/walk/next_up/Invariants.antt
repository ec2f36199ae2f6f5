-- `reader::walk::next_up` meets its contract: level by level, as the definition goes. Assumes nothing.
use mathlib.Core.Path.{◌≡◌, ◌∙◌, refl}
use Prim.Native.Nat.{◌-◌, ◌≤◌, ◌<◌}
use native.Mathlib.Nat.{le_refl, le_trans}
use native.Mathlib.Omega.{arith}
use Rattle.lifting.specs.Grid.{side}
use Rattle.wavelet.specs.Limits.{max_levels}
use Rattle.reader_steps.specs.Places.{next_up}
use Rattle.reader.specs.Inside.{Small, IsLevel}
use Rattle.reader.proofs.WalkLaws.{step_down, none_left, no-next, up-here, up-finer, up_none, up_next}
use Rattle.reader.proofs.walk.next_up.Given as goal

abbrev pub invariant-loop-k : goal.invariant-loop-k
invariant-loop-k l =
    Small (side l.x l.width) (side l.y l.height) l.drawn × (l.level ≤ max_levels)
    × (0 < l.k → IsLevel l.filter (side l.x l.width) (side l.y l.height) l.drawn (l.k - 1) l.m)
    × (next_up l.filter (side l.x l.width) (side l.y l.height) l.levels l.k l.m.set l.b ≡ next_up l.filter (side l.x l.width) (side l.y l.height) l.levels l.level l.initial.m.set l.band)
