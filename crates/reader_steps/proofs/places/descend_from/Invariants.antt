-- `reader_steps::places::descend_from` meets its contract: the search of the definition, level by level. Assumes nothing.
use mathlib.Core.Path.{◌≡◌}
use Prim.Native.Nat.{◌-◌, ◌≤◌}
use Rattle.lifting.specs.Grid.{side}
use Rattle.reader_steps.specs.Places.{descend}
use Rattle.reader_steps.proofs.places.descend_from.Given as goal

abbrev pub invariant-loop-k : goal.invariant-loop-k
invariant-loop-k l =
    (l.levels ≤ l.level → l.k ≡ l.level)
    × (descend l.filter (l.levels - l.k) l.k (side l.wx l.w) (side l.hy l.h) l.m l.r ≡ descend l.filter (l.levels - l.level) l.level (side l.initial.wx l.initial.w) (side l.initial.hy l.initial.h) l.initial.m l.initial.r)
