-- `levels::level_of` meets its contract: what is found from the level come to is what is found from the first. Assumes nothing.
use Rattle.std.proofs.Common.{◌≡◌, ◌+◌, ◌-◌}
use Rattle.lifting.specs.Grid.{side}
use Rattle.filters.specs.Filters.{filter_of}
use Rattle.progress.specs.Levels.{level_at}
use Rattle.progress.proofs.levels.level_of.Given as goal

abbrev pub invariant-loop-above : goal.invariant-loop-above
invariant-loop-above l =
    (l.a ≡ (filter_of l.filter).ahead) ×
    (level_at (filter_of l.filter).ahead (side l.column l.width) l.row l.closed (l.v + 1 - l._above) l.rows ≡ level_at (filter_of l.filter).ahead (side l.x l.w) l.y l.c l.v l.m)
