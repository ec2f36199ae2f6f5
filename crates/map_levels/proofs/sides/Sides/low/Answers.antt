-- `Sides::low` meets its contract: both sides of the next level. Assumes nothing.
use Rattle.map_levels.proofs.LevelSteps.{next-side}
use Rattle.map_levels.proofs.sides.Sides.low.Goals as goal

pub returns-clause-columns : goal.returns-clause-columns
returns-clause-columns c = next-side _ _ _ c.next_start.ensures c.low_count.ensures

pub returns-clause-rows : goal.returns-clause-rows
returns-clause-rows c = next-side _ _ _ c.next_start-2.ensures c.low_count-2.ensures
