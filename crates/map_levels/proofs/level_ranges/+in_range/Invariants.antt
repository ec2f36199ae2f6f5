-- `level_ranges::in_range` meets its contract: the region's own bands, and the low-low part by the levels left, which fall. Assumes nothing.
use Rattle.map_levels.proofs.level_ranges.+in_range.Given as goal

abbrev pub decreases-in_range : goal.decreases-in_range
decreases-in_range l = l.levels
