-- `nine_seven_levels::forward_levels` meets its contract: this level, and then the low-low part by the levels left, which fall. Assumes nothing.
use Rattle.map_levels.proofs.nine_seven_levels.+forward_levels.Given as goal

abbrev pub decreases-forward_levels : goal.decreases-forward_levels
decreases-forward_levels l = l.levels
