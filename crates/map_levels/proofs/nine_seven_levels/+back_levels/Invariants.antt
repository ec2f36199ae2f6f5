-- `nine_seven_levels::back_levels` meets its contract: the low-low part by the levels left, which fall, in the part of the work area that begins at its
-- first row, its test, and then this level. Assumes nothing.
use Rattle.map_levels.proofs.nine_seven_levels.+back_levels.Given as goal

abbrev pub decreases-back_levels : goal.decreases-back_levels
decreases-back_levels l = l.levels
