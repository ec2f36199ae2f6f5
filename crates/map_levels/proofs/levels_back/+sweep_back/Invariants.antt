-- `levels_back::sweep_back` meets its contract: the low-low part, by the levels left, which fall, or from the plane, to the end of the work area, and then this
-- level. Assumes nothing.
use Rattle.map_levels.proofs.levels_back.+sweep_back.Given as goal

abbrev pub decreases-sweep_back : goal.decreases-sweep_back
decreases-sweep_back l = l.levels
