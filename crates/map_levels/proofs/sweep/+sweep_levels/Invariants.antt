-- `sweep::sweep_levels` meets its contract: this level, and then the low-low part by the levels left, which fall. Assumes nothing.
use Rattle.map_levels.proofs.sweep.+sweep_levels.Given as goal

abbrev pub decreases-sweep_levels : goal.decreases-sweep_levels
decreases-sweep_levels l = l.levels
