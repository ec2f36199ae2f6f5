-- `window`: the places before j have their heights. Assumes nothing.
use Rattle.nearest_change.specs.NearestChange.{ground_of}
use Rattle.nearest_change.proofs.FillLaws.{Filled}
use Rattle.nearest_change.proofs.window.window.Given as goal

abbrev pub invariant-loop-j : goal.invariant-loop-j
invariant-loop-j l = Filled (ground_of l.width l.heights) l.rows l.columns l.j l.w
