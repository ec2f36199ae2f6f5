-- `first`: no trial before t works. Assumes nothing.
use Rattle.std.proofs.Common.{◌≡◌, false, ℕ, ◌<◌}
use Rattle.nearest_change.specs.Trials.{tried}
use Rattle.nearest_change.proofs.first.Given as goal

abbrev pub invariant-loop-t : goal.invariant-loop-t
invariant-loop-t l = (s : ℕ) → s < l.t → tried l.cell.window l.cell s ≡ false
