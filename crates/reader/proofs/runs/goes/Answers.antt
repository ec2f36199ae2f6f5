-- `reader::runs::goes` meets its contract: ended, or the counts. Assumes nothing.
use mathlib.Core.Path.{refl}
use Rattle.reader.proofs.RunPlaces.{false-not-true}
use Rattle.reader.proofs.runs.goes.Goals as goal

pub returns-then-place : goal.returns-then-place
returns-then-place c = (refl, refl, λ _. refl, λ e. false-not-true e c.if-place.true)

pub returns : goal.returns
returns c = (refl, refl, λ e. false-not-true c.if-place.false e, λ _. (refl, refl))
