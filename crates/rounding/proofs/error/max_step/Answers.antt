-- `error::max_step` meets its contract. Assumes nothing.
use mathlib.Core.Path.{refl}
use Rattle.rounding.specs.Figure.{max_step}
use Rattle.rounding.proofs.error.max_step.Goals as goal

pub returns : goal.returns
unfolding max_step
returns c = refl
