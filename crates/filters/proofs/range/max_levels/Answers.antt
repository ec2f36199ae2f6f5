-- `filters::range::max_levels` meets its contract: the number is the definition's. Assumes nothing.
use mathlib.Core.Path.{refl}
use Rattle.filters.specs.Range.{max_levels}
use Rattle.filters.proofs.range.max_levels.Goals as goal

pub returns : goal.returns
unfolding max_levels
returns c = refl
