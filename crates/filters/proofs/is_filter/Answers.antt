-- `filters::is_filter` meets its contract: the definition's test. Assumes nothing.
use mathlib.Core.Path.{refl}
use Rattle.filters.specs.Filters.{is_filter}
use Rattle.filters.proofs.is_filter.Goals as goal

pub returns : goal.returns
unfolding is_filter
returns c = refl
