-- `filters::look_ahead` meets its contract: the filter's number. Assumes nothing.
use Rattle.filters.proofs.FigureLaws.{first-figures, second-figures}
use Rattle.filters.proofs.look_ahead.Goals as goal

pub returns-then-filter-eq0 : goal.returns-then-filter-eq0
returns-then-filter-eq0 c = (first-figures _ c.if-filter-eq0.true).2

pub returns-else-filter-eq0 : goal.returns-else-filter-eq0
returns-else-filter-eq0 c = (second-figures _ c.if-filter-eq0.false).2
