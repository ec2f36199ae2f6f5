-- `Reader::most_levels` meets its contract: the filter's number. Assumes nothing.
use Rattle.wavelet.specs.Limits.{max_levels}
use Rattle.filters.specs.Range as nine
use Rattle.filters.proofs.FigureLaws.{first-figures, second-figures}
use Rattle.reader.proofs.Reader.most_levels.Goals as goal

pub returns-then-filter-eq0 : goal.returns-then-filter-eq0
unfolding max_levels
returns-then-filter-eq0 c = (first-figures _ c.if-filter-eq0.true).0

pub returns-else-filter-eq0 : goal.returns-else-filter-eq0
unfolding nine.max_levels
returns-else-filter-eq0 c = (second-figures _ c.if-filter-eq0.false).0
