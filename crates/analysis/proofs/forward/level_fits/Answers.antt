-- `forward::level_fits` meets its contract, by the filter's number. Assumes nothing.
use Rattle.analysis.proofs.StretchLaws.{level-first, level-second}
use Rattle.analysis.proofs.forward.level_fits.Goals as goal

pub returns-then-filter-eq0 : goal.returns-then-filter-eq0
returns-then-filter-eq0 c x = let a = c.args in level-first a.filter a.n a.w x c.if-filter-eq0.true

pub returns : goal.returns
returns c x = let a = c.args in level-second a.filter a.n a.w x c.if-filter-eq0.false
