-- `filters::range_of` meets its contract: that of the filter. Assumes nothing.
use mathlib.Core.Path.{◌∙◌}
use Rattle.numbers.proofs.Words.{read_back}
use Rattle.filters.proofs.FigureLaws.{first-ranged, second-ranged}
use Rattle.filters.proofs.range_of.Goals as goal

pub returns-then-filter-eq0 : goal.returns-then-filter-eq0
returns-then-filter-eq0 c =
    let a = c.args in
    read_back c.range_of.result c.range_of.type_inv ∙ first-ranged a.filter a.level _ c.if-filter-eq0.true c.range_of.ensures

pub returns : goal.returns
returns c =
    let a = c.args in
    read_back c.range_of-2.result c.range_of-2.type_inv ∙ second-ranged a.filter a.level _ c.if-filter-eq0.false c.range_of-2.ensures
