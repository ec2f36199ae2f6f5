-- `sets::is_pair` meets its contract, test by test. Assumes nothing.
use mathlib.Core.Path.{sym, ◌∙◌}
use borrow.Author.Tests.{ne_eqb}
use Rattle.lifting.specs.Grid.{side}
use Rattle.analysis.proofs.PairLaws.{pair-zero, pair-low, pair-other}
use Rattle.analysis.proofs.sets.is_pair.Goals as goal

pub returns-then-has_low : goal.returns-then-has_low
returns-then-has_low c =
    let a = c.args in
    pair-zero a.filter (side a.y a.m) a.n c.if-filter-eq0.true _ _ c.has_low.ensures c.has_high.ensures c.if-has_low.true

pub returns-else-has_low : goal.returns-else-has_low
returns-else-has_low c =
    let a = c.args in
    c.if-has_low.false ∙ pair-low a.filter (side a.y a.m) a.n (sym c.has_low.ensures ∙ c.if-has_low.false)

pub returns-else-filter-eq0 : goal.returns-else-filter-eq0
returns-else-filter-eq0 c = let a = c.args in ne_eqb a.filter 0 c.if-filter-eq0.false ∙ pair-other a.filter (side a.y a.m) a.n c.if-filter-eq0.false
