-- `sets::is_next_pair` meets its contract. Assumes nothing.
use mathlib.Core.Path.{◌∙◌}
use borrow.Author.Tests.{ne_eqb}
use Rattle.analysis.proofs.PairLaws.{next-pair, pair-other}
use Rattle.analysis.specs.Sets.{rows_to}
use Rattle.analysis.proofs.sets.is_next_pair.Goals as goal

pub returns-then-filter-eq0 : goal.returns-then-filter-eq0
returns-then-filter-eq0 c = let a = c.args in next-pair a.y a.n a.filter c.if-filter-eq0.true

pub returns-else-filter-eq0 : goal.returns-else-filter-eq0
returns-else-filter-eq0 c = let a = c.args in ne_eqb a.filter 0 c.if-filter-eq0.false ∙ pair-other a.filter (rows_to 1 a.y a.n) a.n c.if-filter-eq0.false
