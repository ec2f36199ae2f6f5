-- `reader::stops::last_at` meets its contract: the definition's record. Assumes nothing.
use mathlib.Core.Path.{refl}
use borrow.Author.Tests.{eq-eqb, ne_eqb}
use Rattle.reader.specs.Stops.{last_at}
use Rattle.reader.proofs.stops.last_at.Goals as goal

pub returns-then-width-eq0 : goal.returns-then-width-eq0
unfolding last_at
returns-then-width-eq0 c = rw (eq-eqb c.args.width 0 c.if-width-eq0.true) refl

pub returns-else-width-eq0 : goal.returns-else-width-eq0
unfolding last_at
returns-else-width-eq0 c = rw (ne_eqb c.args.width 0 c.if-width-eq0.false) refl
