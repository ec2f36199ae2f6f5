-- `chosen`: by the test. Assumes nothing.
use mathlib.Core.Path.{sym}
use borrow.Author.Tests.{eq-eqb, ne_eqb}
use Rattle.nearest_change.proofs.FiveLaws.{pick_yes, pick_no}
use Rattle.nearest_change.proofs.five.chosen.Goals as goal

pub returns-then-place-q : goal.returns-then-place-q
returns-then-place-q c = sym (pick_yes _ _ _ (eq-eqb _ _ c.if-place-q.true))

pub returns-else-place-q : goal.returns-else-place-q
returns-else-place-q c = sym (pick_no _ _ _ (ne_eqb _ _ c.if-place-q.false))
