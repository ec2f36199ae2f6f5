-- `is_inside`: by its two tests. Assumes nothing.
use Rattle.std.proofs.Common.{sym, ◌∙◌}
use borrow.Author.Tests.{le-leb, lt-leb}
use Rattle.nearest_change.proofs.FiveLaws.{pick_yes, pick_no}
use Rattle.nearest_change.proofs.trial.is_inside.Goals as goal

pub returns-then-q-ge2 : goal.returns-then-q-ge2
returns-then-q-ge2 c = sym (pick_yes _ _ _ (le-leb _ _ c.if-q-ge2.true))

pub returns-else-q-ge2 : goal.returns-else-q-ge2
returns-else-q-ge2 c = let e = lt-leb _ _ c.if-q-ge2.false in e ∙ sym (pick_no _ _ _ e)
