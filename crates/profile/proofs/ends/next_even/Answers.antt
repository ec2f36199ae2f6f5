-- `next_even`: in the row, or mirrored. Assumes nothing.
use mathlib.Core.Path.{sym, ◌∙◌}
use Rattle.profile.proofs.PassLaws.{below, not-below}
use Rattle.profile.proofs.ends.next_even.Goals as goal

pub returns-then-p-row : goal.returns-then-p-row
returns-then-p-row c = c.height.ensures ∙ sym (below _ _ _ _ c.if-p-row.true)

pub returns-else-p-row : goal.returns-else-p-row
returns-else-p-row c = sym (not-below _ _ _ _ c.if-p-row.false)
