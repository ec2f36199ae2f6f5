-- `third_sample`: in the row, or mirrored. Assumes nothing.
use mathlib.Core.Path.{sym, ◌∙◌}
use Rattle.profile.proofs.PassLaws.{below, not-below}
use Rattle.profile.proofs.ends.third_sample.Goals as goal

pub returns-then-row-gt2 : goal.returns-then-row-gt2
returns-then-row-gt2 c = c.height.ensures ∙ sym (below _ _ _ _ c.if-row-gt2.true)

pub returns-else-row-gt2 : goal.returns-else-row-gt2
returns-else-row-gt2 c = c.height-else-row-gt2.ensures ∙ sym (not-below _ _ _ _ c.if-row-gt2.false)
