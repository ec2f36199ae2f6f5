-- `next_first`: in the row, or mirrored. Assumes nothing.
use mathlib.Core.Path.{refl, sym, ◌∙◌}
use Rattle.profile.specs.Profile.{alpha}
use Rattle.profile.proofs.PassLaws.{below, not-below}
use Rattle.profile.proofs.OnePassLaws.{lifted-of}
use Rattle.profile.proofs.ends.next_first.Goals as goal

pub returns-then-p-row : goal.returns-then-p-row
returns-then-p-row c = c.lift_first.ensures ∙ lifted-of alpha refl c.height.ensures refl ∙ sym (below _ _ _ _ c.if-p-row.true)

pub returns-else-p-row : goal.returns-else-p-row
returns-else-p-row c = sym (not-below _ _ _ _ c.if-p-row.false)
