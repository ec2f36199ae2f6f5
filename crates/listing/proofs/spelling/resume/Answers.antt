-- `spelling::resume` meets its contract: the definition's test. Assumes nothing.
use Rattle.listing.proofs.SpellLaws.{start-in, start-anew}
use Rattle.listing.proofs.spelling.resume.Goals as goal

pub returns-then-done-length : goal.returns-then-done-length
returns-then-done-length c = start-in _ _ c.if-done-length.true

pub returns-else-done-length : goal.returns-else-done-length
returns-else-done-length c = start-anew _ _ c.if-done-length.false
