-- `spelling::second_letter` meets its contract: the definition's test. Assumes nothing.
use borrow.Author.Tests.{lt-ltb, le-ltb}
use Rattle.listing.specs.Parts.{letter}
use Rattle.listing.proofs.spelling.second_letter.Goals as goal

pub returns-then-band-gt1 : goal.returns-then-band-gt1
unfolding letter
returns-then-band-gt1 c = simp (lt-ltb _ _ c.if-band-gt1.true)

pub returns-else-band-gt1 : goal.returns-else-band-gt1
unfolding letter
returns-else-band-gt1 c = simp (le-ltb _ _ c.if-band-gt1.false)
