-- `spelling::first_letter` meets its contract: the definition's test. Assumes nothing.
use borrow.Author.Tests.{eq-eqb, ne_eqb}
use Rattle.listing.specs.Parts.{letter}
use Rattle.listing.proofs.spelling.first_letter.Goals as goal

pub returns-then-band-eq1 : goal.returns-then-band-eq1
unfolding letter
returns-then-band-eq1 c = simp (eq-eqb _ _ c.if-band-eq1.true)

pub returns-else-band-eq1 : goal.returns-else-band-eq1
unfolding letter
returns-else-band-eq1 c = simp (ne_eqb _ _ c.if-band-eq1.false)
