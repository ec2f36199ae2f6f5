-- `listing::turn` meets its contract: it reads, or it writes, or there is nothing to do. Assumes nothing.
use native.Mathlib.Omega.{arith}
use borrow.Author.Tests.{eq-eqb, ne_eqb}
use Rattle.text.specs.Moves.{full, idle}
use Rattle.listing.proofs.listing.turn.Goals as goal

pub returns-then-used-piece-clause-stops : goal.returns-then-used-piece-clause-stops
returns-then-used-piece-clause-stops c = rw (eq-eqb _ _ c.if-listing-eq0.true) (idle c.if-listing-eq0.true (omega arith))

pub returns-then-written-out-clause-stops : goal.returns-then-written-out-clause-stops
returns-then-written-out-clause-stops c = rw (ne_eqb _ _ c.if-listing-eq0.false) (full (omega arith) (omega arith))
