-- `Listing::feed` meets its contract: turns one after the other, until none is left. The measure is what is left of the piece and of the area. Assumes
-- nothing.
use lib.ListN.{length}
use Rattle.numbers.specs.Signal.{at}
use Rattle.listing.specs.States.{state_of}
use Rattle.listing.proofs.TurnLaws.{Gone, left}
use Rattle.listing.proofs.listing.Listing.feed.Given as goal

abbrev pub invariant-loop-next : goal.invariant-loop-next
invariant-loop-next l =
    Gone (length l.initial.store) (length l.initial.row) (state_of l.initial.state (at l.initial.store) (at l.initial.row)) l.piece l.initial.out l.state l.store l.row l.out l.used l.written

abbrev pub decreases-loop-next : goal.decreases-loop-next
decreases-loop-next l = left l.piece l.out l.used l.written
