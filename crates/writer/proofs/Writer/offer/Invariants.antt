-- `Writer::offer` meets its contract. The loop goes put-heights by stretch: what is taken, the writer and the store so far are those of the offer height by
-- height. Assumes nothing.
use mathlib.Core.Path.{◌≡◌}
use Prim.Native.Nat.{◌-◌}
use native.Mathlib.Omega.{arith}
use lib.ListN.{length}
use borrow.Author.Rules.{rules}
use Rattle.numbers.specs.Signal.{at}
use Rattle.writer.specs.Questions.{offer_question}
use Rattle.writer.proofs.CallLaws.{offer-sound}
use Rattle.writer.proofs.OfferLaws.{next-first, Offering, offer-start, offer-turn, offer-ready, offer-no, offer-yes, offer-held, gone-all, sound-taker}
use Rattle.writer.proofs.CallsKeep.{offer-kept}
use Rattle.writer.proofs.Writer.offer.Given as goal

abbrev pub invariant-loop-n : goal.invariant-loop-n
invariant-loop-n l = Offering l.run l.initial.s l.initial.store l.store l.s l.taken l.n

abbrev pub decreases-loop-n : goal.decreases-loop-n
decreases-loop-n l = length l.run - l.taken
