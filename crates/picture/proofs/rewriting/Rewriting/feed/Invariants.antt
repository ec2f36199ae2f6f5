-- `Rewriting::feed` meets its contract: turns one after the other, until none is left. Assumes nothing.
use Rattle.picture.specs.Machine.{kept}
use Rattle.picture.proofs.GoneLaws.{Gone, left}
use Rattle.picture.proofs.rewriting.Rewriting.feed.Given as goal

abbrev pub invariant-loop-next : goal.invariant-loop-next
invariant-loop-next l = Gone l.initial.state l.initial.row l.piece l.initial.out l.state l.row l.out l.used l.written

abbrev pub decreases-loop-next : goal.decreases-loop-next
decreases-loop-next l = left (kept l.state l.row) l.piece l.out l.used l.written
