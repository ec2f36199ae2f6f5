use Rattle.picture.proofs.GoneLaws.{start, turned, stops, turn-less}
use Rattle.picture.proofs.rewriting.Rewriting.feed.Goals as goal

pub loop-next-init : goal.loop-next-init
loop-next-init c = start _ _ _ _

pub loop-next-smaller : goal.loop-next-smaller
loop-next-smaller c = turn-less c.in-Some.ensures.went c.in-Some.ensures.onward

pub loop-next-preserved : goal.loop-next-preserved
loop-next-preserved c = turned c.loop-next.invariant _ c.turn.new.row c.turn.auto.row c.in-Some.ensures.went

pub returns-clause-stops : goal.returns-clause-stops
returns-clause-stops c =
    rw c.in_default.ensures.kept.0 (stops c.loop-next.invariant c.in_default.ensures.stops)
