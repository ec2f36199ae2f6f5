use Rattle.std.proofs.Common.{◌∙◌}
use Rattle.lifting.proofs.PassLaws.{low-turns}
use Rattle.lifting.proofs.LiftLaws.{low_again, low-last, low-done}
use Rattle.lifting.proofs.halves.unlift_lows.Goals as goal

pub loop-n-preserved : goal.loop-n-preserved
loop-n-preserved c = low_again c.loop-n.invariant _ c.loop-n-test.true c.unupdate_by-in-loop-n.ensures

pub returns-then-last-low : goal.returns-then-last-low
returns-then-last-low c =
    let inv = c.loop-n.invariant in
    let e = c.max-last.ensures ∙ low-turns inv.places c.loop-n-test.false c.loop-n.auto.n-end in
    low-last inv c.args.out.now _ c.requires.1 c.nearest.ensures c.unupdate_by.ensures _ c.loop-n-test.false
    (rw e at c.if-last-low.true) (rw e at c.unupdate_by-then-last-low.ensures)

pub returns-else-last-low : goal.returns-else-last-low
returns-else-last-low c =
    let inv = c.loop-n.invariant in
    let e = c.max-last.ensures ∙ low-turns inv.places c.loop-n-test.false c.loop-n.auto.n-end in
    low-done inv c.args.out.now _ c.requires.1 c.nearest.ensures c.unupdate_by.ensures (rw e at c.if-last-low.false)
