use Rattle.std.proofs.Common.{◌∙◌}
use Rattle.lifting.proofs.PassLaws.{high-turns}
use Rattle.lifting.proofs.LiftLaws.{high-again, high-last, high-done}
use Rattle.lifting.proofs.halves.unlift_highs.Goals as goal

pub loop-n-preserved : goal.loop-n-preserved
loop-n-preserved c = high-again c.loop-n.invariant _ c.loop-n-test.true c.unpredict_to-in-loop-n.ensures

pub returns-then-last-row : goal.returns-then-last-row
returns-then-last-row c =
    let inv = c.loop-n.invariant in
    let e = c.max.ensures ∙ high-turns inv.places c.loop-n-test.false c.loop-n.auto.n-end in
    high-last inv c.args.out.now _ c.requires.1 c.nearest.ensures c.unpredict_to.ensures _ c.loop-n-test.false
    (rw e at c.if-last-row.true) (rw e at c.unpredict_to-then-last-row.ensures)

pub returns-else-last-row : goal.returns-else-last-row
returns-else-last-row c =
    let inv = c.loop-n.invariant in
    let e = c.max.ensures ∙ high-turns inv.places c.loop-n-test.false c.loop-n.auto.n-end in
    high-done inv c.args.out.now _ c.requires.1 c.nearest.ensures c.unpredict_to.ensures (rw e at c.if-last-row.false)
