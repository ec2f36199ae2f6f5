use Rattle.std.proofs.Common.{◌∙◌}
use Rattle.lifting.proofs.PassLaws.{highs-again, high-turns, highs-last, highs-done}
use Rattle.lifting.proofs.passes.change_highs.Goals as goal

pub loop-n-preserved : goal.loop-n-preserved
loop-n-preserved g c = highs-again c.loop-n.invariant _ c.loop-n-test.true c.step_at-in-loop-n.ensures

pub returns-then-last-line : goal.returns-then-last-line
returns-then-last-line g c =
    let inv = c.loop-n.invariant in
    let e = c.max.ensures ∙ high-turns inv.places c.loop-n-test.false c.loop-n.auto.n-end in
    highs-last inv c.args.line.now _ c.step_at.auto.area c.nearest.ensures c.step_at.ensures _ c.loop-n-test.false
    (rw e at c.if-last-line.true) (rw e at c.step_at-then-last-line.ensures)

pub returns-else-last-line : goal.returns-else-last-line
returns-else-last-line g c =
    let inv = c.loop-n.invariant in
    let e = c.max.ensures ∙ high-turns inv.places c.loop-n-test.false c.loop-n.auto.n-end in
    highs-done inv c.args.line.now _ c.step_at.auto.area c.nearest.ensures c.step_at.ensures (rw e at c.if-last-line.false)
