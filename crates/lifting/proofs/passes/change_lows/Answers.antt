use Rattle.std.proofs.Common.{◌∙◌}
use Rattle.lifting.proofs.PassLaws.{lows-again, low-turns, lows-last, lows-done}
use Rattle.lifting.proofs.passes.change_lows.Goals as goal

pub loop-n-preserved : goal.loop-n-preserved
loop-n-preserved g c = lows-again c.loop-n.invariant _ c.loop-n-test.true c.step_at-in-loop-n.ensures

pub returns-then-last-low : goal.returns-then-last-low
returns-then-last-low g c =
    let inv = c.loop-n.invariant in
    let e = c.max-last.ensures ∙ low-turns inv.places c.loop-n-test.false c.loop-n.auto.n-end in
    lows-last inv c.args.line.now _ c.step_at.auto.area c.nearest.ensures c.step_at.ensures _ c.loop-n-test.false
    (rw e at c.if-last-low.true) (rw e at c.step_at-then-last-low.ensures)

pub returns-else-last-low : goal.returns-else-last-low
returns-else-last-low g c =
    let inv = c.loop-n.invariant in
    let e = c.max-last.ensures ∙ low-turns inv.places c.loop-n-test.false c.loop-n.auto.n-end in
    lows-done inv c.args.line.now _ c.step_at.auto.area c.nearest.ensures c.step_at.ensures (rw e at c.if-last-low.false)
