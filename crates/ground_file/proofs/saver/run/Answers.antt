use mathlib.Core.Path.{sym}
use native.Mathlib.Omega.{arith}
use Rattle.ground_file.proofs.SaverLaws.{running-start, running-by, less_by, ran-refused, ran-some, ran-over, stop-full, stop-over}
use Rattle.ground_file.proofs.saver.run.Goals as goal

pub loop-turn-init : goal.loop-turn-init
loop-turn-init c = running-start _ _ _ c.requires

pub loop-turn-smaller : goal.loop-turn-smaller
loop-turn-smaller c =
    let e = c.write_some-turn.ensures in
    less_by _ _ _ _ _ _ c.loop-turn.invariant (omega arith) c.if-turn-lt3.true _ c.row_of-row.ensures _ (omega arith) e.saver.0 _ e.saver.1

pub loop-turn-preserved : goal.loop-turn-preserved
loop-turn-preserved c =
    let e = c.write_some-turn.ensures in
    running-by _ _ _ _ _ _ c.loop-turn.invariant (omega arith) c.if-turn-lt3.true _ c.row_of-row.ensures _ (omega arith) e.saver.0 _ e.saver.1
    c.in_default.ensures _ e.area

pub returns-then-turn-eq0 : goal.returns-then-turn-eq0
returns-then-turn-eq0 c =
    ran-refused _ _ _ _ _ _ c.loop-turn.invariant (omega arith) c.if-turn-lt3.true _ c.row_of-row.ensures _ c.in-Err.ensures c.if-turn-eq0.true

pub returns-else-turn-eq0 : goal.returns-else-turn-eq0
returns-else-turn-eq0 c =
    ran-some _ _ _ _ _ _ c.loop-turn.invariant (omega arith) c.if-turn-lt3.true _ c.row_of-row.ensures _ c.in-Err.ensures c.if-turn-eq0.false

pub returns-else-turn-lt3 : goal.returns-else-turn-lt3
returns-else-turn-lt3 c =
    ran-over _ _ _ _ _ _ c.loop-turn.invariant (stop-over _ _ _ _ (omega arith) c.if-turn-lt3.false)

pub returns-after-loop-turn : goal.returns-after-loop-turn
returns-after-loop-turn c =
    ran-over _ _ _ _ _ _ c.loop-turn.invariant (stop-full _ _ _ _ (omega arith))
