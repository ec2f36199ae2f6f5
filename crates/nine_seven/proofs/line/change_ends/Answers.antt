use native.Mathlib.Omega.{arith}
use Rattle.nine_seven.proofs.HighLaws.{Highs, highs-start, highs-turn, highs-end}
use Rattle.nine_seven.proofs.line.change_ends.Goals as goal

pub loop-n-init : goal.loop-n-init
loop-n-init g c = let p = c.requires in highs-start g.S.WideStep.op _ _ _ _ _ p.0 p.2 p.1 p.3 p.4

pub change_end-requires : goal.change_end-requires
change_end-requires g c =
    let h = c.loop-n.invariant in
    let size = h.swept.size in
    (h.some, omega arith, h.few, omega arith)

pub loop-n-preserved : goal.loop-n-preserved
loop-n-preserved g c = highs-turn g.S.WideStep.op _ _ _ _ _ _ _ _ c.loop-n.invariant c.loop-n-test.true c.change_end.ensures

pub returns : goal.returns
returns g c = highs-end g.S.WideStep.op _ _ _ _ _ _ _ c.loop-n.invariant c.loop-n-test.false
