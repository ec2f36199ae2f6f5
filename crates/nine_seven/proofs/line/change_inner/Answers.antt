use mathlib.Core.Path.{◌∙◌, sym, ap}
use Prim.Native.Nat.{◌+◌, ◌-◌, ◌<◌, ◌≤◌}
use native.Mathlib.Omega.{arith}
use lib.ListN.{length, set}
use Rattle.numbers.specs.Signal.{at}
use Rattle.nine_seven.proofs.HighLaws.{Highs, by-inner, highs-start, highs-turn, highs-end}
use Rattle.nine_seven.proofs.line.change_inner.Goals as goal

pub loop-n-init : goal.loop-n-init
loop-n-init g c =
    let p = c.requires in
    (p.0, p.1, p.3, highs-start g.S.WideStep.op _ _ _ _ _ (omega arith) p.2 (omega arith) (omega arith) p.4)

pub step_at-requires : goal.step_at-requires
step_at-requires g c =
    let h = c.loop-n.invariant in
    let size = h.3.swept.size in
    (omega arith, omega arith, omega arith, omega arith, omega arith)

pub loop-n-preserved : goal.loop-n-preserved
loop-n-preserved g c =
    let v = c.loop-n in
    let h = v.invariant in
    let l = v.line in
    let n = v.n in
    let a = c.args in
    let size = h.3.swept.size in
    let is = by-inner g.S.WideStep.op a.o a.low (length l) (at l) n (omega arith) (omega arith) (omega arith) h.3.few in (
      h.0,
      h.1,
      h.2,
      highs-turn g.S.WideStep.op _ _ _ _ _ n l _ h.3 c.loop-n-test.true (c.step_at.ensures ∙ ap (set l (a.low + n)) (sym is)),
    )

pub returns : goal.returns
returns g c = highs-end g.S.WideStep.op _ _ _ _ _ _ _ c.loop-n.invariant.3 c.loop-n-test.false
