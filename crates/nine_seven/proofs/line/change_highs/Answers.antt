-- `nine_seven::line::change_highs` meets its contract: the pieces are all the high numbers. Assumes nothing.
use mathlib.Core.Path.{◌∙◌}
use Prim.Native.Nat.{◌-◌}
use native.Mathlib.Omega.{arith}
use lib.ListN.{length}
use Rattle.numbers.specs.Signal.{at}
use Rattle.nine_seven.proofs.HighLaws.{all-highs}
use Rattle.nine_seven.proofs.line.change_highs.Goals as goal

pub change_ends-requires : goal.change_ends-requires
change_ends-requires g c = let p = c.requires in (p.0, omega arith, p.2, omega arith, omega arith)

pub change_ends-requires-2 : goal.change_ends-requires-2
change_ends-requires-2 g c = let p = c.requires in (p.0, omega arith, p.2, omega arith, omega arith)

pub change_inner-requires : goal.change_inner-requires
change_inner-requires g c =
    let p = c.requires in
    let k = c.change_ends-2.auto.line in
    (omega arith, omega arith, p.2, omega arith, omega arith)

pub change_ends-requires-3 : goal.change_ends-requires-3
change_ends-requires-3 g c =
    let p = c.requires in
    let k = c.change_ends-2.auto.line in
    let m = c.change_inner.auto.line in
    (p.0, omega arith, p.2, omega arith, omega arith)

pub returns : goal.returns
returns g c =
    let a = c.args in
    let N = length a.line.now in
    let k = c.change_ends-2.auto.line in
    let m = c.change_inner.auto.line ∙ k in
    let e₁ = c.change_ends-2.ensures in
    let e₂ = c.change_inner.ensures in
    let e₃ = c.change_ends-3.ensures in
    all-highs g.S.WideStep.op a.o a.low N (N - a.low) (at a.line.now) _ _ _ c.requires.0 (omega arith) (omega arith) (omega arith)
    e₁ (rw k at e₂) (rw m at e₃)
