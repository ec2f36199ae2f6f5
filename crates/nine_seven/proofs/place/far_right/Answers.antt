-- `nine_seven::place::far_right` meets its contract, case by case. Assumes nothing.
use mathlib.Core.Path.{sym, ◌∙◌}
use native.Mathlib.Omega.{arith}
use Rattle.nine_seven.proofs.MirrorLaws.{far-last, far-less}
use Rattle.nine_seven.proofs.place.far_right.Goals as goal

pub overflow_add-n : goal.overflow_add-n
overflow_add-n c = omega arith

pub overflow_add-n-then-n-high : goal.overflow_add-n-then-n-high
overflow_add-n-then-n-high c = omega arith

pub overflow_add-n-then-n-high-2 : goal.overflow_add-n-then-n-high-2
overflow_add-n-then-n-high-2 c = omega arith

pub returns-then-n-high : goal.returns-then-n-high
returns-then-n-high c =
    let a = c.args in
    let e = c.nearest.ensures in
    sym (far-less a.low a.high a.o a.n c.if-n-high.true ∙ omega arith)

pub returns : goal.returns
returns c =
    let a = c.args in
    let e = c.one_before.ensures in
    let f = c.one_before-2.ensures in
    sym (far-last a.low a.high a.o a.n (omega arith) ∙ omega arith)
