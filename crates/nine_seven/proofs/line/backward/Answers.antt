-- `nine_seven::line::backward` meets its contract: a line of one number or none is as the 5/3 has it, any other is put place by place. Assumes nothing.
use mathlib.Core.Path.{ap, ◌∙◌}
use Prim.Native.Nat.{ℕ}
use native.Mathlib.Omega.{arith}
use lib.IntN.{ℤ}
use lib.ListN.{length}
use lib.Dec.{leb}
use borrow.Author.Tests.{le-leb, lt-leb}
use Rattle.numbers.specs.Signal.{at, pick, both}
use Rattle.lifting.specs.Grid.{side}
use Rattle.lifting.specs.GridHalves.{has_line_in}
use Rattle.lifting.proofs.SingleLaws.{has_more}
use Rattle.nine_seven.proofs.LiftLaws.{backward-short}
use borrow.Author.Rules.{rules}
use Rattle.nine_seven.proofs.line.backward.Goals as goal

pub returns-then-n-lt2 : goal.returns-then-n-lt2
returns-then-n-lt2 c =
    let a = c.args in
    let N = length a.coefficients.now in
    let S = side a.start N in
    let y = at a.coefficients.now in
    let z = at a.out.now in
    let e = c.backward.ensures in
    record { value = c.code.ensures ∙ e.value; out_after = e.out_after ∙ ap (λ (u : ℕ → ℤ). pick (both (leb N (length a.out.now)) (has_line_in S y)) u z) (backward-short S (omega arith) y z) }

pub returns-then-out-n : goal.returns-then-out-n
returns-then-out-n c =
    let a = c.args in
    let bad = lt-leb (length a.coefficients.now) (length a.out.now) (omega arith) in
    record { value = simp bad; out_after = simp bad }

pub returns : goal.returns
returns c =
    let a = c.args in
    let N = length a.coefficients.now in
    let S = side a.start N in
    let ok = le-leb N (length a.out.now) (omega arith) in
    let has = has_more S (at a.coefficients.now) (omega arith) in
    record { value = simp (ok, has); out_after = simp (ok, has) c.put_line.ensures }
