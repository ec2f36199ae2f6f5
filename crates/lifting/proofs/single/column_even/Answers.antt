use mathlib.Core.Path.{◌≡◌, refl, sym, ap, ◌∙◌}
use native.Mathlib.Omega.{arith}
use borrow.Author.Tests.{not-true, not-false}
use Rattle.numbers.specs.Signal.{at}
use Rattle.numbers.proofs.Words.{read_back}
use Rattle.lifting.specs.Grid.{is_even}
use Rattle.lifting.proofs.SingleTests.{column-start, column-next, column-odd, column-past, column-last, column-end}
use Rattle.lifting.proofs.single.column_even.Goals as goal

pub loop-init : goal.loop-init
loop-init c = (column-start _ _ _, refl)

pub returns-then-len-p : goal.returns-then-len-p
returns-then-len-p c =
    let inv = c.loop.invariant in
    column-past _ _ _ _ _ inv.0 (omega (arith, inv.1))

pub returns-then-not-is_even : goal.returns-then-not-is_even
returns-then-not-is_even c =
    let number : c.is_even.result ≡ is_even (at c.args.area.now c.loop.p) = c.is_even.ensures ∙ ap is_even (read_back _ c.is_even-arg-1.given) in
    column-odd _ _ _ _ _ c.loop.invariant.0 c.loop-test.true (sym (number) ∙ not-true _ c.if-not-is_even.true-raw)

pub returns-then-len-p-2 : goal.returns-then-len-p-2
returns-then-len-p-2 c =
    let number : c.is_even.result ≡ is_even (at c.args.area.now c.loop.p) = c.is_even.ensures ∙ ap is_even (read_back _ c.is_even-arg-1.given) in
    let inv = c.loop.invariant in
    column-last _ _ _ _ _ inv.0 c.loop-test.true (sym (number) ∙ not-false _ c.if-not-is_even.false-raw) (omega (arith, inv.1))

pub loop-preserved : goal.loop-preserved
loop-preserved c =
    let number : c.is_even.result ≡ is_even (at c.args.area.now c.loop.p) = c.is_even.ensures ∙ ap is_even (read_back _ c.is_even-arg-1.given) in
    let inv = c.loop.invariant in
    (column-next _ _ _ _ _ inv.0 c.loop-test.true (sym (number) ∙ not-false _ c.if-not-is_even.false-raw), inv.1)

pub returns : goal.returns
returns c = column-end _ _ _ _ _ c.loop.invariant.0 c.loop-test.false
