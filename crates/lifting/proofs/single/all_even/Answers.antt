use mathlib.Core.Path.{ap, ◌∙◌}
use native.Mathlib.Omega.{arith}
use Rattle.numbers.specs.Signal.{at}
use Rattle.numbers.proofs.Words.{read_back}
use Rattle.lifting.specs.Grid.{is_even}
use Rattle.lifting.proofs.SingleTests.{even-start, even-turn, even-end}
use Rattle.lifting.proofs.single.all_even.Goals as goal

pub loop-x-init : goal.loop-x-init
loop-x-init c = (omega arith, even-start _)

pub loop-x-preserved : goal.loop-x-preserved
loop-x-preserved c =
    let x = c.args.row.now in
    let i = c.loop-x.x-index in
    (omega arith, even-turn _ _ i _ c.loop-x.invariant.1 (c.is_even-ok.ensures ∙ ap is_even (read_back (at x i) c.is_even-arg-1.given)))

pub returns : goal.returns
returns c = even-end _ _ _ _ c.loop-x.invariant.0 c.loop-x-test.false c.loop-x.invariant.1
