use mathlib.Core.Path.{ap, ◌∙◌}
use Prim.Native.Nat.{◌+◌}
use native.Mathlib.Omega.{arith}
use Rattle.numbers.specs.Signal.{at}
use Rattle.numbers.proofs.Words.{read_back}
use Rattle.ground_file.specs.Values.{kept}
use Rattle.ground_file.proofs.ValueLaws.{filling-start, filling-more, filling-end}
use Rattle.ground_file.proofs.values.fill.Goals as goal

pub loop-i-init : goal.loop-i-init
loop-i-init c = filling-start _ _

pub bounds-numbers-i : goal.bounds-numbers-i
bounds-numbers-i c = omega (arith, c.requires.1, c.loop-i.invariant.size)

pub loop-i-preserved : goal.loop-i-preserved
loop-i-preserved c =
    let a = c.args in
    filling-more _ c.loop-i.invariant (omega (arith, c.requires.1))
    (c.number_of.ensures ∙ ap (kept a.step) (read_back (at a.row.now (a.from + c.loop-i.i)) c.number_of-arg-1.given))

pub shape_of-numbers : goal.shape_of-numbers
shape_of-numbers c = c.loop-i.invariant.size

pub returns : goal.returns
returns c = filling-end (omega (arith, c.loop-i.auto.i-end)) c.loop-i.invariant
