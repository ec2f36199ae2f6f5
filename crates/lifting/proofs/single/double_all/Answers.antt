use mathlib.Core.Path.{◌∙◌, ap}
use native.Mathlib.Omega.{arith}
use lib.IntN.{pos, ◌*ℤ◌}
use Rattle.numbers.specs.Signal.{at}
use Rattle.numbers.specs.Word.{wrap32}
use Rattle.numbers.proofs.Words.{read_back}
use Rattle.lifting.proofs.EachLaws.{each_start, each_turn, each-end}
use Rattle.lifting.proofs.single.double_all.Goals as goal

pub loop-v-init : goal.loop-v-init
loop-v-init c = each_start (λ v. wrap32 (pos 2 *ℤ v)) _

pub loop-v-preserved : goal.loop-v-preserved
loop-v-preserved c =
    let i = c.loop-v.v-index in
    let l = c.loop-v.row in
    each_turn (λ v. wrap32 (pos 2 *ℤ v)) _ i l c.loop-v.invariant _ (omega (arith, c.loop-v.invariant.swept.size, c.loop-v-test.true))
    (read_back _ c.double.type_inv ∙ c.double.ensures ∙ ap (λ v. wrap32 (pos 2 *ℤ v)) (read_back (at l i) c.double-arg-1.given))

pub returns : goal.returns
returns c = each-end (λ v. wrap32 (pos 2 *ℤ v)) _ _ _ c.loop-v.invariant (omega (arith, c.loop-v.invariant.swept.size, c.loop-v-test.false))
