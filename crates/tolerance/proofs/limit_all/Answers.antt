use mathlib.Core.Path.{ap, ap₂, ◌∙◌}
use Prim.Native.Nat.{◌-◌}
use native.Mathlib.Omega.{arith}
use lib.IntN.{ℤ}
use lib.ListN.{length}
use mir.Syntax.{w32}
use mir.Val.{to_z}
use mir.ValLaws.{to_z-of_z}
use Rattle.numbers.specs.Signal.{at}
use Rattle.numbers.proofs.Words.{read_back}
use Rattle.lifting.specs.Halves.{fronted}
use Rattle.lifting.proofs.EachLaws.{Each, each_start, each_turn, each-end}
use Rattle.tolerance.specs.Limits.{clamped}
use Rattle.tolerance.proofs.limit_all.Goals as goal

pub loop-v-init : goal.loop-v-init
loop-v-init c = each_start _ _

pub loop-v-preserved : goal.loop-v-preserved
loop-v-preserved c =
    let i = c.loop-v.v-index in
    let l = c.loop-v.row in
    each_turn _ _ i l c.loop-v.invariant _ (omega (arith, c.loop-v.invariant.swept.size, c.loop-v-test.true))
    (read_back _ c.limit.type_inv ∙ c.limit.ensures ∙ ap (clamped _ _) (read_back (at l i) c.limit-arg-1.given))

pub returns : goal.returns
returns c =
    each-end _ _ _ _ c.loop-v.invariant (omega (arith, c.loop-v.invariant.swept.size, c.loop-v-test.false))
    ∙ ap₂ (λ (a b : ℤ). fronted (length c.args.row.now) (λ i. clamped a b (at c.args.row.now i)) (at c.args.row.now))
    (to_z-of_z w32 _ c.ranges.least) (to_z-of_z w32 _ c.ranges.most)
