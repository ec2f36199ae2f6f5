use Prim.Native.Nat.{◌+◌, ◌≤◌}
use native.Mathlib.Omega.{arith}
use lib.IntN.{nat_abs}
use borrow.Author.Tests.{ltb-true}
use Rattle.numbers.specs.Signal.{at}
use Rattle.numbers.proofs.Words.{read_back}
use Rattle.map_levels.proofs.SmallLaws.{or-more, or-end}
use Rattle.map_levels.proofs.small.surely_within.Goals as goal

pub loop-v-init : goal.loop-v-init
loop-v-init c = λ j b. absurd (omega arith)

pub loop-v-preserved : goal.loop-v-preserved
loop-v-preserved c =
    let x = at c.args.row.now in
    let i = c.loop-v.v-index in
    let one : nat_abs (x i) ≤ c.magnitude-all.result + 1 = rw (read_back (x i) c.magnitude-arg-1.given) at c.magnitude-all.ensures in
    or-more i c.loop-v.all _ x c.loop-v.invariant one

pub returns : goal.returns
returns c e =
    or-end c.loop-v.v-index _ c.loop-v.all c.args.most (at c.args.row.now) (omega (arith, c.loop-v-test.false))
    c.loop-v.invariant (ltb-true _ _ e)
