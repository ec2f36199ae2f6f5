use native.Mathlib.Omega.{arith}
use Rattle.numbers.specs.Signal.{at}
use mir.Syntax.{w32}
use mir.ValLaws.{to_z-of_z}
use Rattle.numbers.proofs.Words.{read_back}
use Rattle.areas.proofs.AreaLaws.{between_start, between-turn, between-end}
use Rattle.areas.proofs.ranges.all_between.Goals as goal

pub loop-v-init : goal.loop-v-init
loop-v-init c = between_start _

pub loop-v-preserved : goal.loop-v-preserved
loop-v-preserved c =
    let x = c.args.row.now in
    let i = c.loop-v.v-index in
    rw (read_back (at x i) c.ok-in-loop-v-1.given) (between-turn _ i _ _ (at x) c.loop-v.invariant)

pub returns : goal.returns
returns c =
    let fits = c.ranges in
    between-end _ _ _ _ _ _ _ _ (to_z-of_z w32 _ fits.low) (to_z-of_z w32 _ fits.high) (omega arith) c.loop-v-test.false
    c.loop-v.invariant
