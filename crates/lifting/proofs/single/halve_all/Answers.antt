use mathlib.Core.Path.{◌∙◌, ap}
use native.Mathlib.Omega.{arith}
use lib.Signed.{shr_z}
use Rattle.numbers.specs.Signal.{at}
use Rattle.numbers.proofs.Words.{read_back}
use Rattle.lifting.specs.Grid.{is_even}
use Rattle.lifting.proofs.SingleTests.{even-start, even-turn, even-end}
use Rattle.lifting.proofs.EachLaws.{each_start, each_turn, each-end}
use Rattle.lifting.proofs.single.halve_all.Goals as goal

pub loop-v-init : goal.loop-v-init
loop-v-init c = (even-start _, each_start (λ v. shr_z v 2) _)

pub loop-v-preserved : goal.loop-v-preserved
loop-v-preserved c =
    let i = c.loop-v.v-index in
    let l = c.loop-v.row in
    let inv = c.loop-v.invariant in
    let read = read_back (at l i) c.is_even-arg-1.given in (
      even-turn _ _ i _ inv.0 (c.is_even-ok.ensures ∙ ap is_even (read ∙ inv.1.swept.rest i (omega arith))),
      each_turn (λ v. shr_z v 2) _ i l inv.1 _ (omega (arith, inv.1.swept.size, c.loop-v-test.true))
          (read_back _ c.halve.type_inv ∙ c.halve.ensures ∙ ap (λ v. shr_z v 2) (read_back (at l i) c.halve-arg-1.given)),
    )

pub returns : goal.returns
returns c =
    let inv = c.loop-v.invariant in
    let e = inv.1 in
    record { even = even-end _ _ _ _ e.within (omega (arith, e.swept.size)) inv.0; row = each-end (λ v. shr_z v 2) _ _ _ e (omega (arith, e.swept.size, c.loop-v-test.false)) }
