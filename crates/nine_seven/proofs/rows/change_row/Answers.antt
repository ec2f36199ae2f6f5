use mathlib.Core.Path.{◌≡◌, sym, ◌∙◌}
use native.Mathlib.Omega.{arith}
use Rattle.nine_seven.proofs.FiveRows.{Turned, five-in, changed, unchanged, row-start, row-turn, row-end}
use Rattle.nine_seven.proofs.rows.change_row.Goals as goal

pub returns-then-not-five_fit-clause-area_after : goal.returns-then-not-five_fit-clause-area_after
returns-then-not-five_fit-clause-area_after g c = sym (unchanged _ _ _ _ _ _ _ _ _ _ (sym c.five_fit.ensures ∙ c.if-not-five_fit.true))

pub overflow_mul-t : goal.overflow_mul-t
overflow_mul-t g c = omega (arith, five-in _ _ _ _ _ _ _ _ (sym c.five_fit.ensures ∙ c.if-not-five_fit.false))

pub overflow_mul-l : goal.overflow_mul-l
overflow_mul-l g c = omega (arith, five-in _ _ _ _ _ _ _ _ (sym c.five_fit.ensures ∙ c.if-not-five_fit.false))

pub overflow_mul-r : goal.overflow_mul-r
overflow_mul-r g c = omega (arith, five-in _ _ _ _ _ _ _ _ (sym c.five_fit.ensures ∙ c.if-not-five_fit.false))

pub overflow_mul-b : goal.overflow_mul-b
overflow_mul-b g c = omega (arith, five-in _ _ _ _ _ _ _ _ (sym c.five_fit.ensures ∙ c.if-not-five_fit.false))

pub overflow_mul-a : goal.overflow_mul-a
overflow_mul-a g c = omega (arith, five-in _ _ _ _ _ _ _ _ (sym c.five_fit.ensures ∙ c.if-not-five_fit.false))

pub loop-i-init : goal.loop-i-init
loop-i-init g c = row-start _ _ _ _ _ _ _ _ _ (five-in _ _ _ _ _ _ _ _ (sym c.five_fit.ensures ∙ c.if-not-five_fit.false))

pub loop-i-preserved : goal.loop-i-preserved
loop-i-preserved g c = rw c.step_at.ensures (row-turn _ _ _ _ _ _ _ _ _ _ _ c.loop-i.invariant c.loop-i-test.true)

pub returns-clause-area_after : goal.returns-clause-area_after
returns-clause-area_after g c =
    row-end _ _ _ _ _ _ _ _ _ _ _ c.loop-i.invariant c.loop-i-test.false
    ∙ sym (changed _ _ _ _ _ _ _ _ _ _ (sym c.five_fit.ensures ∙ c.if-not-five_fit.false))
