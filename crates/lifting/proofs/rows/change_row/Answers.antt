use Rattle.std.proofs.Common.{sym, ◌∙◌}
use Rattle.lifting.proofs.RowLaws.{rows-in, row_first, changed, unchanged}
use Rattle.lifting.proofs.RowSweep.{row-start, row-turn, row-end}
use Rattle.lifting.proofs.rows.change_row.Goals as goal

pub returns-then-not-rows_fit-clause-area_after : goal.returns-then-not-rows_fit-clause-area_after
returns-then-not-rows_fit-clause-area_after g c = sym (unchanged _ _ _ _ _ _ _ _ (sym c.rows_fit.ensures ∙ c.if-not-rows_fit.true))

pub overflow_mul-t : goal.overflow_mul-t
overflow_mul-t g c = row_first (rows-in _ _ _ _ _ _ (sym c.rows_fit.ensures ∙ c.if-not-rows_fit.false)).one c.well_formed.0.1

pub overflow_mul-l : goal.overflow_mul-l
overflow_mul-l g c = row_first (rows-in _ _ _ _ _ _ (sym c.rows_fit.ensures ∙ c.if-not-rows_fit.false)).two c.well_formed.0.1

pub overflow_mul-r : goal.overflow_mul-r
overflow_mul-r g c = row_first (rows-in _ _ _ _ _ _ (sym c.rows_fit.ensures ∙ c.if-not-rows_fit.false)).three c.well_formed.0.1

pub loop-i-init : goal.loop-i-init
loop-i-init g c = row-start _ _ _ _ _ _ _ (rows-in _ _ _ _ _ _ (sym c.rows_fit.ensures ∙ c.if-not-rows_fit.false))

pub loop-i-preserved : goal.loop-i-preserved
loop-i-preserved g c = rw c.step_at.ensures (row-turn _ _ _ _ _ _ _ _ _ c.loop-i.invariant c.loop-i-test.true)

pub returns-clause-area_after : goal.returns-clause-area_after
returns-clause-area_after g c =
    row-end _ _ _ _ _ _ _ _ _ c.loop-i.invariant c.loop-i-test.false
    ∙ sym (changed _ _ _ _ _ _ _ _ (sym c.rows_fit.ensures ∙ c.if-not-rows_fit.false))
