-- `lifting::pairs::lift_and_copy` meets its contract: the columns one after the other come to the rows. Assumes nothing.
use Rattle.std.proofs.Common.{◌∙◌}
use Rattle.lifting.proofs.ColumnLaws.{where-fit, copied-each}
use Rattle.lifting.proofs.pairs.lift_and_copy.Goals as goal

pub returns-clause-area_after : goal.returns-clause-area_after
returns-clause-area_after c =
    c.lift_rows.ensures.area_after ∙ where-fit _ _ _ _ _ _ _ _ _ _ (copied-each _ _ _ _ _ _ _)
