-- `lifting::pairs::lift_pair` meets its contract: the columns one after the other come to the rows. Assumes nothing.
use Rattle.std.proofs.Common.{◌∙◌}
use Rattle.lifting.proofs.ColumnLaws.{where-fit, lifted-each}
use Rattle.lifting.proofs.pairs.lift_pair.Goals as goal

pub returns-clause-area_after : goal.returns-clause-area_after
returns-clause-area_after c =
    c.lift_rows.ensures.area_after ∙ where-fit _ _ _ _ _ _ _ _ _ _ (lifted-each _ _ _ _ _ _ _)
