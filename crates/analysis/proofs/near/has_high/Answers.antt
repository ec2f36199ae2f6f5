-- `near::has_high` meets its contract. Assumes nothing.
use Rattle.lifting.specs.Grid.{side}
use Rattle.analysis.proofs.NearRows.{high-asked}
use Rattle.analysis.proofs.near.has_high.Goals as goal

pub returns : goal.returns
returns c = let a = c.args in high-asked (side a.y a.m) a.n _ c.high_count.ensures
