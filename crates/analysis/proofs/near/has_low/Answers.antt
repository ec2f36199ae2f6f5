-- `near::has_low` meets its contract. Assumes nothing.
use mathlib.Core.Path.{◌∙◌}
use native.Mathlib.Omega.{arith}
use borrow.Author.Tests.{lt-leb}
use Rattle.lifting.specs.Grid.{side}
use Rattle.analysis.proofs.NearRows.{low-asked, low-out}
use Rattle.analysis.proofs.near.has_low.Goals as goal

pub returns-then-y-n : goal.returns-then-y-n
returns-then-y-n c = let a = c.args in low-asked (side a.y a.m) a.n _ (omega arith) c.low_count.ensures

pub returns-else-y-n : goal.returns-else-y-n
returns-else-y-n c = let a = c.args in lt-leb _ _ c.if-y-n.false ∙ low-out (side a.y a.m) a.n (omega arith)
