-- `nine_seven_levels::made_of` meets its contract: the definition's two cases. Assumes nothing.
use native.Mathlib.Omega.{arith}
use Rattle.lifting.specs.Grid.{side}
use Rattle.map_levels.proofs.CellLaws.{is-low, is-high}
use Rattle.map_levels.proofs.nine_seven_levels.made_of.Goals as goal

pub returns-then-r-y : goal.returns-then-r-y
returns-then-r-y c h = let a = c.args in simp (is-low (side a.y h) a.r (omega (arith, c.if-r-y.true)))

pub returns-else-r-y : goal.returns-else-r-y
returns-else-r-y c h = let a = c.args in simp (is-high (side a.y h) a.r (omega (arith, c.if-r-y.false)))
