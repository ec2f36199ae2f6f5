-- `lifting::single::is_single` meets its contract, by the parity of the start. Assumes nothing.
use Rattle.std.proofs.Common.{sym, ◌∙◌, ◌%◌}
use borrow.Author.Tests.{ne_eqb}
use native.Mathlib.Omega.{arith}
use Rattle.lifting.specs.Grid.{side}
use Rattle.lifting.proofs.SingleLaws.{single-odd, single-even}
use Rattle.lifting.proofs.single.is_single.Goals as goal

pub returns-then-y-eq1 : goal.returns-then-y-eq1
returns-then-y-eq1 c = let a = c.args in sym (single-odd (side a.y a.h) (omega arith))

pub returns-else-y-eq1 : goal.returns-else-y-eq1
returns-else-y-eq1 c = let a = c.args in ne_eqb (a.y % 2) 1 (omega arith) ∙ sym (single-even (side a.y a.h) (omega arith))
