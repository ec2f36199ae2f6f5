-- `synthesis::work::undo_low` meets its contract: no row, or the even row. Assumes nothing.
use mathlib.Core.Path.{refl, ◌∙◌}
use native.Mathlib.Omega.{arith}
use Rattle.lifting.specs.Grid.{side}
use Rattle.level.proofs.WorkLaws.{low_first, low-there}
use Rattle.synthesis.proofs.work.undo_low.Goals as goal

pub returns-then-n-y : goal.returns-then-n-y
returns-then-n-y c = let a = c.args in rw (low_first (side a.y a.h) a.n (omega arith)) refl

pub shape_of-stretch : goal.shape_of-stretch
shape_of-stretch c = c.undo_even.auto.stretch

pub returns : goal.returns
returns c =
    let a = c.args in
    rw (low-there (side a.y a.h) a.n (omega arith)) c.undo_even.ensures
