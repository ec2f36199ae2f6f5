-- `synthesis::work::own_even` meets its contract, by its two tests. Assumes nothing.
use mathlib.Core.Path.{refl}
use native.Mathlib.Omega.{arith}
use Rattle.lifting.specs.Grid.{side}
use Rattle.level.proofs.WorkLaws.{low_first, low-there}
use Rattle.synthesis.specs.Work.{own_even}
use Rattle.synthesis.proofs.work.own_even.Goals as goal

pub returns-then-n-y : goal.returns-then-n-y
unfolding own_even
returns-then-n-y c = let a = c.args in rw (low_first (side a.y a.h) a.n c.if-n-y.true) refl

pub returns : goal.returns
unfolding own_even
returns c = let a = c.args in rw (low-there (side a.y a.h) a.n (omega arith)) refl
