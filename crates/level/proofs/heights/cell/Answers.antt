-- `heights::cell` meets its contract: the two cases of a column. Assumes nothing.
use mathlib.Core.Path.{sym}
use native.Mathlib.Omega.{arith}
use Rattle.lifting.specs.Grid.{side}
use Rattle.wavelet.proofs.SideLaws.{count-lo}
use Rattle.level.proofs.Spots.{spot-even, spot-odd}
use Rattle.level.proofs.heights.cell.Goals as goal

pub returns-then-x-c-eq0 : goal.returns-then-x-c-eq0
returns-then-x-c-eq0 c = let a = c.args in sym (spot-even (side a.x a.w) a.c (omega arith))

pub overflow_add-result : goal.overflow_add-result
overflow_add-result c = let a = c.args in omega (arith, c.low_count.ensures, count-lo (side a.x a.w))

pub returns : goal.returns
returns c =
    let a = c.args in
    omega (arith, c.low_count.ensures, spot-odd (side a.x a.w) a.c (λ e. omega arith))
