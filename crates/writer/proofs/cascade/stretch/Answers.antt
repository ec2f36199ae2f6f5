-- `cascade::stretch` meets its contract: the rows that a level keeps, each of w numbers. Assumes nothing.
use mathlib.Core.Path.{ap}
use Prim.Native.Nat.{◌*◌, ◌≤◌}
use native.Mathlib.Omega.{arith}
use Rattle.filters.proofs.FigureLaws.{row-few}
use Rattle.writer.proofs.cascade.stretch.Goals as goal

pub overflow_mul-result : goal.overflow_mul-result
overflow_mul-result c =
    let a = c.args in
    let p : c.rows_kept.result * a.w ≤ 8 * a.w = rw c.rows_kept.ensures (row-few a.filter a.w) in
    omega (arith, p)

pub returns : goal.returns
returns c = ap (λ r. r * c.args.w) c.rows_kept.ensures
