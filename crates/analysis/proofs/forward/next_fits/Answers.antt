-- `forward::next-fits` meets its contract: both stretches are one of as many columns. Assumes nothing.
use mathlib.Core.Path.{sym, ◌∙◌}
use Prim.Native.Nat.{◌≤◌}
use native.Mathlib.Omega.{arith}
use Rattle.filters.specs.Filters.{filter_of}
use Rattle.lifting.specs.Grid.{side}
use Rattle.wavelet.proofs.SideLaws.{count-lo}
use native.Mathlib.Nat.{mul-le-mul_right}
use Rattle.analysis.proofs.FilterColumns.{rows_are, ahead-some}
use Rattle.analysis.proofs.StretchLaws.{level_in, next-is, next-none}
use Rattle.analysis.proofs.forward.next_fits.Goals as goal

pub overflow_add-w : goal.overflow_add-w
overflow_add-w c =
    let a = c.args in
    let W = side a.x a.w in
    let k = level_in a.filter a.n W (sym (c.level_fits.ensures a.x) ∙ c.if-level_fits.true) in
    let four : 4 ≤ (filter_of a.filter).rows = omega (arith, rows_are a.filter, ahead-some a.filter) in
    omega (arith, mul-le-mul_right a.w four, k, c.low_count.ensures, count-lo W)

pub returns-then-level_fits : goal.returns-then-level_fits
returns-then-level_fits c =
    let a = c.args in
    c.level_fits-then-level_fits.ensures a.x ∙ next-is a.filter a.n (side a.x a.w) _ a.x c.low_count.ensures

pub returns-else-level_fits : goal.returns-else-level_fits
returns-else-level_fits c =
    let a = c.args in
    c.if-level_fits.false ∙ next-none a.filter a.n (side a.x a.w) (sym (c.level_fits.ensures a.x) ∙ c.if-level_fits.false)
