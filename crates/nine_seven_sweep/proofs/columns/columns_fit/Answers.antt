-- `columns::columns_fit` meets its contract: the test of the last row. Assumes nothing.
use mathlib.Core.Path.{◌≡◌, ap, ◌∙◌}
use Prim.Native.Nat.{ℕ, ◌-◌}
use native.Mathlib.Omega.{arith}
use Rattle.lifting.specs.Rows.{row_fits}
use Rattle.nine_seven_sweep.specs.Columns.{columns_fit}
use Rattle.nine_seven_sweep.proofs.columns.columns_fit.Goals as goal

pub returns-then-height-eq0 : goal.returns-then-height-eq0
unfolding columns_fit
returns-then-height-eq0 c =
    let a = c.args in
    let z : 0 ≡ a.height - 1 = omega arith in
    c.row_fits.ensures ∙ ap (λ (r : ℕ). row_fits a.n a.stride a.width r) z

pub overflow_sub-height : goal.overflow_sub-height
overflow_sub-height c = omega arith

pub returns : goal.returns
unfolding columns_fit
returns c = c.row_fits-2.ensures
