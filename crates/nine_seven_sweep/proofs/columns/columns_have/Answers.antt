-- `columns::columns_have` meets its contract: the row at the front, lent and asked.  Assumes nothing.
use mathlib.Core.Path.{sym, ◌∙◌}
use Prim.Native.Nat.{◌-◌}
use native.Mathlib.Omega.{arith}
use borrow.Author.Tests.{not-true, not-false}
use Rattle.lifting.specs.Grid.{side, is_even}
use Rattle.nine_seven_sweep.proofs.SingleLaws.{front-test}
use Rattle.nine_seven_sweep.proofs.ShortColumns.{have-other, have-single}
use Rattle.nine_seven_sweep.proofs.columns.columns_have.Goals as goal

pub returns-then-not-is_single : goal.returns-then-not-is_single
returns-then-not-is_single c =
    sym (have-other _ _ _ (sym c.is_single.ensures ∙ not-true _ c.if-not-is_single.true-raw))

pub slice_bounds-all_even-count : goal.slice_bounds-all_even-count
slice_bounds-all_even-count c = omega arith

pub slice_bounds-all_even-start : goal.slice_bounds-all_even-start
slice_bounds-all_even-start c = omega arith

pub slice_bounds-all_even-end : goal.slice_bounds-all_even-end
slice_bounds-all_even-end c = omega arith

pub returns : goal.returns
returns c =
    let a = c.args in
    c.all_even.ensures
    ∙ front-test a.width (a.width - 0) a.area.now (omega arith) c.requires is_even
    ∙ sym (have-single _ (side a.y a.height) _ (sym c.is_single.ensures ∙ not-false _ c.if-not-is_single.false-raw))
