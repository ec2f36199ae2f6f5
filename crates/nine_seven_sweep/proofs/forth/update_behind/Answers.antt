-- `forth::update_behind` meets its contract, by whether there is such a row. Assumes nothing.
use Prim.Native.Nat.{◌+◌, ◌%◌}
use native.Mathlib.Omega.{arith}
use Rattle.lifting.specs.Grid.{side}
use Rattle.nine_seven_sweep.specs.Passes.{in_half}
use Rattle.nine_seven_sweep.proofs.CallLaws.{low-made, low-early}
use Rattle.nine_seven_sweep.proofs.forth.update_behind.Goals as goal

pub overflow_add-behind : goal.overflow_add-behind
overflow_add-behind c = omega arith

pub returns-then-n-behind : goal.returns-then-n-behind
returns-then-n-behind c =
    let a = c.args in
    low-early (in_half (side a.y a.height)) _ _ _ (side a.y a.height) a.n (1 + a.y % 2) _ _ (omega arith)

pub update-requires : goal.update-requires
update-requires c = (omega arith, omega arith)

pub shape_of-area : goal.shape_of-area
shape_of-area c = c.update.auto.area

pub returns : goal.returns
returns c =
    let a = c.args in
    low-made (in_half (side a.y a.height)) _ _ _ (side a.y a.height) a.n (1 + a.y % 2) _ _ _ (omega arith) (omega arith)
    c.update.ensures
