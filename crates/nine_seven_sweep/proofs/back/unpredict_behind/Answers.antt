-- `back::unpredict_behind` meets its contract, by whether there is such a row. Assumes nothing.
use Prim.Native.Nat.{◌-◌, ◌%◌}
use native.Mathlib.Omega.{arith}
use Rattle.lifting.specs.Grid.{side, place}
use Rattle.nine_seven_sweep.proofs.CallLaws.{high-made, high-early}
use Rattle.nine_seven_sweep.proofs.back.unpredict_behind.Goals as goal

pub overflow_sub-behind : goal.overflow_sub-behind
overflow_sub-behind c = omega arith

pub returns-then-n-behind : goal.returns-then-n-behind
returns-then-n-behind c =
    let a = c.args in
    high-early (place (side a.y a.height)) _ _ _ (side a.y a.height) a.n (2 - a.y % 2) _ _ (omega arith)

pub unpredict-requires : goal.unpredict-requires
unpredict-requires c = (omega arith, omega arith, omega arith)

pub shape_of-area : goal.shape_of-area
shape_of-area c = c.unpredict.auto.area

pub returns : goal.returns
returns c =
    let a = c.args in
    high-made (place (side a.y a.height)) _ _ _ (side a.y a.height) a.n (2 - a.y % 2) _ _ _ (omega arith) (omega arith)
    c.unpredict.ensures
