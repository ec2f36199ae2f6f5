-- `forth::predict_next` meets its contract, by whether there is such a row. Assumes nothing.
use native.Mathlib.Omega.{arith}
use Rattle.lifting.specs.Grid.{side, count}
use Rattle.nine_seven_sweep.specs.Passes.{in_half}
use Rattle.nine_seven_sweep.proofs.CallLaws.{high-own, high-late}
use Rattle.nine_seven_sweep.proofs.forth.predict_next.Goals as goal

pub overflow_sub-height : goal.overflow_sub-height
unfolding count
overflow_sub-height c = omega (arith, c.lows.ensures)

pub returns-then-height-lows : goal.returns-then-height-lows
unfolding count
returns-then-height-lows c =
    let a = c.args in
    high-late (in_half (side a.y a.height)) _ _ _ (side a.y a.height) a.n 0 _ _ (omega arith) (omega (arith, c.lows.ensures))

pub predict-requires : goal.predict-requires
unfolding count
predict-requires c = (omega arith, omega (arith, c.lows.ensures))

pub shape_of-area : goal.shape_of-area
shape_of-area c = c.predict.auto.area

pub returns : goal.returns
unfolding count
returns c =
    let a = c.args in
    high-own (in_half (side a.y a.height)) _ _ _ (side a.y a.height) a.n _ _ _ (omega (arith, c.lows.ensures))
    c.predict.ensures
