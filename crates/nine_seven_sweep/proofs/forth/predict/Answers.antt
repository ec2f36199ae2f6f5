-- `forth::predict` meets its contract: the call by the rows that it goes by. Assumes nothing.
use native.Mathlib.Omega.{arith}
use Rattle.lifting.specs.Grid.{side}
use Rattle.nine_seven.proofs.NearLaws.{around-few}
use Rattle.nine_seven_sweep.proofs.CallLaws.{lows-within, high-room, few-other, sum-there, high-in-halves}
use Rattle.nine_seven_sweep.proofs.forth.predict.Goals as goal

pub overflow_sub-height : goal.overflow_sub-height
overflow_sub-height c = let a = c.args in lows-within (side a.y a.height) _ c.lows-low.ensures

pub overflow_sub-y : goal.overflow_sub-y
overflow_sub-y c = omega arith

pub overflow_add-low : goal.overflow_add-low
overflow_add-low c =
    sum-there (side c.args.y c.args.height) c.ranges.height _ c.args.n c.lows-low.ensures c.requires.1

pub shape_of-area : goal.shape_of-area
shape_of-area c = c.predict_row.auto.area

pub returns : goal.returns
returns c =
    let a = c.args in
    let e = c.lows-low.ensures in
    high-in-halves _ _ _ (side a.y a.height) a.n _ _ _ e _ _ _ _ _
    (around-few _ c.around-by.ensures (few-other a.y) (high-room (side a.y a.height) _ a.n e c.requires.1)) c.predict_row.ensures.area_after
