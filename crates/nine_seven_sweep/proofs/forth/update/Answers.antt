-- `forth::update` meets its contract: the call by the rows that it goes by. Assumes nothing.
use Rattle.lifting.specs.Grid.{side}
use Rattle.nine_seven.proofs.NearLaws.{beside-few}
use Rattle.nine_seven_sweep.proofs.CallLaws.{lows-within, few, low_sums, low-in-halves}
use Rattle.nine_seven_sweep.proofs.forth.update.Goals as goal

pub overflow_sub-height : goal.overflow_sub-height
overflow_sub-height c = let a = c.args in lows-within (side a.y a.height) _ c.lows-low.ensures

pub overflow_add-low : goal.overflow_add-low
overflow_add-low c =
    (low_sums (side c.args.y c.args.height) c.ranges.height _ c.args.n c.requires.0 c.lows-low.ensures _ _
    (beside-few _ c.beside-by.ensures (few c.args.y))).0

pub overflow_add-low-2 : goal.overflow_add-low-2
overflow_add-low-2 c =
    (low_sums (side c.args.y c.args.height) c.ranges.height _ c.args.n c.requires.0 c.lows-low.ensures _ _
    (beside-few _ c.beside-by.ensures (few c.args.y))).1

pub shape_of-area : goal.shape_of-area
shape_of-area c = c.update_row.auto.area

pub returns : goal.returns
returns c =
    low-in-halves _ _ _ (side c.args.y c.args.height) c.args.n _ _ _ c.lows-low.ensures _ _ _
    (beside-few _ c.beside-by.ensures (few c.args.y)) c.update_row.ensures.area_after
