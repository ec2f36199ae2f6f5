-- `back::unupdate` meets its contract: the call by the rows that it goes by. Assumes nothing.
use Prim.Native.Nat.{◌%◌}
use native.Mathlib.Omega.{arith}
use Rattle.lifting.specs.Grid.{side}
use Rattle.nine_seven.proofs.NearLaws.{beside-few}
use Rattle.nine_seven_sweep.proofs.CallLaws.{lows-within, few, LowPlaces, low-places, low-in-order}
use Rattle.nine_seven_sweep.proofs.back.unupdate.Goals as goal

pub overflow_sub-height : goal.overflow_sub-height
overflow_sub-height c = let a = c.args in lows-within (side a.y a.height) _ c.lows.ensures

pub overflow_mul-n : goal.overflow_mul-n
overflow_mul-n c =
    let rooms : (LowPlaces (c.args.y % 2) c.args.n c.beside-by.result.left c.beside-by.result.right) = low-places (side c.args.y c.args.height) c.ranges.height _ c.args.n c.requires.0 c.lows.ensures _ _
    (beside-few _ c.beside-by.ensures (few c.args.y)) c.requires.1 in
    (rooms).0.0

pub overflow_add-n : goal.overflow_add-n
overflow_add-n c =
    let rooms : (LowPlaces (c.args.y % 2) c.args.n c.beside-by.result.left c.beside-by.result.right) = low-places (side c.args.y c.args.height) c.ranges.height _ c.args.n c.requires.0 c.lows.ensures _ _
    (beside-few _ c.beside-by.ensures (few c.args.y)) c.requires.1 in
    (rooms).0.1

pub overflow_mul-by : goal.overflow_mul-by
overflow_mul-by c =
    let rooms : (LowPlaces (c.args.y % 2) c.args.n c.beside-by.result.left c.beside-by.result.right) = low-places (side c.args.y c.args.height) c.ranges.height _ c.args.n c.requires.0 c.lows.ensures _ _
    (beside-few _ c.beside-by.ensures (few c.args.y)) c.requires.1 in
    (rooms).1.0

pub overflow_sub-b : goal.overflow_sub-b
overflow_sub-b c = omega arith

pub overflow_add-by : goal.overflow_add-by
overflow_add-by c =
    let rooms : (LowPlaces (c.args.y % 2) c.args.n c.beside-by.result.left c.beside-by.result.right) = low-places (side c.args.y c.args.height) c.ranges.height _ c.args.n c.requires.0 c.lows.ensures _ _
    (beside-few _ c.beside-by.ensures (few c.args.y)) c.requires.1 in
    (rooms).1.1

pub overflow_mul-by-2 : goal.overflow_mul-by-2
overflow_mul-by-2 c =
    let rooms : (LowPlaces (c.args.y % 2) c.args.n c.beside-by.result.left c.beside-by.result.right) = low-places (side c.args.y c.args.height) c.ranges.height _ c.args.n c.requires.0 c.lows.ensures _ _
    (beside-few _ c.beside-by.ensures (few c.args.y)) c.requires.1 in
    (rooms).2.0

pub overflow_sub-b-2 : goal.overflow_sub-b-2
overflow_sub-b-2 c = omega arith

pub overflow_add-by-2 : goal.overflow_add-by-2
overflow_add-by-2 c =
    let rooms : (LowPlaces (c.args.y % 2) c.args.n c.beside-by.result.left c.beside-by.result.right) = low-places (side c.args.y c.args.height) c.ranges.height _ c.args.n c.requires.0 c.lows.ensures _ _
    (beside-few _ c.beside-by.ensures (few c.args.y)) c.requires.1 in
    (rooms).2.1

pub shape_of-area : goal.shape_of-area
shape_of-area c = c.unupdate_row.auto.area

pub returns : goal.returns
returns c =
    low-in-order _ _ _ (side c.args.y c.args.height) c.args.n _ _ _ c.lows.ensures _ _ _
    (beside-few _ c.beside-by.ensures (few c.args.y)) c.unupdate_row.ensures.area_after
