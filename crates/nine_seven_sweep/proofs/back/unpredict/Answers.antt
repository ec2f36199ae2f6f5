-- `back::unpredict` meets its contract: the call by the rows that it goes by. Assumes nothing.
use Prim.Native.Nat.{◌-◌, ◌%◌}
use native.Mathlib.Omega.{arith}
use Rattle.lifting.specs.Grid.{side}
use Rattle.nine_seven.proofs.NearLaws.{around-few}
use Rattle.nine_seven.specs.Near.{Around}
use Rattle.nine_seven_sweep.proofs.CallLaws.{lows-within, high-room, few-other, HighPlaces, high-places, high-in-order}
use Rattle.nine_seven_sweep.proofs.back.unpredict.Goals as goal

pub overflow_sub-height : goal.overflow_sub-height
overflow_sub-height c = let a = c.args in lows-within (side a.y a.height) _ c.lows-low.ensures

pub overflow_sub-b : goal.overflow_sub-b
overflow_sub-b c = omega arith

pub overflow_mul-n : goal.overflow_mul-n
overflow_mul-n c =
    let by : (Around c.lows-low.result (c.args.height - c.lows-low.result) (1 - c.args.y % 2) c.args.n c.around-by.result.left
    c.around-by.result.right c.around-by.result.before c.around-by.result.after) = around-few _ c.around-by.ensures (few-other c.args.y) (high-room (side c.args.y c.args.height) _ c.args.n c.lows-low.ensures c.requires.1) in
    let rooms : (HighPlaces (c.args.y % 2) c.args.n c.around-by.result.left c.around-by.result.right c.around-by.result.before c.around-by.result.after) = high-places (side c.args.y c.args.height) c.ranges.height _ c.args.n c.requires.0 c.lows-low.ensures _ _ _ _ (by) c.requires.1 in
    (rooms).0.0

pub overflow_sub-b-2 : goal.overflow_sub-b-2
overflow_sub-b-2 c = omega arith

pub overflow_add-n : goal.overflow_add-n
overflow_add-n c =
    let by : (Around c.lows-low.result (c.args.height - c.lows-low.result) (1 - c.args.y % 2) c.args.n c.around-by.result.left
    c.around-by.result.right c.around-by.result.before c.around-by.result.after) = around-few _ c.around-by.ensures (few-other c.args.y) (high-room (side c.args.y c.args.height) _ c.args.n c.lows-low.ensures c.requires.1) in
    let rooms : (HighPlaces (c.args.y % 2) c.args.n c.around-by.result.left c.around-by.result.right c.around-by.result.before c.around-by.result.after) = high-places (side c.args.y c.args.height) c.ranges.height _ c.args.n c.requires.0 c.lows-low.ensures _ _ _ _ (by) c.requires.1 in
    (rooms).0.1

pub overflow_mul-by : goal.overflow_mul-by
overflow_mul-by c =
    let by : (Around c.lows-low.result (c.args.height - c.lows-low.result) (1 - c.args.y % 2) c.args.n c.around-by.result.left
    c.around-by.result.right c.around-by.result.before c.around-by.result.after) = around-few _ c.around-by.ensures (few-other c.args.y) (high-room (side c.args.y c.args.height) _ c.args.n c.lows-low.ensures c.requires.1) in
    let rooms : (HighPlaces (c.args.y % 2) c.args.n c.around-by.result.left c.around-by.result.right c.around-by.result.before c.around-by.result.after) = high-places (side c.args.y c.args.height) c.ranges.height _ c.args.n c.requires.0 c.lows-low.ensures _ _ _ _ (by) c.requires.1 in
    (rooms).1.0

pub overflow_add-by : goal.overflow_add-by
overflow_add-by c =
    let by : (Around c.lows-low.result (c.args.height - c.lows-low.result) (1 - c.args.y % 2) c.args.n c.around-by.result.left
    c.around-by.result.right c.around-by.result.before c.around-by.result.after) = around-few _ c.around-by.ensures (few-other c.args.y) (high-room (side c.args.y c.args.height) _ c.args.n c.lows-low.ensures c.requires.1) in
    let rooms : (HighPlaces (c.args.y % 2) c.args.n c.around-by.result.left c.around-by.result.right c.around-by.result.before c.around-by.result.after) = high-places (side c.args.y c.args.height) c.ranges.height _ c.args.n c.requires.0 c.lows-low.ensures _ _ _ _ (by) c.requires.1 in
    (rooms).1.1

pub overflow_mul-by-2 : goal.overflow_mul-by-2
overflow_mul-by-2 c =
    let by : (Around c.lows-low.result (c.args.height - c.lows-low.result) (1 - c.args.y % 2) c.args.n c.around-by.result.left
    c.around-by.result.right c.around-by.result.before c.around-by.result.after) = around-few _ c.around-by.ensures (few-other c.args.y) (high-room (side c.args.y c.args.height) _ c.args.n c.lows-low.ensures c.requires.1) in
    let rooms : (HighPlaces (c.args.y % 2) c.args.n c.around-by.result.left c.around-by.result.right c.around-by.result.before c.around-by.result.after) = high-places (side c.args.y c.args.height) c.ranges.height _ c.args.n c.requires.0 c.lows-low.ensures _ _ _ _ (by) c.requires.1 in
    (rooms).2.0

pub overflow_add-by-2 : goal.overflow_add-by-2
overflow_add-by-2 c =
    let by : (Around c.lows-low.result (c.args.height - c.lows-low.result) (1 - c.args.y % 2) c.args.n c.around-by.result.left
    c.around-by.result.right c.around-by.result.before c.around-by.result.after) = around-few _ c.around-by.ensures (few-other c.args.y) (high-room (side c.args.y c.args.height) _ c.args.n c.lows-low.ensures c.requires.1) in
    let rooms : (HighPlaces (c.args.y % 2) c.args.n c.around-by.result.left c.around-by.result.right c.around-by.result.before c.around-by.result.after) = high-places (side c.args.y c.args.height) c.ranges.height _ c.args.n c.requires.0 c.lows-low.ensures _ _ _ _ (by) c.requires.1 in
    (rooms).2.1

pub overflow_mul-by-3 : goal.overflow_mul-by-3
overflow_mul-by-3 c =
    let by : (Around c.lows-low.result (c.args.height - c.lows-low.result) (1 - c.args.y % 2) c.args.n c.around-by.result.left
    c.around-by.result.right c.around-by.result.before c.around-by.result.after) = around-few _ c.around-by.ensures (few-other c.args.y) (high-room (side c.args.y c.args.height) _ c.args.n c.lows-low.ensures c.requires.1) in
    let rooms : (HighPlaces (c.args.y % 2) c.args.n c.around-by.result.left c.around-by.result.right c.around-by.result.before c.around-by.result.after) = high-places (side c.args.y c.args.height) c.ranges.height _ c.args.n c.requires.0 c.lows-low.ensures _ _ _ _ (by) c.requires.1 in
    (rooms).3.0

pub overflow_add-by-3 : goal.overflow_add-by-3
overflow_add-by-3 c =
    let by : (Around c.lows-low.result (c.args.height - c.lows-low.result) (1 - c.args.y % 2) c.args.n c.around-by.result.left
    c.around-by.result.right c.around-by.result.before c.around-by.result.after) = around-few _ c.around-by.ensures (few-other c.args.y) (high-room (side c.args.y c.args.height) _ c.args.n c.lows-low.ensures c.requires.1) in
    let rooms : (HighPlaces (c.args.y % 2) c.args.n c.around-by.result.left c.around-by.result.right c.around-by.result.before c.around-by.result.after) = high-places (side c.args.y c.args.height) c.ranges.height _ c.args.n c.requires.0 c.lows-low.ensures _ _ _ _ (by) c.requires.1 in
    (rooms).3.1

pub overflow_mul-by-4 : goal.overflow_mul-by-4
overflow_mul-by-4 c =
    let by : (Around c.lows-low.result (c.args.height - c.lows-low.result) (1 - c.args.y % 2) c.args.n c.around-by.result.left
    c.around-by.result.right c.around-by.result.before c.around-by.result.after) = around-few _ c.around-by.ensures (few-other c.args.y) (high-room (side c.args.y c.args.height) _ c.args.n c.lows-low.ensures c.requires.1) in
    let rooms : (HighPlaces (c.args.y % 2) c.args.n c.around-by.result.left c.around-by.result.right c.around-by.result.before c.around-by.result.after) = high-places (side c.args.y c.args.height) c.ranges.height _ c.args.n c.requires.0 c.lows-low.ensures _ _ _ _ (by) c.requires.1 in
    (rooms).4.0

pub overflow_add-by-4 : goal.overflow_add-by-4
overflow_add-by-4 c =
    let by : (Around c.lows-low.result (c.args.height - c.lows-low.result) (1 - c.args.y % 2) c.args.n c.around-by.result.left
    c.around-by.result.right c.around-by.result.before c.around-by.result.after) = around-few _ c.around-by.ensures (few-other c.args.y) (high-room (side c.args.y c.args.height) _ c.args.n c.lows-low.ensures c.requires.1) in
    let rooms : (HighPlaces (c.args.y % 2) c.args.n c.around-by.result.left c.around-by.result.right c.around-by.result.before c.around-by.result.after) = high-places (side c.args.y c.args.height) c.ranges.height _ c.args.n c.requires.0 c.lows-low.ensures _ _ _ _ (by) c.requires.1 in
    (rooms).4.1

pub shape_of-area : goal.shape_of-area
shape_of-area c = c.unpredict_row.auto.area

pub returns : goal.returns
returns c =
    let by : (Around c.lows-low.result (c.args.height - c.lows-low.result) (1 - c.args.y % 2) c.args.n c.around-by.result.left
    c.around-by.result.right c.around-by.result.before c.around-by.result.after) = around-few _ c.around-by.ensures (few-other c.args.y) (high-room (side c.args.y c.args.height) _ c.args.n c.lows-low.ensures c.requires.1) in
    high-in-order _ _ _ (side c.args.y c.args.height) c.args.n _ _ _ c.lows-low.ensures _ _ _ _ _ (by) c.unpredict_row.ensures.area_after
