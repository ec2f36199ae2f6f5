use mathlib.Core.Path.{◌∙◌}
use Rattle.nine_seven_sweep.proofs.LoopLaws.{lower-count, lowering, lower-room, lower-again, lower-done, lower-all}
use Rattle.nine_seven_sweep.proofs.back.unlift_rows.Goals as goal

pub overflow_sub-last : goal.overflow_sub-last
overflow_sub-last c = (lower-count c.args.y c.args.height _ c.requires.1 c.lows.ensures c.ranges.height).0

pub overflow_add-last : goal.overflow_add-last
overflow_add-last c = (lower-count c.args.y c.args.height _ c.requires.1 c.lows.ensures c.ranges.height).1

pub overflow_sub-last-2 : goal.overflow_sub-last-2
overflow_sub-last-2 c = (lower-count c.args.y c.args.height _ c.requires.1 c.lows.ensures c.ranges.height).2

pub loop-n-init : goal.loop-n-init
loop-n-init c = lowering _ _ _ _ _ _ c.requires.1 c.requires.0 c.ranges.height c.lows.ensures

pub unlift_turn-requires : goal.unlift_turn-requires
unlift_turn-requires c =
    let v = c.loop-n.invariant in
    let m = lower-room v _ v.within in
    (v.more, m.0, m.1)

pub loop-n-preserved : goal.loop-n-preserved
loop-n-preserved c =
    lower-again c.loop-n.invariant c.unlift_turn.new.area c.loop-n-test.true c.unlift_turn.auto.area
    c.unlift_turn.ensures

pub unlift_turn-requires-2 : goal.unlift_turn-requires-2
unlift_turn-requires-2 c =
    let v = c.loop-n.invariant in
    let m = lower-all v in
    (v.more, m.0, m.1)

pub shape_of-area : goal.shape_of-area
shape_of-area c = c.unlift_turn-2.auto.area ∙ c.loop-n.invariant.size

pub returns : goal.returns
returns c =
    lower-done c.loop-n.invariant c.unlift_turn-2.new.area c.loop-n-test.false c.unlift_turn-2.ensures
