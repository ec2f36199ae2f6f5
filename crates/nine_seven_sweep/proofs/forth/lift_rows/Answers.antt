use Rattle.nine_seven_sweep.proofs.LoopLaws.{raise-count, raising, raise-room, raise-again, raise-done}
use Rattle.nine_seven_sweep.proofs.forth.lift_rows.Goals as goal

pub overflow_add-end : goal.overflow_add-end
overflow_add-end c = (raise-count c.args.y c.args.height _ c.requires.1 c.lows.ensures c.ranges.height).0

pub overflow_add-end-2 : goal.overflow_add-end-2
overflow_add-end-2 c = (raise-count c.args.y c.args.height _ c.requires.1 c.lows.ensures c.ranges.height).1

pub loop-n-init : goal.loop-n-init
loop-n-init c = raising _ _ _ _ _ _ c.requires.1 c.requires.0 c.ranges.height c.lows.ensures

pub predict_next-requires : goal.predict_next-requires
predict_next-requires c = c.loop-n.invariant.more

pub update_behind-requires : goal.update_behind-requires
update_behind-requires c =
    let v = c.loop-n.invariant in
    (v.more, raise-room v c.loop-n-test.true)

pub loop-n-preserved : goal.loop-n-preserved
loop-n-preserved c =
    raise-again c.loop-n.invariant c.predict_next.new.area c.update_behind.new.area c.loop-n-test.true
    c.predict_next.auto.area c.update_behind.auto.area c.predict_next.ensures c.update_behind.ensures

pub shape_of-area : goal.shape_of-area
shape_of-area c = c.loop-n.invariant.size

pub returns : goal.returns
returns c = raise-done c.loop-n.invariant c.loop-n-test.false
