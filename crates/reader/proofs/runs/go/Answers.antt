use mathlib.Core.Path.{refl, ◌∙◌}
use Rattle.reader.proofs.RunOver.{going_start, going-ready, going_less, going_on, going-over, none-is}
use Rattle.reader.proofs.runs.go.Goals as goal

pub loop-s-init : goal.loop-s-init
loop-s-init c =
    let a = c.args in
    let p = c.requires in
    going_start a.s a.store.now a.run.now a.out.now _ refl refl refl p.3 p.4 p.0 p.1 p.2

pub one_turn-t-requires : goal.one_turn-t-requires
one_turn-t-requires c =
    going-ready _ _ _ _ _ _ _ c.loop-s.invariant _ c.reader_at.ensures

pub loop-s-smaller : goal.loop-s-smaller
loop-s-smaller c =
    going_less _ _ _ _ _ _ _ c.loop-s.invariant _ c.reader_at.ensures c.one_turn-t.new.store c.one_turn-t.new.out
    c.one_turn-t.result c.one_turn-t.ensures.turned (none-is _ _ c.is_none.ensures ∙ c.loop-s-test.true)

pub loop-s-preserved : goal.loop-s-preserved
loop-s-preserved c =
    going_on _ _ _ _ _ _ _ c.loop-s.invariant _ c.reader_at.ensures c.one_turn-t.new.store c.one_turn-t.new.out
    c.one_turn-t.result c.one_turn-t.ensures.turned c.one_turn-t.ensures.own c.one_turn-t.auto.store c.one_turn-t.auto.out

pub shape_of-store : goal.shape_of-store
shape_of-store c = c.loop-s.invariant.size

pub shape_of-out : goal.shape_of-out
shape_of-out c = c.loop-s.invariant.out-size

pub returns : goal.returns
returns c = going-over _ _ _ _ _ _ _ c.loop-s.invariant (none-is _ _ c.is_none.ensures ∙ c.loop-s-test.false)
