use Prim.Native.Nat.{◌/◌}
use lib.ListN.{length}
use Rattle.writer.proofs.RunSets.{Going, todo, going_start, going-ready, going-over, going_on, going_less}
use Rattle.writer.proofs.runs.go.Goals as goal

pub loop-t-init : goal.loop-t-init
loop-t-init c = going_start _ _ _ _ _ c.requires

pub one_turn-t-requires : goal.one_turn-t-requires
one_turn-t-requires c = let g = c.loop-t.invariant in
    (going-ready _ _ _ _ _ _ _ _ _ _ _ _ g, g.unfinished, g.within)

pub loop-t-smaller : goal.loop-t-smaller
loop-t-smaller c = going_less _ _ _ _ _ _ _ _ _ _ _ _ c.loop-t.invariant c.one_turn-t.new.store c.one_turn-t.new.out c.one_turn-t.new.names
    c.one_turn-t.result.done c.one_turn-t.result.writer c.one_turn-t.result.on c.one_turn-t.ensures c.one_turn-t.auto.store
    c.one_turn-t.auto.out
    c.one_turn-t.auto.names c.loop-t-test.true

pub loop-t-preserved : goal.loop-t-preserved
loop-t-preserved c = going_on _ _ _ _ _ _ _ _ _ _ _ _ c.loop-t.invariant c.one_turn-t.new.store c.one_turn-t.new.out c.one_turn-t.new.names
    c.one_turn-t.result.done c.one_turn-t.result.writer c.one_turn-t.result.on c.one_turn-t.ensures c.one_turn-t.auto.store
    c.one_turn-t.auto.out
    c.one_turn-t.auto.names

pub shape_of-store : goal.shape_of-store
shape_of-store c = c.loop-t.invariant.size

pub shape_of-out : goal.shape_of-out
shape_of-out c = c.loop-t.invariant.out-size

pub shape_of-names : goal.shape_of-names
shape_of-names c = c.loop-t.invariant.names-size

pub returns : goal.returns
returns c = going-over _ _ _ _ _ _ _ _ _ _ _ _ c.loop-t.invariant c.loop-t-test.false
