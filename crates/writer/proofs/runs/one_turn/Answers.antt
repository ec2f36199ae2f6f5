-- `runs::one_turn` meets its contract: an offer where nothing waits, else draws. Assumes nothing.
use Prim.Native.Nat.{◌/◌}
use native.Mathlib.Omega.{arith}
use lib.ListN.{length}
use Rattle.numbers.specs.Signal.{at}
use Rattle.writer.proofs.RunLaws.{set-turned}
use Rattle.writer.proofs.runs.one_turn.Goals as goal

pub take_row-requires : goal.take_row-requires
take_row-requires c = let p = c.requires in
    (p.0.sound, omega arith, p.1, p.2)

pub shape_of-store-then-s-eq0 : goal.shape_of-store-then-s-eq0
shape_of-store-then-s-eq0 c = c.take_row.auto.store

pub returns-then-s-eq0 : goal.returns-then-s-eq0
returns-then-s-eq0 c = let a = c.args in
    let r = c.requires.0 in
    c.take_row.ensures (length a.out.now) (length a.names.now / 4) (at a.out.now) a.names.now r.numbers r.rows

pub draw_set-requires : goal.draw_set-requires
draw_set-requires c = (c.requires.0, omega arith)

pub shape_of-store : goal.shape_of-store
shape_of-store c = c.draw_set.auto.store

pub shape_of-out : goal.shape_of-out
shape_of-out c = c.draw_set.auto.out

pub shape_of-names : goal.shape_of-names
shape_of-names c = c.draw_set.auto.names

pub returns : goal.returns
returns c = set-turned _ _ _ _ _ _ _ c.requires.2
    c.draw_set.ensures
