-- `reader::runs::one_turn` meets its contract: of a reader without levels, or of one with levels. Assumes nothing.
use native.Mathlib.Omega.{arith}
use Prim.Native.Nat.{◌<◌}
use Rattle.reader.proofs.runs.one_turn.Goals as goal

pub last_turn-requires : goal.last_turn-requires
last_turn-requires c =
    let p = c.requires in
    (c.if-s-eq0.true, p.1 c.if-s-eq0.true, p.2, p.3, p.4, p.5)

pub shape_of-store-then-s-eq0 : goal.shape_of-store-then-s-eq0
shape_of-store-then-s-eq0 c = c.last_turn.auto.store

pub shape_of-out-then-s-eq0 : goal.shape_of-out-then-s-eq0
shape_of-out-then-s-eq0 c = c.last_turn.auto.out

pub returns-then-s-eq0 : goal.returns-then-s-eq0
returns-then-s-eq0 c = record { turned = c.last_turn.ensures.turned; own = c.last_turn.ensures.own }

pub level_turn-requires : goal.level_turn-requires
level_turn-requires c =
    let p = c.requires in
    let some : 0 < c.args.s.levels = omega (arith, c.if-s-eq0.false) in
    (some, (p.0 some).0, (p.0 some).1, p.2, p.3, p.4, p.5)

pub shape_of-store : goal.shape_of-store
shape_of-store c = c.level_turn.auto.store

pub shape_of-out : goal.shape_of-out
shape_of-out c = c.level_turn.auto.out

pub returns : goal.returns
returns c = record { turned = c.level_turn.ensures.turned; own = c.level_turn.ensures.own }
