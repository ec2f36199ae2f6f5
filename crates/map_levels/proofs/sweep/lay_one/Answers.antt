-- `sweep::lay_one` meets its contract: it is one of two calls. Assumes nothing.
use Rattle.lifting.specs.Grid.{side}
use Rattle.map_levels.proofs.SweepLevels.{rows-first, laid-first, laid-work}
use Rattle.map_levels.proofs.sweep.lay_one.Goals as goal

pub load_rows-requires : goal.load_rows-requires
load_rows-requires c =
    let R = c.requires.0 in
    let e = c.if-first.true in
    let f = c.requires.1 e in
    (rows-first _ _ _ _ _ e R.source, rw f at R.plane)

pub shape_of-plane-then-first : goal.shape_of-plane-then-first
shape_of-plane-then-first c = c.load_rows.auto.plane

pub returns-then-first : goal.returns-then-first
returns-then-first c =
    let a = c.args in
    let e = c.if-first.true in
    laid-first _ a.across (side a.sides.x a.sides.width) (side a.sides.y a.sides.height) _ _ _ _ e (c.requires.1 e) c.load_rows.ensures

pub spread-requires : goal.spread-requires
spread-requires c = let R = c.requires.0 in (R.work, R.plane)

pub shape_of-plane : goal.shape_of-plane
shape_of-plane c = c.spread.auto.plane

pub returns : goal.returns
returns c =
    let a = c.args in
    laid-work _ a.across (side a.sides.x a.sides.width) (side a.sides.y a.sides.height) _ _ _ _ c.if-first.false c.spread.ensures
