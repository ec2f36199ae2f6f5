-- `rebuild` meets its contract: it is one of two calls. Assumes nothing.
use Rattle.map_levels.proofs.ByFilterLaws.{five-levels, nine-levels, ranged-five-three, map-five-three, map-nine-seven}
use Rattle.map_levels.proofs.rebuild.Goals as goal

pub rebuild_swept-requires : goal.rebuild_swept-requires
rebuild_swept-requires c =
    let p = c.requires in
    (p.0, p.1, p.2, p.3, five-levels _ _ c.if-filter-eq0.true p.4, ranged-five-three _ _ _ _ _ c.if-filter-eq0.true p.5)

pub shape_of-heights-then-filter-eq0 : goal.shape_of-heights-then-filter-eq0
shape_of-heights-then-filter-eq0 c = c.rebuild_swept.auto.heights

pub shape_of-work-then-filter-eq0 : goal.shape_of-work-then-filter-eq0
shape_of-work-then-filter-eq0 c = c.rebuild_swept.auto.work

pub returns-then-filter-eq0 : goal.returns-then-filter-eq0
returns-then-filter-eq0 c =
    map-five-three _ _ _ _ _ _ _ _ _ _ c.if-filter-eq0.true c.rebuild_swept.ensures

pub rebuild_rows-requires : goal.rebuild_rows-requires
rebuild_rows-requires c =
    let p = c.requires in
    (p.0, p.1, p.2, p.3, nine-levels _ _ c.if-filter-eq0.false p.4)

pub shape_of-heights : goal.shape_of-heights
shape_of-heights c = c.rebuild_rows.auto.heights

pub shape_of-work : goal.shape_of-work
shape_of-work c = c.rebuild_rows.auto.work

pub returns : goal.returns
returns c =
    map-nine-seven _ _ _ _ _ _ _ _ _ _ c.if-filter-eq0.false c.rebuild_rows.ensures
