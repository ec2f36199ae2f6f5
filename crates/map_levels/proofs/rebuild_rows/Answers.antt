-- `rebuild_rows` meets its contract: the levels, and then the rows tested and stored. Assumes nothing.
use mathlib.Core.Path.{◌∙◌}
use native.Mathlib.Omega.{arith}
use borrow.Author.Tests.{not-true, not-false}
use Rattle.nine_seven.specs.NineSevenFilter.{nine_seven_filter}
use Rattle.nine_seven.proofs.NineSevenFilter.{nine-seven-laws}
use Rattle.map_levels.proofs.GridSweep.{rows-kept}
use Rattle.map_levels.proofs.CallLaws.{map-rows, map-doubling, map-no, map-yes}
use Rattle.map_levels.proofs.rebuild_rows.Goals as goal

pub back_levels-requires : goal.back_levels-requires
back_levels-requires c =
    let s = c.requires.0 in
    (map-rows _ _ _ _ s c.requires.1, map-rows _ _ _ _ s c.requires.3, map-doubling _ _ _ s, omega (arith, c.requires.4))

pub shape_of-work-then-not-back_levels : goal.shape_of-work-then-not-back_levels
shape_of-work-then-not-back_levels c = c.back_levels.auto.work

pub returns-then-not-back_levels : goal.returns-then-not-back_levels
returns-then-not-back_levels c =
    map-no nine_seven_filter nine-seven-laws _ _ _ _ _ _ _ c.requires.0 _ (not-true _ c.if-not-back_levels.true-raw)
    c.back_levels.ensures

pub finish_rows-requires : goal.finish_rows-requires
finish_rows-requires c =
    let s = c.requires.0 in
    (rows-kept c.back_levels.auto.work (map-rows _ _ _ _ s c.requires.3), map-rows _ _ _ _ s c.requires.2)

pub shape_of-heights : goal.shape_of-heights
shape_of-heights c = c.finish_rows.auto.heights

pub shape_of-work : goal.shape_of-work
shape_of-work c =
    c.finish_rows.auto.work ∙ c.back_levels.auto.work

pub returns : goal.returns
returns c =
    map-yes nine_seven_filter nine-seven-laws _ _ _ _ _ _ _ c.requires.0 _ _ _ _ (not-false _ c.if-not-back_levels.false-raw)
    c.back_levels.ensures c.finish_rows.ensures
