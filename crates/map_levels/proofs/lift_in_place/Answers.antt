-- `lift_in_place` meets its contract: the rows loaded are the map, and the levels write its plane. Assumes nothing.
use mathlib.Core.Path.{◌∙◌}
use native.Mathlib.Omega.{arith}
use Rattle.lifting.specs.Grid.{side}
use Rattle.nine_seven.specs.NineSevenFilter.{nine_seven_filter}
use Rattle.nine_seven.proofs.NineSevenFilter.{nine-seven-laws}
use Rattle.map_levels.proofs.CallLaws.{map-rows, plane-loaded}
use Rattle.map_levels.proofs.lift_in_place.Goals as goal

pub load_rows-requires : goal.load_rows-requires
load_rows-requires c =
    (map-rows _ _ _ _ c.requires.0 c.requires.1, map-rows _ _ _ _ c.requires.0 c.requires.2)

pub forward_levels-requires : goal.forward_levels-requires
forward_levels-requires c =
    let s = c.requires.0 in
    (rw c.load_rows.auto.plane (map-rows _ _ _ _ s c.requires.2), map-rows _ _ _ _ s c.requires.3, omega (arith, s.levels.0))

pub shape_of-plane : goal.shape_of-plane
shape_of-plane c = c.forward_levels.auto.plane ∙ c.load_rows.auto.plane

pub shape_of-work : goal.shape_of-work
shape_of-work c = c.forward_levels.auto.work

pub returns : goal.returns
returns c =
    let a = c.args in
    record {
      plane_after = plane-loaded nine_seven_filter nine-seven-laws (side a.sides.x a.sides.width) (side a.sides.y a.sides.height) a.levels a.heights.now _ _ c.requires.0
          c.load_rows.ensures _ c.forward_levels.ensures.plane_after;
      kept_from = c.forward_levels.ensures.kept_from;
    }
