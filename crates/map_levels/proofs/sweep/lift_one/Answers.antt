-- `sweep::lift_one` meets its contract: the row laid, lifted, and its low-low part saved. Assumes nothing.
use mathlib.Core.Path.{◌∙◌}
use Rattle.lifting.specs.Grid.{side}
use Rattle.map_levels.proofs.GridSweep.{rows-kept}
use Rattle.map_levels.proofs.SweepLevels.{low-room, one-swept}
use Rattle.map_levels.proofs.sweep.lift_one.Goals as goal

pub lay_one-requires : goal.lay_one-requires
lay_one-requires c = (c.requires.0, c.requires.1)

pub lift_one-requires : goal.lift_one-requires
lift_one-requires c =
    (rows-kept c.lay_one.auto.plane c.requires.0.plane, c.requires.2)

pub save_low-requires : goal.save_low-requires
save_low-requires c = (
  rows-kept (c.lift_one.auto.area ∙ c.lay_one.auto.plane) c.requires.0.plane,
  low-room _ (side c.args.sides.x c.args.sides.width) (side c.args.sides.y c.args.sides.height) c.requires.0.work,
)

pub shape_of-plane : goal.shape_of-plane
shape_of-plane c =
    c.lift_one.auto.area ∙ c.lay_one.auto.plane

pub shape_of-work : goal.shape_of-work
shape_of-work c = c.save_low.auto.work

pub returns : goal.returns
returns c =
    let a = c.args in
    let P = c.requires.0.plane in
    one-swept a.first a.across (side a.sides.x a.sides.width) (side a.sides.y a.sides.height) _ _ _ _ _ _ P.wide P.apart c.lay_one.ensures
    c.lift_one.ensures c.save_low.ensures
