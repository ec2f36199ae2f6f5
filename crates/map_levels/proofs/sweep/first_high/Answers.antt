-- `sweep::first_high` meets its contract: the first high row is made, and put where it comes first. Assumes nothing.
use mathlib.Core.Path.{refl}
use Prim.Native.Nat.{◌-◌, ◌%◌}
use native.Mathlib.Omega.{arith}
use Rattle.numbers.specs.Signal.{at}
use Rattle.lifting.specs.Grid.{side}
use Rattle.areas.specs.Areas.{heights_at}
use Rattle.map_levels.specs.Sweep.{source_grid}
use Rattle.map_levels.proofs.GridSweep.{row_room}
use Rattle.map_levels.proofs.SweepSets.{made_as, first-low, first-high}
use Rattle.map_levels.proofs.sweep.first_high.Goals as goal

pub overflow_sub-b : goal.overflow_sub-b
overflow_sub-b c = omega arith

pub first_other-requires : goal.first_other-requires
first_other-requires c = c.requires.0.more

pub lift_columns-requires : goal.lift_columns-requires
lift_columns-requires c =
    let R = c.requires.0.area.source in
    let m = c.requires.0.more in (
      row_room _ _ _ _ _ R (omega arith),
      row_room _ _ _ _ _ R (omega arith),
      row_room _ _ _ _ _ R c.first_other.ensures.1,
      c.requires.0.halves,
      c.requires.0.lines,
    )

pub shape_of-lines-then-b-eq0 : goal.shape_of-lines-then-b-eq0
shape_of-lines-then-b-eq0 c = c.lift_columns.auto.lines

pub returns-then-b-eq0 : goal.returns-then-b-eq0
returns-then-b-eq0 c =
    let a = c.args in
    first-low a.first a.across (side a.sides.x a.sides.width) (side a.sides.y a.sides.height) _ _ _ _ _ c.requires.0.more c.requires.0.area.plane.wide c.requires.1
    (made_as _ _ _ (a.sides.y % 2) (1 - a.sides.y % 2) _ _ (source_grid a.first a.sides.width (heights_at a.heights.now) (at a.work.now)) _ _ refl
    c.first_other.ensures.0 c.lift_columns.ensures) c.if-b-eq0.true

pub put_high-requires : goal.put_high-requires
put_high-requires c =
    (rw c.lift_columns.auto.lines c.requires.0.lines, c.requires.0.halves, c.requires.0.area.plane)

pub shape_of-plane : goal.shape_of-plane
shape_of-plane c = c.put_high.auto.plane

pub shape_of-lines : goal.shape_of-lines
shape_of-lines c = c.lift_columns.auto.lines

pub returns : goal.returns
returns c =
    let a = c.args in
    first-high a.first a.across (side a.sides.x a.sides.width) (side a.sides.y a.sides.height) _ _ _ _ _ c.requires.0.more c.requires.0.area.plane.wide c.requires.1
    (made_as _ _ _ (a.sides.y % 2) (1 - a.sides.y % 2) _ _ (source_grid a.first a.sides.width (heights_at a.heights.now) (at a.work.now)) _ _ refl
    c.first_other.ensures.0
    c.lift_columns.ensures) _ c.if-b-eq0.false
    c.put_high.ensures
