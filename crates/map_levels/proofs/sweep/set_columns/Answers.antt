-- `sweep::set_columns` meets its contract: it is one of two calls. Assumes nothing.
use mathlib.Core.Path.{refl}
use Prim.Native.Nat.{◌+◌}
use native.Mathlib.Omega.{arith}
use borrow.Author.Tests.{le-leb, lt-leb}
use Rattle.numbers.specs.Signal.{at}
use Rattle.areas.specs.Areas.{heights_at}
use Rattle.map_levels.specs.Sweep.{source_grid}
use Rattle.map_levels.proofs.GridSweep.{row_room}
use Rattle.map_levels.proofs.SweepSets.{made_as}
use Rattle.map_levels.proofs.sweep.set_columns.Goals as goal

pub overflow_sub-height : goal.overflow_sub-height
overflow_sub-height c = omega arith

pub end_columns-requires : goal.end_columns-requires
end_columns-requires c = (row_room _ _ _ _ _ c.requires.0 c.requires.1, c.requires.2, c.requires.3)

pub shape_of-lines-then-height-a-le1 : goal.shape_of-lines-then-height-a-le1
shape_of-lines-then-height-a-le1 c = c.end_columns.auto.lines

pub returns-then-height-a-le1 : goal.returns-then-height-a-le1
returns-then-height-a-le1 c =
    let a = c.args in
    made_as _ _ _ a.a (a.a + 1) _ _ (source_grid a.first a.width (heights_at a.heights.now) (at a.work.now)) _ _
    (le-leb a.height (a.a + 1) (omega arith)) refl (c.end_columns.ensures _ _)

pub overflow_add-a : goal.overflow_add-a
overflow_add-a c = omega arith

pub other_low-requires : goal.other_low-requires
other_low-requires c = c.requires.1

pub lift_columns-requires : goal.lift_columns-requires
lift_columns-requires c =
    let r = c.requires.0 in (
      row_room _ _ _ _ _ r c.requires.1,
      row_room _ _ _ _ _ r (omega arith),
      row_room _ _ _ _ _ r c.other_low.ensures.1,
      c.requires.2,
      c.requires.3,
    )

pub shape_of-lines : goal.shape_of-lines
shape_of-lines c = c.lift_columns.auto.lines

pub returns : goal.returns
returns c =
    let a = c.args in
    made_as _ _ _ a.a (a.a + 1) _ _ (source_grid a.first a.width (heights_at a.heights.now) (at a.work.now)) _ _
    (lt-leb a.height (a.a + 1) (omega arith)) c.other_low.ensures.0 c.lift_columns.ensures
