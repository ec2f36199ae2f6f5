-- `levels_back::level_back` meets its contract: rows that are no lines turn it away; one row by itself, more in a sweep. Assumes nothing.
use native.Mathlib.Omega.{arith}
use borrow.Author.Tests.{not-true, not-false}
use Rattle.lifting.specs.Grid.{side}
use Rattle.map_levels.proofs.SweepSets.{lines-enough}
use Rattle.map_levels.proofs.SweepBackGrid.{level-odd, level-one, level-many}
use Rattle.map_levels.proofs.levels_back.level_back.Goals as goal

pub returns-then-not-rows_even : goal.returns-then-not-rows_even
returns-then-not-rows_even c =
    let a = c.args in
    level-odd a.level a.across (side a.sides.x a.sides.width) (side a.sides.y a.sides.height) _ _ _ _ c.rows_even.ensures (not-true _ c.if-not-rows_even.true-raw)

pub one_back-requires : goal.one_back-requires
one_back-requires c =
    (c.requires.0, c.if-sides-lt2.true, c.requires.1)

pub returns-then-sides-lt2 : goal.returns-then-sides-lt2
returns-then-sides-lt2 c =
    let a = c.args in
    level-one a.level a.across (side a.sides.x a.sides.width) (side a.sides.y a.sides.height) _ _ _ _ c.rows_even.ensures (not-false _ c.if-not-rows_even.false-raw) _ _ _
    c.one_back.ensures

pub rows_back-requires : goal.rows_back-requires
rows_back-requires c =
    let R = c.requires.0 in (
      record { area = R.area; wide = R.wide; more = omega arith; lines = R.lines; halves = lines-enough _ R.area.narrow; level = R.level },
      c.requires.1,
    )

pub returns : goal.returns
returns c =
    let a = c.args in
    level-many a.level a.across (side a.sides.x a.sides.width) (side a.sides.y a.sides.height) _ _ _ _ c.rows_even.ensures (not-false _ c.if-not-rows_even.false-raw) _
    _ _
    (omega arith) c.rows_back.ensures
