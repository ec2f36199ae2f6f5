-- `nine_seven_levels::nine_seven_back` meets its contract: rows that are no lines turn it away; else the three passes. Assumes nothing.
use mathlib.Core.Path.{sym, ◌∙◌}
use native.Mathlib.Omega.{arith}
use borrow.Author.Tests.{not-true, not-false}
use Rattle.lifting.specs.Grid.{side}
use Rattle.lifting.proofs.GridLaws.{counts}
use Rattle.map_levels.proofs.GridSweep.{rows-kept}
use Rattle.map_levels.proofs.NineSevenBack.{nine-none, fetched-even, nine-made}
use Rattle.map_levels.proofs.nine_seven_levels.nine_seven_back.Goals as goal

pub returns-then-not-rows_even : goal.returns-then-not-rows_even
returns-then-not-rows_even c =
    let pre = c.requires in
    nine-none _ _ _ _ _ _ _ _ pre.work pre.few _ c.rows_even.ensures (not-true _ c.if-not-rows_even.true-raw)

pub copy_rows-requires : goal.copy_rows-requires
copy_rows-requires c =
    let pre = c.requires in
    (pre.plane, pre.work, omega (arith, pre.few, counts (side c.args.sides.x c.args.sides.width)))

pub unlift_rows-requires : goal.unlift_rows-requires
unlift_rows-requires c =
    let a = c.args in
    let pre = c.requires in
    let R = rows-kept c.copy_rows.auto.work pre.work in (
      R,
      fetched-even _ a.stride a.across _ (side a.sides.x a.sides.width) (side a.sides.y a.sides.height) _ _ R pre.few _ c.copy_rows.ensures
          (sym c.rows_even.ensures ∙ not-false _ c.if-not-rows_even.false-raw),
    )

pub shape_of-work : goal.shape_of-work
shape_of-work c =
    c.unlift_columns.auto.area ∙ c.unlift_rows.auto.work ∙ c.copy_rows.auto.work

pub returns : goal.returns
returns c =
    let a = c.args in
    let pre = c.requires in
    let R = rows-kept (c.unlift_rows.auto.work ∙ c.copy_rows.auto.work) pre.work in
    nine-made _ a.stride a.across _ (side a.sides.x a.sides.width) (side a.sides.y a.sides.height) _ _ R pre.few _ c.copy_rows.ensures
    (sym c.rows_even.ensures ∙ not-false _ c.if-not-rows_even.false-raw) _ _ c.unlift_rows.ensures _ c.unlift_columns.ensures.answer
    c.unlift_columns.ensures.area
