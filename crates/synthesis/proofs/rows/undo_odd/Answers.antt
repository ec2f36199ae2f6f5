-- `synthesis::rows::undo_odd` meets its contract: the filter's own row call, on slots. Assumes nothing.
use mathlib.Core.Path.{◌∙◌}
use native.Mathlib.Omega.{arith}
use Rattle.lifting.specs.Grid.{side}
use Rattle.synthesis.proofs.CallLaws.{odd-first, odd-second}
use Rattle.synthesis.proofs.rows.undo_odd.Goals as goal

pub shape_of-stretch-then-filter-eq0 : goal.shape_of-stretch-then-filter-eq0
shape_of-stretch-then-filter-eq0 c = c.change_row.auto.area

pub returns-then-filter-eq0 : goal.returns-then-filter-eq0
returns-then-filter-eq0 c =
    let a = c.args in
    c.change_row.ensures.area_after
    ∙ odd-first a.w (side a.y a.h) a.q _ _ _ _ c.row_before-a.ensures.0 c.row_after-b.ensures.0 a.filter c.if-filter-eq0.true
    c.requires.1

pub shape_of-stretch : goal.shape_of-stretch
shape_of-stretch c = c.unpredict_row.auto.area

pub returns : goal.returns
returns c =
    let a = c.args in
    c.unpredict_row.ensures.area_after
    ∙ odd-second a.w (side a.y a.h) a.q _ _ _ _ c.row_before-a.ensures.0 c.row_after-b.ensures.0 a.filter _ _ c.if-filter-eq0.false
    c.requires.1 c.row_before-c.ensures.0 c.row_after-e.ensures.0
