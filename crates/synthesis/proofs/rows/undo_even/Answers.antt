-- `synthesis::rows::undo_even` meets its contract: the filter's own row call, on slots; an only row stays. Assumes nothing.
use mathlib.Core.Path.{◌∙◌, sym}
use native.Mathlib.Omega.{arith}
use Rattle.lifting.specs.Grid.{side}
use Rattle.synthesis.proofs.CallLaws.{even-one, even-first, even-second}
use Rattle.synthesis.proofs.rows.undo_even.Goals as goal

pub returns-then-h-lt2 : goal.returns-then-h-lt2
returns-then-h-lt2 c = let a = c.args in sym (even-one a.filter a.w (side a.y a.h) a.q _ (omega arith))

pub shape_of-stretch-then-filter-eq0 : goal.shape_of-stretch-then-filter-eq0
shape_of-stretch-then-filter-eq0 c = c.change_row.auto.area

pub returns-then-filter-eq0 : goal.returns-then-filter-eq0
returns-then-filter-eq0 c =
    let a = c.args in
    c.change_row.ensures.area_after
    ∙ even-first a.w (side a.y a.h) a.q _ _ _ _ c.row_before-a.ensures.0 c.row_after-b.ensures.0 a.filter c.if-filter-eq0.true
    (omega arith) c.requires.1

pub shape_of-stretch : goal.shape_of-stretch
shape_of-stretch c = c.unupdate_row.auto.area

pub returns : goal.returns
returns c =
    let a = c.args in
    c.unupdate_row.ensures.area_after
    ∙ even-second a.w (side a.y a.h) a.q _ _ _ _ c.row_before-a.ensures.0 c.row_after-b.ensures.0 a.filter c.if-filter-eq0.false
    (omega arith) c.requires.1
