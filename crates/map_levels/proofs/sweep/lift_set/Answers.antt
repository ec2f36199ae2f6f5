-- `sweep::lift_set` meets its contract: the columns, the low row, its low-low numbers and the high row, one after the other. Assumes nothing.
use mathlib.Core.Path.{◌∙◌}
use native.Mathlib.Omega.{arith}
use Rattle.lifting.specs.Grid.{side}
use Rattle.lifting.proofs.GridLaws.{counts, low-place}
use Rattle.wavelet.specs.Limits.{max_width}
use Rattle.map_levels.specs.Sweep.{line_half}
use Rattle.map_levels.proofs.GridSweep.{row_room, rows-kept, few}
use Rattle.map_levels.proofs.SweepSets.{corner-room, set-done}
use Rattle.map_levels.proofs.sweep.lift_set.Goals as goal

pub overflow_mul-n : goal.overflow_mul-n
overflow_mul-n c =
    let a = c.args in omega (arith, low-place (side a.sides.y a.sides.height) a.n c.requires.1, few _ _ _ _ c.requires.0.area.work)

pub overflow_add-n : goal.overflow_add-n
overflow_add-n c =
    let a = c.args in omega (arith, low-place (side a.sides.y a.sides.height) a.n c.requires.1, few _ _ _ _ c.requires.0.area.work)

pub set_columns-requires : goal.set_columns-requires
set_columns-requires c =
    let a = c.args in
    let R = c.requires.0 in
    (R.area.source, low-place (side a.sides.y a.sides.height) a.n c.requires.1, R.halves, R.lines)

pub lay_line-requires : goal.lay_line-requires
unfolding line_half max_width
lay_line-requires c =
    let a = c.args in
    let R = c.requires.0 in
    let k = counts (side a.sides.y a.sides.height) in
    let P = R.area.plane in (
      omega (arith, R.lines, c.set_columns.auto.lines),
      R.halves,
      P.wide,
      row_room _ _ _ _ _ P (omega (
        arith,
        c.requires.1,
      )),
    )

pub lift_row-requires : goal.lift_row-requires
lift_row-requires c =
    let a = c.args in
    let k = counts (side a.sides.y a.sides.height) in
    let P = rows-kept c.lay_line.auto.plane c.requires.0.area.plane in
    (P.wide, row_room _ _ _ _ _ P (omega (arith, c.requires.1)))

pub overflow_mul-n-2 : goal.overflow_mul-n-2
overflow_mul-n-2 c =
    let a = c.args in
    let k = counts (side a.sides.y a.sides.height) in
    omega (arith, row_room _ _ _ _ a.n c.requires.0.area.plane (omega (arith, c.requires.1)))

pub overflow_mul-n-3 : goal.overflow_mul-n-3
overflow_mul-n-3 c =
    let a = c.args in
    rw c.low_count-w.ensures
    (omega (arith, corner-room _ (side a.sides.x a.sides.width) (side a.sides.y a.sides.height) a.n c.requires.0.area.work c.requires.1))

pub copy_part-requires : goal.copy_part-requires
copy_part-requires c =
    let a = c.args in
    let W = side a.sides.x a.sides.width in
    let H = side a.sides.y a.sides.height in
    let k = counts H in
    let l = counts W in
    let low = c.low_count-w.ensures in
    let row = row_room _ _ _ _ a.n c.requires.0.area.plane (omega (arith, c.requires.1)) in
    let kept = c.lift_row.auto.area ∙ c.lay_line.auto.plane in
    (omega (arith, row, low, kept), rw low (corner-room _ W H a.n c.requires.0.area.work c.requires.1))

pub overflow_add-n-2 : goal.overflow_add-n-2
overflow_add-n-2 c =
    let a = c.args in
    omega (arith, low-place (side a.sides.y a.sides.height) a.n c.requires.1, few _ _ _ _ c.requires.0.area.work)

pub put_high-requires : goal.put_high-requires
put_high-requires c =
    let R = c.requires.0 in (
      rw c.set_columns.auto.lines R.lines,
      R.halves,
      rows-kept (c.lift_row.auto.area ∙ c.lay_line.auto.plane) R.area.plane,
    )

pub shape_of-plane : goal.shape_of-plane
shape_of-plane c =
    c.put_high.auto.plane ∙ c.lift_row.auto.area ∙ c.lay_line.auto.plane

pub shape_of-work : goal.shape_of-work
shape_of-work c = c.copy_part.auto.to

pub shape_of-lines : goal.shape_of-lines
shape_of-lines c =
    c.set_columns.auto.lines

pub returns : goal.returns
unfolding line_half max_width
returns c =
    let copied = c.copy_part in
    let made = c.set_columns in
    let a = c.args in
    let W = side a.sides.x a.sides.width in
    let H = side a.sides.y a.sides.height in
    λ z₀ x₀ S.
    set-done a.first a.across W H _ z₀ x₀ a.n _ _ _ S c.requires.0.more c.requires.1 c.requires.0.area.plane.wide _ made.ensures _ _ _
    (λ small. c.lay_line.ensures small _ c.lift_row.ensures) (rw c.low_count-w.ensures at copied.ensures) c.put_high.ensures
