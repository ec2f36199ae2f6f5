-- `synthesis::rows::take_low_row` meets its contract: the row interleaved down. Assumes nothing.
use mathlib.Core.Path.{◌≡◌, ◌∙◌, ap, ap₂}
use Prim.Native.Nat.{ℕ, ◌+◌, ◌-◌, ◌*◌, ◌%◌, ◌≤◌}
use native.Mathlib.Nat.{mul-le-mul_left}
use native.Mathlib.Omega.{arith}
use lib.ListN.{length}
use Rattle.areas.proofs.AreaLaws.{did, apart_in}
use Rattle.lifting.specs.Line.{lo}
use Rattle.lifting.specs.Grid.{side, count}
use Rattle.lifting.proofs.GridLaws.{counts}
use Rattle.filters.specs.Filters.{filter_of}
use Rattle.wavelet.specs.Levels.{next}
use Rattle.level.proofs.WorkLaws.{low-row, low-taken}
use Rattle.synthesis.proofs.CallLaws.{room_small}
use Rattle.synthesis.proofs.rows.take_low_row.Goals as goal

pub overflow_mul-from : goal.overflow_mul-from
overflow_mul-from c =
    let a = c.args in
    omega (arith, ap (λ (i : ℕ). i * a.w) c.rows_kept.ensures, room_small a.filter a.w c.requires.0)

pub row_place-requires : goal.row_place-requires
row_place-requires c =
    let a = c.args in
    omega (arith, c.low_count-low.ensures, counts (side a.x a.w))

pub overflow_add-from : goal.overflow_add-from
overflow_add-from c =
    let a = c.args in
    omega (arith, c.row_place.ensures.2, ap (λ (i : ℕ). i * a.w) c.rows_kept.ensures, room_small a.filter a.w c.requires.0)

pub shape_of-stretch : goal.shape_of-stretch
shape_of-stretch c = c.interleave_down.auto.area

pub returns : goal.returns
unfolding next
returns c =
    let a = c.args in
    let m = (filter_of a.filter).rows in
    let sum = counts (side a.x a.w) in
    let l = c.low_count-low.result in
    let e = c.low_count-low.ensures in
    let rows : c.rows_kept.result * a.w ≡ m * a.w = ap (λ (i : ℕ). i * a.w) c.rows_kept.ensures in
    let lows : m * l ≡ m * count lo (side a.x a.w) = ap (λ (i : ℕ). m * i) e in
    let place = c.rows_kept.result * a.w + c.row_place.result in
    let room = apart_in (length a.stretch.now) place c.row_place-to.result l
    (omega (arith, e, rows, c.row_place-to.ensures.1)) (omega (arith, e, rows, lows, c.row_place.ensures.1, c.requires.1)) in
    did _ _ _ _ room c.interleave_down.ensures.area
    ∙ low-taken m (side a.x a.w) (side a.y a.h) a.n _ _ _ _ _ _ e (c.next_start.ensures a.w)
    (low-row a.y a.n _ (omega arith) c.low_row.ensures)
    (ap₂ (λ (i j : ℕ). i + j) rows c.row_place.ensures.0) c.row_place-to.ensures.0
