-- `synthesis::back::work_length` meets its contract: the rows kept, and below the last level those of the next. Assumes nothing.
use mathlib.Core.Path.{◌≡◌, refl, ap}
use mathlib.Core.Bool.{Bool, true, false}
use Prim.Native.Nat.{ℕ, ◌+◌, ◌*◌}
use native.Mathlib.Omega.{arith}
use Rattle.lifting.specs.Line.{lo}
use Rattle.lifting.specs.Grid.{Side, side, count}
use Rattle.lifting.proofs.GridLaws.{counts}
use Rattle.level.specs.Rebuilding.{work_length_by}
use Rattle.synthesis.proofs.CallLaws.{room_small}
use Rattle.synthesis.proofs.back.work_length.Goals as goal

alone : (m r : ℕ) (last : Bool) (W : Side) → r ≡ m → last ≡ true → r * W.length ≡ work_length_by m last W
alone m r last W er e = rw (er, e) (omega arith)

with-next : (m r : ℕ) (last : Bool) (W : Side) (c : ℕ) → r ≡ m → last ≡ false → c ≡ count lo W → r * W.length + r * c ≡ work_length_by m last W
with-next m r last W c er e is = rw (er, e, is) refl

pub overflow_mul-result : goal.overflow_mul-result
overflow_mul-result c =
    let a = c.args in
    omega (arith, ap (λ (i : ℕ). i * a.w) c.rows_kept-rows.ensures, room_small a.filter a.w (omega arith))

pub returns-then-last : goal.returns-then-last
returns-then-last c = let a = c.args in alone _ _ a.last (side a.x a.w) c.rows_kept-rows.ensures c.if-last.true

pub overflow_mul-result-2 : goal.overflow_mul-result-2
overflow_mul-result-2 c =
    let a = c.args in
    omega (arith, ap (λ (i : ℕ). i * a.w) c.rows_kept-rows.ensures, room_small a.filter a.w (omega arith))

pub overflow_mul-result-3 : goal.overflow_mul-result-3
overflow_mul-result-3 c =
    let a = c.args in
    let l = c.low_count.result in
    omega (
      arith,
      ap (λ (i : ℕ). i * l) c.rows_kept-rows.ensures,
      room_small a.filter l (omega (
        arith,
        c.low_count.ensures,
        counts (side a.x
            a.w),
      )),
    )

pub overflow_add-result : goal.overflow_add-result
overflow_add-result c =
    let a = c.args in
    let l = c.low_count.result in
    omega (
      arith,
      ap (λ (i : ℕ). i * a.w) c.rows_kept-rows.ensures,
      ap (λ (i : ℕ). i * l) c.rows_kept-rows.ensures,
      room_small a.filter a.w (omega arith),
      room_small a.filter l (omega (arith, c.low_count.ensures, counts (side a.x a.w))),
    )

pub returns : goal.returns
returns c =
    let a = c.args in
    with-next _ _ a.last (side a.x a.w) c.low_count.result c.rows_kept-rows.ensures c.if-last.false c.low_count.ensures
