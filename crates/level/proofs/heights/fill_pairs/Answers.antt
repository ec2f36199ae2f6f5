use mathlib.Core.Path.{◌≡◌, ap, ◌∙◌}
use Prim.Native.Nat.{ℕ, ◌+◌, ◌*◌, ◌-◌, ◌^◌, ◌≤◌, ◌<◌}
use native.Mathlib.Omega.{arith}
use lib.ListN.{length, get_or, length-set}
use Rattle.numbers.specs.Signal.{at}
use Rattle.lifting.specs.Grid.{side}
use Rattle.level.specs.Cells.{spot}
use Rattle.level.specs.Heights.{height_at, heights_put}
use Rattle.level.proofs.FillLaws.{height-fits, height-read, Put, put-none, put-pair, put-place}
use Rattle.level.proofs.heights.fill_pairs.Goals as goal

pub loop-j-init : goal.loop-j-init
loop-j-init c =
    let a = c.args in (
      omega arith,
      omega arith,
      omega arith,
      c.cell-first.ensures,
      c.cell-second.ensures,
      put-none (side a.x (length a.row.now)) a.column _ a.row.now (omega arith),
    )

pub overflow_cast-row : goal.overflow_cast-row
overflow_cast-row c =
    let l = c.loop-j in
    let a = c.args in
    height-fits _ (omega (arith, c.shared_slice_known-in-loop-j-1.given (2 * l.j)))

pub overflow_add-row : goal.overflow_add-row
overflow_add-row c =
    let l = c.loop-j in
    let a = c.args in
    omega (arith, put-place (side a.x (length a.row.now)) a.column l.j _ (omega arith) l.invariant.3)

pub offset_bounds-row-first : goal.offset_bounds-row-first
offset_bounds-row-first c =
    let l = c.loop-j in
    let a = c.args in
    omega (arith, put-place (side a.x (length a.row.now)) a.column l.j _ (omega arith) l.invariant.3)

pub bounds-row-first : goal.bounds-row-first
bounds-row-first c =
    let l = c.loop-j in
    let a = c.args in
    omega (arith, put-place (side a.x (length a.row.now)) a.column l.j _ (omega arith) l.invariant.3, l.invariant.5.room, l.invariant.5.size)

pub overflow_cast-row-in-loop-j : goal.overflow_cast-row-in-loop-j
overflow_cast-row-in-loop-j c =
    let l = c.loop-j in
    let a = c.args in
    height-fits _ (omega (arith, c.shared_slice_known-in-loop-j-2-1.given (2 * l.j + 1)))

pub overflow_add-second : goal.overflow_add-second
overflow_add-second c =
    let l = c.loop-j in
    let a = c.args in
    omega (arith, put-place (side a.x (length a.row.now)) (a.column + 1) l.j _ (omega arith) l.invariant.4)

pub offset_bounds-row-second : goal.offset_bounds-row-second
offset_bounds-row-second c =
    let l = c.loop-j in
    let a = c.args in
    omega (arith, put-place (side a.x (length a.row.now)) (a.column + 1) l.j _ (omega arith) l.invariant.4)

pub bounds-row-second : goal.bounds-row-second
bounds-row-second c =
    let l = c.loop-j in
    let a = c.args in
    let p = put-place (side a.x (length a.row.now)) (a.column + 1) l.j _ (omega arith) l.invariant.4 in
    let r = l.invariant.5 in
    simp length-set (omega (arith, p, r.room, r.size))

pub loop-j-preserved : goal.loop-j-preserved
loop-j-preserved c =
    let l = c.loop-j in
    let a = c.args in
    let i = l.invariant in
    let p = 2 * l.j in
    let v = height-read (get_or a.run.now p 0) (omega (arith, c.shared_slice_known-in-loop-j-1.given p)) in
    let u = height-read (get_or a.run.now (p + 1) 0) (omega (arith, c.shared_slice_known-in-loop-j-2-1.given (p + 1))) in (
      omega arith,
      omega arith,
      omega arith,
      i.3,
      i.4,
      put-pair (side a.x (length a.row.now)) a.column _ a.row.now l.j _ _ _ _ _ i.5 (omega arith) i.3 i.4 v u,
    )

pub shape_of-row : goal.shape_of-row
shape_of-row c = c.loop-j.invariant.5.size

pub returns : goal.returns
returns c =
    let l = c.loop-j in
    let a = c.args in
    let e : l.j ≡ a.pairs = omega arith in
    l.invariant.5.value
    ∙ ap (λ (k : ℕ). heights_put (side a.x (length a.row.now)) a.column (2 * k) (height_at a.run.now) (at a.row.now)) e
