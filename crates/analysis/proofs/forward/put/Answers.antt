-- `forward::put` meets its contract: the row is lent to the heights' call. Assumes nothing.
use mathlib.Core.Path.{sym, ap, ◌∙◌}
use Prim.Native.Nat.{ℕ, ◌+◌, ◌-◌, ◌*◌}
use native.Mathlib.Omega.{arith}
use lib.ListN.{length}
use Rattle.lifting.specs.Grid.{side}
use Rattle.filters.specs.Filters.{filter_of}
use borrow.Author.Rules.{rules}
use Rattle.level.specs.Heights.{height_at}
use Rattle.level.specs.Stretch.{row_place}
use Rattle.analysis.proofs.SlotLaws.{in_rows}
use Rattle.analysis.proofs.SetLaws.{in-room}
use Rattle.analysis.proofs.StretchLaws.{level_in, put-answer, put-area, put-none}
use Rattle.analysis.proofs.forward.put.Goals as goal

pub overflow_mul-a : goal.overflow_mul-a
overflow_mul-a c =
    let a = c.args in
    let k = level_in a.filter (length a.store.now) (side a.x a.w) (sym (c.level_fits.ensures a.x) ∙ c.if-level_fits.true) in
    omega (arith, k, in-room (filter_of a.filter).rows a.w c.slot.result (in_rows a.filter c.slot.result a.q c.slot.ensures.0))

pub overflow_add-e : goal.overflow_add-e
overflow_add-e c =
    let a = c.args in
    let k = level_in a.filter (length a.store.now) (side a.x a.w) (sym (c.level_fits.ensures a.x) ∙ c.if-level_fits.true) in
    omega (arith, k, in-room (filter_of a.filter).rows a.w c.slot.result (in_rows a.filter c.slot.result a.q c.slot.ensures.0))

pub offset_bounds-store-a : goal.offset_bounds-store-a
offset_bounds-store-a c =
    let a = c.args in
    let k = level_in a.filter (length a.store.now) (side a.x a.w) (sym (c.level_fits.ensures a.x) ∙ c.if-level_fits.true) in
    omega (arith, k, in-room (filter_of a.filter).rows a.w c.slot.result (in_rows a.filter c.slot.result a.q c.slot.ensures.0))

pub slice_bounds-put-end : goal.slice_bounds-put-end
slice_bounds-put-end c =
    let a = c.args in
    let k = level_in a.filter (length a.store.now) (side a.x a.w) (sym (c.level_fits.ensures a.x) ∙ c.if-level_fits.true) in
    omega (arith, k, in-room (filter_of a.filter).rows a.w c.slot.result (in_rows a.filter c.slot.result a.q c.slot.ensures.0))

pub returns-then-level_fits : goal.returns-then-level_fits
unfolding row_place
returns-then-level_fits c =
    let a = c.args in
    let ok = sym (c.level_fits.ensures a.x) ∙ c.if-level_fits.true in
    let k = level_in a.filter (length a.store.now) (side a.x a.w) ok in
    let p = c.slot.result * a.w in
    let room = in-room (filter_of a.filter).rows a.w c.slot.result (in_rows a.filter c.slot.result a.q c.slot.ensures.0) in
    let e = ap (λ (i : ℕ). i * a.w) c.slot.ensures.0 in
    record {
      value = put-answer a.filter (side a.x a.w) a.q a.column a.n a.from (length a.run.now) (λ j. height_at a.run.now (a.from + j)) p
          (p + a.w - p) a.store.now c.put.new.row ok e (omega arith) (omega arith) _ c.put.ensures.value;
      store_after = put-area a.filter (side a.x a.w) a.q a.column a.n a.from (length a.run.now) (λ j. height_at a.run.now (a.from + j)) p
          (p + a.w - p) a.store.now c.put.new.row ok e (omega arith) (omega arith) (search rules) c.put.ensures.row_after;
    }

pub returns : goal.returns
returns c =
    let a = c.args in
    let bad = put-none a.filter (length a.store.now) (side a.x a.w) a.column a.n (length a.run.now) a.from
    (sym (c.level_fits.ensures a.x) ∙ c.if-level_fits.false) in
    record { value = simp bad; store_after = simp bad }
