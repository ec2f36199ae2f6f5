-- `sets::lift_row` meets its contract: the row is lent to the line call. Assumes nothing.
use Prim.Native.Nat.{◌+◌, ◌-◌, ◌*◌}
use native.Mathlib.Omega.{arith}
use Rattle.lifting.specs.Grid.{side}
use Rattle.filters.specs.Filters.{filter_of}
use Rattle.numbers.proofs.Parts.{length-mid}
use borrow.Author.Rules.{rules}
use Rattle.analysis.proofs.SetLaws.{slot-place, in-room, lift-part}
use Rattle.analysis.proofs.sets.lift_row.Goals as goal

pub overflow_mul-a : goal.overflow_mul-a
overflow_mul-a c = let a = c.args in let b = in-room (filter_of a.filter).rows a.w a.s c.requires.1 in omega arith

pub overflow_add-e : goal.overflow_add-e
overflow_add-e c = let a = c.args in let b = in-room (filter_of a.filter).rows a.w a.s c.requires.1 in omega arith

pub offset_bounds-store-a : goal.offset_bounds-store-a
offset_bounds-store-a c = let a = c.args in let b = in-room (filter_of a.filter).rows a.w a.s c.requires.1 in omega arith

pub slice_bounds-lift_line-end : goal.slice_bounds-lift_line-end
slice_bounds-lift_line-end c = let a = c.args in let b = in-room (filter_of a.filter).rows a.w a.s c.requires.1 in omega arith

pub returns-then-has : goal.returns-then-has
returns-then-has c =
    let a = c.args in
    let p = a.s * a.w in
    let l = a.store.now in
    let room = in-room (filter_of a.filter).rows a.w a.s c.requires.1 in
    let mid = length-mid p (p + a.w - p) l (omega arith) in
    simp c.if-has.true
    (lift-part a.filter (side a.x a.w) a.s p (p + a.w - p) l c.lift_line.new.line
    (slot-place (filter_of a.filter).rows a.w a.s c.requires.1) (omega arith) (omega arith) (omega arith) c.lift_line.ensures)

pub returns-else-has : goal.returns-else-has
returns-else-has c = simp c.if-has.false
