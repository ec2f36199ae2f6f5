-- `heights::put` meets its contract: the heights are put where all fits, from the part of the run that has them. Assumes nothing.
use mathlib.Core.Path.{sym, ◌∙◌}
use Prim.Native.Nat.{◌+◌, ◌-◌}
use native.Mathlib.Omega.{arith}
use lib.ListN.{length}
use Rattle.numbers.specs.Signal.{at}
use Rattle.lifting.specs.Grid.{side}
use Rattle.level.proofs.FillLaws.{heights-in, part_length, part-put}
use Rattle.level.proofs.heights.put.Goals as goal

pub overflow_add-end : goal.overflow_add-end
overflow_add-end c = let k = heights-in _ _ _ _ _ (sym c.heights_fit.ensures ∙ c.if-heights_fit.true) in omega (arith, k.heights)

pub offset_bounds-run-from : goal.offset_bounds-run-from
offset_bounds-run-from c =
    let k = heights-in _ _ _ _ _ (sym c.heights_fit.ensures ∙ c.if-heights_fit.true) in omega (arith, k.heights)

pub slice_bounds-fill-end : goal.slice_bounds-fill-end
slice_bounds-fill-end c =
    let k = heights-in _ _ _ _ _ (sym c.heights_fit.ensures ∙ c.if-heights_fit.true) in omega (arith, k.heights)

pub fill-requires : goal.fill-requires
fill-requires c =
    let a = c.args in
    let k = heights-in _ _ _ _ _ (sym c.heights_fit.ensures ∙ c.if-heights_fit.true) in
    let l = part_length a.from (a.from + a.n - a.from) a.n a.run.now (omega arith) k.heights in
    omega (arith, l, k.columns)

pub shape_of-row-then-heights_fit : goal.shape_of-row-then-heights_fit
shape_of-row-then-heights_fit c = c.fill.auto.row

pub returns-then-heights_fit : goal.returns-then-heights_fit
returns-then-heights_fit c =
    let a = c.args in
    let ok = sym c.heights_fit.ensures ∙ c.if-heights_fit.true in
    let k = heights-in _ _ _ _ _ ok in
    let l = part-put a.from (a.from + a.n - a.from) a.n a.run.now (omega arith) k.heights (side a.x (length a.row.now)) a.column
    (at a.row.now) in
    record { value = simp ok; row_after = simp ok (c.fill.ensures ∙ l) }

pub returns : goal.returns
returns c = let bad = sym c.heights_fit.ensures ∙ c.if-heights_fit.false in
    record { value = simp bad; row_after = simp bad }
