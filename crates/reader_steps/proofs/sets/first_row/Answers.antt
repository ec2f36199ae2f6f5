-- `reader_steps::sets::first_row` meets its contract: row 0, or the lesser of the definition's two numbers. Assumes nothing.
use native.Mathlib.Omega.{arith}
use Rattle.lifting.specs.Grid.{side}
use Rattle.reader_steps.proofs.SetLaws.{row-either, row-high, row-own, row_last}
use Rattle.reader_steps.proofs.sets.first_row.Goals as goal

pub returns-then-n-h : goal.returns-then-n-h
returns-then-n-h c = let a = c.args in row-either a.filter (side a.y a.h) a.n c.if-n-h.true

pub overflow_mul-result : goal.overflow_mul-result
overflow_mul-result c = omega arith

pub overflow_add-result : goal.overflow_add-result
overflow_add-result c = omega arith

pub overflow_sub-result : goal.overflow_sub-result
overflow_sub-result c = omega arith

pub overflow_sub-result-else-m-h : goal.overflow_sub-result-else-m-h
overflow_sub-result-else-m-h c =
    let a = c.args in
    (row-high (side a.y a.h) a.n c.if-n-h.false).1

pub returns-then-m-h : goal.returns-then-m-h
returns-then-m-h c =
    let a = c.args in
    row-own a.filter (side a.y a.h) a.n _ _ c.if-n-h.false c.look_ahead.ensures c.less-m.ensures c.if-m-h.true

pub returns-else-m-h : goal.returns-else-m-h
returns-else-m-h c =
    let a = c.args in
    row_last a.filter (side a.y a.h) a.n _ _ c.if-n-h.false c.look_ahead.ensures c.less-m.ensures c.if-m-h.false
