-- `reader_steps::sets::tried_band` meets its contract: the definition's tests, one after another. Assumes nothing.
use native.Mathlib.Omega.{arith}
use Rattle.lifting.specs.Grid.{side}
use Rattle.reader_steps.proofs.BandLaws.{band-past, band-0, band-1, band-flat, band-2, band-3, band-4}
use Rattle.reader_steps.proofs.sets.tried_band.Goals as goal

pub returns-then-h-n : goal.returns-then-h-n
returns-then-h-n c = let a = c.args in band-past a.last (side a.x a.w) (side a.y a.h) a.n a.first c.if-h-n.true

pub overflow_sub-right : goal.overflow_sub-right
overflow_sub-right c = omega arith

pub overflow_mul-row : goal.overflow_mul-row
overflow_mul-row c = omega arith

pub overflow_add-row : goal.overflow_add-row
overflow_add-row c = omega arith

pub overflow_sub-row : goal.overflow_sub-row
overflow_sub-row c = omega arith

pub returns-then-last-first : goal.returns-then-last-first
returns-then-last-first c = let a = c.args in band-0 a.last (side a.x a.w) (side a.y a.h) a.n a.first c.if-last-first.true

pub returns-then-first-right : goal.returns-then-first-right
returns-then-first-right c =
    let a = c.args in
    band-1 a.last (side a.x a.w) (side a.y a.h) a.n a.first c.if-last-first.false c.if-first-right.true

pub returns-then-h-row : goal.returns-then-h-row
returns-then-h-row c =
    let a = c.args in
    band-flat a.last (side a.x a.w) (side a.y a.h) a.n a.first c.if-last-first.false c.if-first-right.false c.if-h-row.true

pub returns-then-first-left : goal.returns-then-first-left
returns-then-first-left c =
    let a = c.args in
    band-2 a.last (side a.x a.w) (side a.y a.h) a.n a.first c.if-last-first.false c.if-first-right.false (omega arith) c.if-first-left.true

pub returns-then-first-right-2 : goal.returns-then-first-right-2
returns-then-first-right-2 c =
    let a = c.args in
    band-3 a.last (side a.x a.w) (side a.y a.h) a.n a.first c.if-last-first.false c.if-first-right.false (omega arith) c.if-first-left.false
    c.if-first-right-2.true

pub returns : goal.returns
returns c =
    let a = c.args in
    band-4 a.last (side a.x a.w) (side a.y a.h) a.n a.first c.if-last-first.false c.if-first-right.false (omega arith) c.if-first-left.false
    c.if-first-right-2.false
