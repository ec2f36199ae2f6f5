-- `find`: the questions, and then the first trial that works. Assumes nothing.
use mathlib.Core.Path.{sym}
use native.Mathlib.Omega.{arith}
use lib.ListN.{length}
use Rattle.std.proofs.lemmas.Result.{err_from_is_err_and}
use Rattle.nearest_change.proofs.QuestionLaws.{passes}
use Rattle.nearest_change.proofs.FindLaws.{height-fits, width_fits, window-within, cell-ready, makes, nearest, refused, answered}
use Rattle.nearest_change.proofs.find.Goals as goal

pub returns-in_err-question : goal.returns-in_err-question
returns-in_err-question c =
    let a = c.args in
    let p = err_from_is_err_and c.from_residual.result c.from_residual.ensures.1 in
    rw (p.1, p.2) (refused _ a.width a.height a.heights.now a.row a.column _ c.in_err-question.ensures)

pub places-requires : goal.places-requires
places-requires c =
    let a = c.args in
    height-fits (length a.heights.now) a.width a.height a.row a.column
    (passes (length a.heights.now) a.width a.height a.row a.column (sym c.in_ok-question.ensures))

pub places-requires-2 : goal.places-requires-2
places-requires-2 c =
    let a = c.args in
    width_fits (length a.heights.now) a.width a.height a.row a.column
    (passes (length a.heights.now) a.width a.height a.row a.column (sym c.in_ok-question.ensures))

pub window-w-requires : goal.window-w-requires
window-w-requires c =
    let a = c.args in
    window-within (length a.heights.now) a.width a.height a.row a.column
    (passes (length a.heights.now) a.width a.height a.row a.column (sym c.in_ok-question.ensures))
    c.places.result c.places-2.result c.places.ensures c.places-2.ensures

pub cell-requires : goal.cell-requires
cell-requires c =
    let a = c.args in
    let p = passes (length a.heights.now) a.width a.height a.row a.column (sym c.in_ok-question.ensures) in
    let h = height-fits (length a.heights.now) a.width a.height a.row a.column p in
    let w = width_fits (length a.heights.now) a.width a.height a.row a.column p in
    record { by_index = c.window-w.ensures.by_index; row_lt_height = (h.2, w.2, h.1, w.1) }

pub first-t-requires : goal.first-t-requires
first-t-requires c =
    let a = c.args in
    let p = passes (length a.heights.now) a.width a.height a.row a.column (sym c.in_ok-question.ensures) in
    cell-ready (length a.heights.now) a.width a.height a.row a.column p c.window-w.result c.cell.result c.window-w.ensures.by_index
    c.cell.ensures

pub made-requires : goal.made-requires
made-requires c =
    let a = c.args in
    let p = passes (length a.heights.now) a.width a.height a.row a.column (sym c.in_ok-question.ensures) in
    makes (length a.heights.now) a.width a.height a.row a.column p a.heights.now (λ j. omega (arith, c.type_inv.heights j))
    c.places.result c.places-2.result c.window-w.result c.places.ensures
    c.places-2.ensures c.window-w.ensures.window c.window-w.ensures.by_index c.cell.result c.cell.ensures c.first-t.result c.first-t.ensures

pub returns : goal.returns
returns c =
    let a = c.args in
    let p = passes (length a.heights.now) a.width a.height a.row a.column (sym c.in_ok-question.ensures) in
    answered _ a.width a.height a.heights.now a.row a.column _ _ (sym c.in_ok-question.ensures) c.made.ensures
    (nearest (length a.heights.now) a.width a.height a.row a.column p a.heights.now (λ j. omega (arith, c.type_inv.heights j))
    c.places.result c.places-2.result c.window-w.result c.places.ensures
    c.places-2.ensures c.window-w.ensures.window c.window-w.ensures.by_index c.cell.result c.cell.ensures c.first-t.result c.first-t.ensures)
