-- `filters::store-length` meets its contract: each test is the definition's. Assumes nothing.
use mathlib.Core.Path.{sym, ◌∙◌}
use native.Mathlib.Omega.{arith}
use borrow.Author.Tests.{not-true, not-false}
use Rattle.filters.proofs.FigureLaws.{length-fits, unknown, deep, stored}
use Rattle.filters.proofs.store_length.Goals as goal

pub returns-then-not-is_filter : goal.returns-then-not-is_filter
returns-then-not-is_filter c = unknown _ _ _ _ (sym c.is_filter.ensures ∙ not-true _ c.if-not-is_filter.true-raw)

pub returns-then-most_levels-levels : goal.returns-then-most_levels-levels
returns-then-most_levels-levels c = deep _ _ _ _ (omega arith)

pub overflow_mul-result : goal.overflow_mul-result
overflow_mul-result c =
    let a = c.args in
    let h = length-fits a.filter a.width a.x a.levels _ _ c.rows_kept.ensures c.widths.ensures in
    omega arith

pub returns : goal.returns
returns c =
    stored _ _ _ _ _ _ (sym c.is_filter.ensures ∙ not-false _ c.if-not-is_filter.false-raw) (omega arith) c.rows_kept.ensures c.widths.ensures
