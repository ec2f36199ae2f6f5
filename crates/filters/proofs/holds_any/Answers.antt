-- `filters::holds_any` meets its contract: the definition's two tests; below the limit the product fits. Assumes nothing.
use native.Mathlib.Omega.{arith}
use Rattle.wavelet.specs.Limits.{max_width}
use Rattle.filters.proofs.FigureLaws.{wide, any-fits, narrow}
use Rattle.filters.proofs.holds_any.Goals as goal

pub returns-then-width-gt-MAX_WIDTH : goal.returns-then-width-gt-MAX_WIDTH
unfolding max_width
returns-then-width-gt-MAX_WIDTH c = wide _ _ _ c.if-width-gt-MAX_WIDTH.true

pub overflow_mul-result : goal.overflow_mul-result
unfolding max_width
overflow_mul-result c =
    let a = c.args in
    let h = any-fits a.filter a.width a.n _ _ c.rows_kept.ensures (omega arith) c.any_widths.ensures in
    omega arith

pub returns : goal.returns
unfolding max_width
returns c =
    let a = c.args in
    narrow a.filter a.width a.n _ _ c.rows_kept.ensures (omega arith) c.any_widths.ensures
