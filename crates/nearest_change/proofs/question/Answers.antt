-- `question`: the tests in their order. Assumes nothing.
use mathlib.Core.Path.{sym, ◌∙◌}
use native.Mathlib.Omega.{arith}
use Rattle.wavelet.specs.Limits.{max_width, max_height}
use Rattle.nearest_change.proofs.QuestionLaws.{no-width, no-height, no_room, no_row, no-column, none-no, product_small}
use Rattle.nearest_change.proofs.question.Goals as goal

pub returns-then-not-is_within : goal.returns-then-not-is_within
unfolding max_width max_height
returns-then-not-is_within c =
    let a = c.args in no-width a.n a.width a.height a.row a.column
    (sym c.is_within.ensures ∙ c.if-not-is_within.true)

pub returns-then-not-is_within-2 : goal.returns-then-not-is_within-2
unfolding max_width max_height
returns-then-not-is_within-2 c =
    let a = c.args in
    no-height a.n a.width a.height a.row a.column (sym c.is_within.ensures ∙ c.if-not-is_within.false)
    (sym c.is_within-2.ensures ∙ c.if-not-is_within-2.true)

pub overflow_mul-width : goal.overflow_mul-width
unfolding max_width max_height
overflow_mul-width c =
    let a = c.args in
    omega (
      arith,
      product_small a.width a.height (sym c.is_within.ensures ∙ c.if-not-is_within.false)
          (sym c.is_within-2.ensures ∙ c.if-not-is_within-2.false),
    )

pub returns-then-n-width : goal.returns-then-n-width
unfolding max_width max_height
returns-then-n-width c =
    let a = c.args in
    no_room a.n a.width a.height a.row a.column
    (sym c.is_within.ensures ∙ c.if-not-is_within.false)
    (sym c.is_within-2.ensures ∙ c.if-not-is_within-2.false) c.if-n-width.true

pub returns-then-low_count-row : goal.returns-then-low_count-row
unfolding max_width max_height
returns-then-low_count-row c =
    let a = c.args in
    no_row a.n a.width a.height a.row a.column
    (sym c.is_within.ensures ∙ c.if-not-is_within.false)
    (sym c.is_within-2.ensures ∙ c.if-not-is_within-2.false) c.if-n-width.false (omega (arith, c.low_count.ensures))

pub returns-then-low_count-column : goal.returns-then-low_count-column
unfolding max_width max_height
returns-then-low_count-column c =
    let a = c.args in
    no-column a.n a.width a.height a.row a.column
    (sym c.is_within.ensures ∙ c.if-not-is_within.false)
    (sym c.is_within-2.ensures ∙ c.if-not-is_within-2.false) c.if-n-width.false (omega (arith, c.low_count.ensures, c.if-low_count-row.false))
    (omega (arith, c.low_count-2.ensures))

pub returns : goal.returns
unfolding max_width max_height
returns c =
    let a = c.args in
    none-no a.n a.width a.height a.row a.column
    (sym c.is_within.ensures ∙ c.if-not-is_within.false)
    (sym c.is_within-2.ensures ∙ c.if-not-is_within-2.false) c.if-n-width.false (omega (arith, c.low_count.ensures, c.if-low_count-row.false))
    (omega (arith, c.low_count-2.ensures, c.if-low_count-column.false))
