-- `view::stretch` meets its contract: each arm chooses what the definition says of its band (`arm-LL` and so on); within the limits every number fits. Assumes
-- nothing.
use mathlib.Core.Path.{sym, ◌∙◌}
use Prim.Native.Nat.{◌+◌}
use native.Mathlib.Omega.{arith}
use borrow.Author.Tests.{not-true, not-false}
use Rattle.wavelet.specs.Bands.{code}
use Rattle.wavelet.proofs.LimitLaws.{width_small, height-small}
use Rattle.wavelet.proofs.QuestionLaws.{within-true}
use Rattle.wavelet.proofs.ViewLaws.{product}
use Rattle.wavelet.specs.Shape.{columns, rows}
use Rattle.wavelet.proofs.ViewLaws.{
  refused-level,
  refused-row,
  refused-last,
  refused-code,
  side-in,
  arm-LL,
  arm-HL,
  arm-LH,
  arm-HH,
}
use Rattle.wavelet.proofs.view.stretch.Goals as goal

pub returns-then-not-is_within : goal.returns-then-not-is_within
returns-then-not-is_within c =
    let a = c.args in
    refused-level (columns a.shape) (rows a.shape) a.shape.levels a.level a.band a.row
    (sym c.is_within.ensures ∙ not-true _ c.if-not-is_within.true-raw)

pub returns-then-height-row : goal.returns-then-height-row
returns-then-height-row c =
    let a = c.args in
    refused-row (columns a.shape) (rows a.shape) a.shape.levels a.level a.band a.row c.if-height-row.true

pub size_within-low-requires : goal.size_within-low-requires
size_within-low-requires c =
    let near = within-true 1 _ _ (sym c.is_within.ensures ∙ not-false _ c.if-not-is_within.false-raw) in
    (omega (arith, near.1), omega arith, omega (arith, width_small, height-small))

pub overflow_sub-level : goal.overflow_sub-level
overflow_sub-level c =
    omega (arith, (within-true 1 _ _ (sym c.is_within.ensures ∙ not-false _ c.if-not-is_within.false-raw)).0)

pub size_within-requires : goal.size_within-requires
size_within-requires c =
    let near = within-true 1 _ _ (sym c.is_within.ensures ∙ not-false _ c.if-not-is_within.false-raw) in
    (omega (arith, near.1), omega arith, omega (arith, width_small, height-small))

pub overflow_sub-right : goal.overflow_sub-right
overflow_sub-right c =
    let a = c.args in
    let w = sym c.is_within.ensures ∙ not-false _ c.if-not-is_within.false-raw in
    (side-in a.shape.levels a.level (columns a.shape) _ _ w c.size_within.ensures c.size_within-low.ensures).0

pub size_within-top-requires : goal.size_within-top-requires
size_within-top-requires c =
    let near = within-true 1 _ _ (sym c.is_within.ensures ∙ not-false _ c.if-not-is_within.false-raw) in
    (omega (arith, near.1), omega arith, omega (arith, width_small, height-small))

pub overflow_sub-level-2 : goal.overflow_sub-level-2
overflow_sub-level-2 c =
    omega (arith, (within-true 1 _ _ (sym c.is_within.ensures ∙ not-false _ c.if-not-is_within.false-raw)).0)

pub size_within-requires-2 : goal.size_within-requires-2
size_within-requires-2 c =
    let near = within-true 1 _ _ (sym c.is_within.ensures ∙ not-false _ c.if-not-is_within.false-raw) in
    (omega (arith, near.1), omega arith, omega (arith, width_small, height-small))

pub overflow_sub-bottom : goal.overflow_sub-bottom
overflow_sub-bottom c =
    let a = c.args in
    let w = sym c.is_within.ensures ∙ not-false _ c.if-not-is_within.false-raw in
    (side-in a.shape.levels a.level (rows a.shape) _ _ w c.size_within-2.ensures c.size_within-top.ensures).0

pub returns-then-level-levels : goal.returns-then-level-levels
unfolding code
returns-then-level-levels c =
    let a = c.args in
    refused-last (columns a.shape) (rows a.shape) a.shape.levels a.level a.band a.row c.in-0.is c.if-level-levels.true

pub overflow_mul-row : goal.overflow_mul-row
overflow_mul-row c =
    let a = c.args in
    omega (arith, width_small, height-small, product a.row a.shape.width (omega arith) (omega arith))

pub overflow_mul-row-in-1 : goal.overflow_mul-row-in-1
overflow_mul-row-in-1 c =
    let a = c.args in
    omega (arith, width_small, height-small, product a.row a.shape.width (omega arith) (omega arith))

pub overflow_add-row : goal.overflow_add-row
overflow_add-row c =
    let a = c.args in
    let w = sym c.is_within.ensures ∙ not-false _ c.if-not-is_within.false-raw in
    let s = side-in a.shape.levels a.level (columns a.shape) _ _ w c.size_within.ensures
    c.size_within-low.ensures in
    omega (arith, width_small, height-small, product a.row a.shape.width (omega arith) (omega arith))

pub overflow_add-top : goal.overflow_add-top
overflow_add-top c =
    let a = c.args in
    let w = sym c.is_within.ensures ∙ not-false _ c.if-not-is_within.false-raw in
    let s = side-in a.shape.levels a.level (rows a.shape) _ _ w c.size_within-2.ensures c.size_within-top.ensures in
    omega (arith, height-small)

pub overflow_mul-top : goal.overflow_mul-top
overflow_mul-top c =
    let a = c.args in
    let w = sym c.is_within.ensures ∙ not-false _ c.if-not-is_within.false-raw in
    let s = side-in a.shape.levels a.level (rows a.shape) _ _ w c.size_within-2.ensures c.size_within-top.ensures in
    omega (arith, width_small, height-small, product (c.size_within-top.result + a.row) a.shape.width (omega arith) (omega arith))

pub overflow_add-top-in-3 : goal.overflow_add-top-in-3
overflow_add-top-in-3 c =
    let a = c.args in
    let w = sym c.is_within.ensures ∙ not-false _ c.if-not-is_within.false-raw in
    let s = side-in a.shape.levels a.level (rows a.shape) _ _ w c.size_within-2.ensures c.size_within-top.ensures in
    omega (arith, height-small)

pub overflow_mul-top-in-3 : goal.overflow_mul-top-in-3
overflow_mul-top-in-3 c =
    let a = c.args in
    let w = sym c.is_within.ensures ∙ not-false _ c.if-not-is_within.false-raw in
    let s = side-in a.shape.levels a.level (rows a.shape) _ _ w c.size_within-2.ensures c.size_within-top.ensures in
    omega (arith, width_small, height-small, product (c.size_within-top.result + a.row) a.shape.width (omega arith) (omega arith))

pub overflow_add-top-in-3-2 : goal.overflow_add-top-in-3-2
overflow_add-top-in-3-2 c =
    let a = c.args in
    let w = sym c.is_within.ensures ∙ not-false _ c.if-not-is_within.false-raw in
    let s = side-in a.shape.levels a.level (rows a.shape) _ _ w c.size_within-2.ensures c.size_within-top.ensures in
    let t = side-in a.shape.levels a.level (columns a.shape) _ _ w c.size_within.ensures
    c.size_within-low.ensures in
    omega (arith, width_small, height-small, product (c.size_within-top.result + a.row) a.shape.width (omega arith) (omega arith))

pub returns-else-level-levels : goal.returns-else-level-levels
returns-else-level-levels c =
    let a = c.args in
    c.keep.ensures
    ∙ arm-LL (columns a.shape) (rows a.shape) a.shape.levels a.level a.band a.row _ _ _ _
    c.size_within.ensures c.size_within-2.ensures c.size_within-low.ensures c.size_within-top.ensures
    (sym c.is_within.ensures ∙ not-false _ c.if-not-is_within.false-raw) c.in-0.is c.if-level-levels.false

pub returns-in-1 : goal.returns-in-1
returns-in-1 c =
    let a = c.args in
    c.keep-in-1.ensures
    ∙ arm-HL (columns a.shape) (rows a.shape) a.shape.levels a.level a.band a.row _ _ _ _
    c.size_within.ensures c.size_within-2.ensures c.size_within-low.ensures c.size_within-top.ensures
    (sym c.is_within.ensures ∙ not-false _ c.if-not-is_within.false-raw) c.in-1.is

pub returns-in-2 : goal.returns-in-2
returns-in-2 c =
    let a = c.args in
    c.keep-in-2.ensures
    ∙ arm-LH (columns a.shape) (rows a.shape) a.shape.levels a.level a.band a.row _ _ _ _
    c.size_within.ensures c.size_within-2.ensures c.size_within-low.ensures c.size_within-top.ensures
    (sym c.is_within.ensures ∙ not-false _ c.if-not-is_within.false-raw) c.in-2.is

pub returns-in-3 : goal.returns-in-3
returns-in-3 c =
    let a = c.args in
    c.keep-in-3.ensures
    ∙ arm-HH (columns a.shape) (rows a.shape) a.shape.levels a.level a.band a.row _ _ _ _
    c.size_within.ensures c.size_within-2.ensures c.size_within-low.ensures c.size_within-top.ensures
    (sym c.is_within.ensures ∙ not-false _ c.if-not-is_within.false-raw) c.in-3.is

pub returns-in_default : goal.returns-in_default
returns-in_default c =
    let a = c.args in
    refused-code (columns a.shape) (rows a.shape) a.shape.levels a.level a.band a.row c.in_default.in_default-own.rest.0.0.0.1 c.in_default.in_default-own.rest.0.0.1 c.in_default.in_default-own.rest.0.1 c.in_default.in_default-own.rest.1
