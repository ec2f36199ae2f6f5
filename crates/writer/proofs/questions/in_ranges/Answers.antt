-- `questions::in_ranges` meets its contract: each test is the definition's, in its order. Assumes nothing.
use mathlib.Core.Path.{sym, ◌∙◌}
use native.Mathlib.Omega.{arith}
use borrow.Author.Tests.{not-true, not-false, le-leb, lt-leb}
use Rattle.wavelet.specs.Limits.{max_height}
use Rattle.wavelet.proofs.LimitLaws.{width_small}
use Rattle.lifting.specs.Grid.{side}
use Rattle.filters.proofs.FigureLaws.{streams, steps-few}
use Rattle.writer.specs.Questions.{in_ranges}
use Rattle.writer.proofs.QuestionLaws.{ranges-last, few-levels}
use Rattle.writer.proofs.questions.in_ranges.Goals as goal

pub returns-then-not-on_grid : goal.returns-then-not-on_grid
unfolding in_ranges max_height
returns-then-not-on_grid c = simp (sym c.on_grid.ensures ∙ not-true _ c.if-not-on_grid.true-raw)

pub returns-then-not-is_sized : goal.returns-then-not-is_sized
unfolding in_ranges max_height
returns-then-not-is_sized c = simp (
  sym c.on_grid.ensures ∙ not-false _ c.if-not-on_grid.false-raw,
  sym c.is_sized.ensures ∙ not-true _ c.if-not-is_sized.true-raw,
)

pub returns-then-s-gt-MAX_HEIGHT : goal.returns-then-s-gt-MAX_HEIGHT
unfolding in_ranges max_height
returns-then-s-gt-MAX_HEIGHT c = simp (
  sym c.on_grid.ensures ∙ not-false _ c.if-not-on_grid.false-raw,
  sym c.is_sized.ensures ∙ not-false _ c.if-not-is_sized.false-raw,
  lt-leb _ _ c.if-s-gt-MAX_HEIGHT.true,
)

pub returns-then-most_column-s : goal.returns-then-most_column-s
unfolding in_ranges max_height
returns-then-most_column-s c = simp (
  sym c.on_grid.ensures
      ∙ not-false _ c.if-not-on_grid.false-raw,
  sym c.is_sized.ensures ∙ not-false _ c.if-not-is_sized.false-raw,
  le-leb _ _ c.if-s-gt-MAX_HEIGHT.false,
  lt-leb _ _ (rw c.most_column.ensures at c.if-most_column-s.true),
)

pub overflow_mul-look_ahead : goal.overflow_mul-look_ahead
overflow_mul-look_ahead c =
    let s = c.args.s in
    let t = streams s.filter (side s.x s.width) s.levels (sym c.is_sized.ensures ∙ not-false _ c.if-not-is_sized.false-raw) in
    rw c.look_ahead.ensures (omega (arith, steps-few s.filter s.levels, few-levels s.filter s.levels t.levels.1))

pub returns-then-look_ahead-s : goal.returns-then-look_ahead-s
unfolding in_ranges max_height
returns-then-look_ahead-s c = simp (
  sym c.on_grid.ensures
      ∙ not-false _ c.if-not-on_grid.false-raw,
  sym c.is_sized.ensures
      ∙ not-false _ c.if-not-is_sized.false-raw,
  le-leb _ _ c.if-s-gt-MAX_HEIGHT.false,
  le-leb _ _ (rw c.most_column.ensures at c.if-most_column-s.false),
  lt-leb _ _ (rw c.look_ahead.ensures at c.if-look_ahead-s.true),
)

pub returns-then-s : goal.returns-then-s
unfolding in_ranges max_height
returns-then-s c = simp (
  sym c.on_grid.ensures
      ∙ not-false _ c.if-not-on_grid.false-raw,
  sym c.is_sized.ensures
      ∙ not-false _ c.if-not-is_sized.false-raw,
  le-leb _ _ c.if-s-gt-MAX_HEIGHT.false,
  le-leb _ _ (rw c.most_column.ensures at
      c.if-most_column-s.false),
  le-leb _ _ (rw c.look_ahead.ensures at c.if-look_ahead-s.false),
  lt-leb _ _ c.if-s.true,
)

pub waits_in_range-requires : goal.waits_in_range-requires
waits_in_range-requires c =
    let s = c.args.s in
    let t = streams s.filter (side s.x s.width) s.levels (sym c.is_sized.ensures ∙ not-false _ c.if-not-is_sized.false-raw) in
    (omega (arith, t.width.1, width_small), omega arith)

pub returns : goal.returns
unfolding max_height
returns c =
    ranges-last c.args.s (sym c.on_grid.ensures ∙ not-false _ c.if-not-on_grid.false-raw)
    (sym c.is_sized.ensures ∙ not-false _ c.if-not-is_sized.false-raw) (omega arith)
    (rw c.most_column.ensures at
    c.if-most_column-s.false)
    (rw c.look_ahead.ensures at c.if-look_ahead-s.false)
    (omega arith) _ c.waits_in_range.ensures
