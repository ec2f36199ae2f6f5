-- `reader::questions::counts_inside` meets its contract: the definition's tests, in its order. Assumes nothing.
use mathlib.Core.Path.{◌∙◌, sym, ap}
use Prim.Native.Nat.{◌-◌, ◌*◌}
use lib.Dec.{leb}
use native.Mathlib.Omega.{arith}
use borrow.Author.Tests.{not-true, not-false}
use Rattle.wavelet.specs.Limits.{max_width, max_height, max_origin}
use Rattle.reader.proofs.QuestionLaws.{levels-asked, counts-1, counts-2, counts-f, counts-3, counts-x, counts-y, counts-4, counts-5}
use Rattle.reader.proofs.QuestionLaws.{counts-6, counts-7}
use Rattle.reader_steps.proofs.SetLaws.{ahead-fits}
use Rattle.reader.proofs.questions.counts_inside.Goals as goal

pub returns-then-not-is_within : goal.returns-then-not-is_within
unfolding max_width max_height
returns-then-not-is_within c = counts-1 _ (sym c.is_within.ensures ∙ not-true _ c.if-not-is_within.true-raw)

pub returns-then-not-is_within-2 : goal.returns-then-not-is_within-2
unfolding max_width max_height
returns-then-not-is_within-2 c =
    counts-2 _ (sym c.is_within.ensures ∙ not-false _ c.if-not-is_within.false-raw) (sym c.is_within-2.ensures ∙ not-true _ c.if-not-is_within-2.true-raw)

pub returns-then-not-is_filter : goal.returns-then-not-is_filter
unfolding max_width max_height
returns-then-not-is_filter c =
    counts-f _ (sym c.is_within.ensures ∙ not-false _ c.if-not-is_within.false-raw) (sym c.is_within-2.ensures ∙ not-false _ c.if-not-is_within-2.false-raw)
    (sym c.is_filter.ensures ∙ not-true _ c.if-not-is_filter.true-raw)

pub returns-then-not-is_within-3 : goal.returns-then-not-is_within-3
unfolding max_width max_height
returns-then-not-is_within-3 c =
    counts-3 _ (sym c.is_within.ensures ∙ not-false _ c.if-not-is_within.false-raw) (sym c.is_within-2.ensures ∙ not-false _ c.if-not-is_within-2.false-raw)
    (sym c.is_filter.ensures ∙ not-false _ c.if-not-is_filter.false-raw)
    (levels-asked _ _ _ _ _ c.most_levels.ensures c.is_within-3.ensures (not-true _ c.if-not-is_within-3.true-raw))

pub returns-then-s-gt-MAX_ORIGIN : goal.returns-then-s-gt-MAX_ORIGIN
unfolding max_width max_height max_origin
returns-then-s-gt-MAX_ORIGIN c =
    counts-x _ (sym c.is_within.ensures ∙ not-false _ c.if-not-is_within.false-raw) (sym c.is_within-2.ensures ∙ not-false _ c.if-not-is_within-2.false-raw)
    (sym c.is_filter.ensures ∙ not-false _ c.if-not-is_filter.false-raw)
    (levels-asked _ _ _ _ _ c.most_levels.ensures c.is_within-3.ensures (not-false _ c.if-not-is_within-3.false-raw))
    c.if-s-gt-MAX_ORIGIN.true

pub returns-then-s-gt-MAX_ORIGIN-2 : goal.returns-then-s-gt-MAX_ORIGIN-2
unfolding max_width max_height max_origin
returns-then-s-gt-MAX_ORIGIN-2 c =
    counts-y _ (sym c.is_within.ensures ∙ not-false _ c.if-not-is_within.false-raw) (sym c.is_within-2.ensures ∙ not-false _ c.if-not-is_within-2.false-raw)
    (sym c.is_filter.ensures ∙ not-false _ c.if-not-is_filter.false-raw)
    (levels-asked _ _ _ _ _ c.most_levels.ensures c.is_within-3.ensures (not-false _ c.if-not-is_within-3.false-raw))
    c.if-s-gt-MAX_ORIGIN.false c.if-s-gt-MAX_ORIGIN-2.true

pub returns-then-s : goal.returns-then-s
unfolding max_width max_height max_origin
returns-then-s c =
    counts-4 _ (sym c.is_within.ensures ∙ not-false _ c.if-not-is_within.false-raw) (sym c.is_within-2.ensures ∙ not-false _ c.if-not-is_within-2.false-raw)
    (sym c.is_filter.ensures ∙ not-false _ c.if-not-is_filter.false-raw)
    (levels-asked _ _ _ _ _ c.most_levels.ensures c.is_within-3.ensures (not-false _ c.if-not-is_within-3.false-raw))
    c.if-s-gt-MAX_ORIGIN.false c.if-s-gt-MAX_ORIGIN-2.false c.if-s.true

pub returns-then-s-2 : goal.returns-then-s-2
unfolding max_width max_height max_origin
returns-then-s-2 c =
    counts-5 _ (sym c.is_within.ensures ∙ not-false _ c.if-not-is_within.false-raw) (sym c.is_within-2.ensures ∙ not-false _ c.if-not-is_within-2.false-raw)
    (sym c.is_filter.ensures ∙ not-false _ c.if-not-is_filter.false-raw)
    (levels-asked _ _ _ _ _ c.most_levels.ensures c.is_within-3.ensures (not-false _ c.if-not-is_within-3.false-raw))
    c.if-s-gt-MAX_ORIGIN.false c.if-s-gt-MAX_ORIGIN-2.false c.if-s.false c.if-s-2.true

pub returns-then-s-gt4 : goal.returns-then-s-gt4
unfolding max_width max_height max_origin
returns-then-s-gt4 c =
    counts-6 _ (sym c.is_within.ensures ∙ not-false _ c.if-not-is_within.false-raw) (sym c.is_within-2.ensures ∙ not-false _ c.if-not-is_within-2.false-raw)
    (sym c.is_filter.ensures ∙ not-false _ c.if-not-is_filter.false-raw)
    (levels-asked _ _ _ _ _ c.most_levels.ensures c.is_within-3.ensures (not-false _ c.if-not-is_within-3.false-raw))
    c.if-s-gt-MAX_ORIGIN.false c.if-s-gt-MAX_ORIGIN-2.false c.if-s.false c.if-s-2.false c.if-s-gt4.true

pub overflow_mul-result : goal.overflow_mul-result
overflow_mul-result c = omega (arith, ahead-fits _ _ c.look_ahead.ensures)

pub overflow_sub-result : goal.overflow_sub-result
overflow_sub-result c = omega (arith, ahead-fits _ _ c.look_ahead.ensures)

pub returns : goal.returns
unfolding max_width max_height max_origin
returns c =
    ap (λ n. leb c.args.s.back (2 * n - 1)) c.look_ahead.ensures
    ∙ counts-7 _ (sym c.is_within.ensures ∙ not-false _ c.if-not-is_within.false-raw) (sym c.is_within-2.ensures ∙ not-false _ c.if-not-is_within-2.false-raw)
    (sym c.is_filter.ensures ∙ not-false _ c.if-not-is_filter.false-raw)
    (levels-asked _ _ _ _ _ c.most_levels.ensures c.is_within-3.ensures (not-false _ c.if-not-is_within-3.false-raw))
    c.if-s-gt-MAX_ORIGIN.false c.if-s-gt-MAX_ORIGIN-2.false c.if-s.false c.if-s-2.false c.if-s-gt4.false
