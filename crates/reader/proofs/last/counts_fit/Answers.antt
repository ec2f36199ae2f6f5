-- `reader::last::counts_fit` meets its contract: the definition's tests, in its order. Assumes nothing.
use mathlib.Core.Path.{sym, ◌∙◌}
use borrow.Author.Tests.{le-leb, lt-leb, eq-eqb, ne_eqb, not-true, not-false}
use Rattle.wavelet.specs.Limits.{max_width, max_height, max_origin}
use Rattle.reader.specs.Last.{max_spare}
use Rattle.reader.proofs.QuestionLaws.{levels-asked}
use Rattle.reader.proofs.LastLaws as laws
use Rattle.reader.proofs.last.counts_fit.Goals as goal

pub returns-then-not-is_filter : goal.returns-then-not-is_filter
unfolding max_width max_height max_origin
returns-then-not-is_filter c =
    laws.last-0 _ (sym c.is_filter.ensures ∙ not-true _ c.if-not-is_filter.true-raw)

pub returns-then-not-is_within : goal.returns-then-not-is_within
unfolding max_width max_height max_origin
returns-then-not-is_within c =
    laws.last-1 _ (sym c.is_filter.ensures ∙ not-false _ c.if-not-is_filter.false-raw)
    (levels-asked _ _ _ _ _ c.most_levels.ensures c.is_within.ensures (not-true _ c.if-not-is_within.true-raw))

pub returns-then-s-gt-MAX_WIDTH : goal.returns-then-s-gt-MAX_WIDTH
unfolding max_width max_height max_origin
returns-then-s-gt-MAX_WIDTH c =
    laws.last-2 _ (sym c.is_filter.ensures ∙ not-false _ c.if-not-is_filter.false-raw)
    (levels-asked _ _ _ _ _ c.most_levels.ensures c.is_within.ensures (not-false _ c.if-not-is_within.false-raw))
    (lt-leb _ max_width c.if-s-gt-MAX_WIDTH.true)

pub returns-then-s-gt-MAX_HEIGHT : goal.returns-then-s-gt-MAX_HEIGHT
unfolding max_width max_height max_origin
returns-then-s-gt-MAX_HEIGHT c =
    laws.last-3 _ (sym c.is_filter.ensures ∙ not-false _ c.if-not-is_filter.false-raw)
    (levels-asked _ _ _ _ _ c.most_levels.ensures c.is_within.ensures (not-false _ c.if-not-is_within.false-raw))
    (le-leb _ max_width c.if-s-gt-MAX_WIDTH.false) (lt-leb _ max_height c.if-s-gt-MAX_HEIGHT.true)

pub returns-then-s-gt-MAX_ORIGIN : goal.returns-then-s-gt-MAX_ORIGIN
unfolding max_width max_height max_origin
returns-then-s-gt-MAX_ORIGIN c =
    laws.last-4 _ (sym c.is_filter.ensures ∙ not-false _ c.if-not-is_filter.false-raw)
    (levels-asked _ _ _ _ _ c.most_levels.ensures c.is_within.ensures (not-false _ c.if-not-is_within.false-raw))
    (le-leb _ max_width c.if-s-gt-MAX_WIDTH.false) (le-leb _ max_height c.if-s-gt-MAX_HEIGHT.false) (lt-leb _ max_origin c.if-s-gt-MAX_ORIGIN.true)

pub returns-then-s-gt-MAX_ORIGIN-2 : goal.returns-then-s-gt-MAX_ORIGIN-2
unfolding max_width max_height max_origin
returns-then-s-gt-MAX_ORIGIN-2 c =
    laws.last-5 _ (sym c.is_filter.ensures ∙ not-false _ c.if-not-is_filter.false-raw)
    (levels-asked _ _ _ _ _ c.most_levels.ensures c.is_within.ensures (not-false _ c.if-not-is_within.false-raw))
    (le-leb _ max_width c.if-s-gt-MAX_WIDTH.false) (le-leb _ max_height c.if-s-gt-MAX_HEIGHT.false) (le-leb _ max_origin c.if-s-gt-MAX_ORIGIN.false) (lt-leb _ max_origin c.if-s-gt-MAX_ORIGIN-2.true)

pub returns-then-s : goal.returns-then-s
unfolding max_width max_height max_origin
returns-then-s c =
    laws.last-6 _ (sym c.is_filter.ensures ∙ not-false _ c.if-not-is_filter.false-raw)
    (levels-asked _ _ _ _ _ c.most_levels.ensures c.is_within.ensures (not-false _ c.if-not-is_within.false-raw))
    (le-leb _ max_width c.if-s-gt-MAX_WIDTH.false) (le-leb _ max_height c.if-s-gt-MAX_HEIGHT.false) (le-leb _ max_origin c.if-s-gt-MAX_ORIGIN.false) (le-leb _ max_origin c.if-s-gt-MAX_ORIGIN-2.false)
    (lt-leb _ _ c.if-s.true)

pub returns-then-s-ne0 : goal.returns-then-s-ne0
unfolding max_width max_height max_origin
returns-then-s-ne0 c =
    laws.last-7 _ (sym c.is_filter.ensures ∙ not-false _ c.if-not-is_filter.false-raw)
    (levels-asked _ _ _ _ _ c.most_levels.ensures c.is_within.ensures (not-false _ c.if-not-is_within.false-raw))
    (le-leb _ max_width c.if-s-gt-MAX_WIDTH.false) (le-leb _ max_height c.if-s-gt-MAX_HEIGHT.false) (le-leb _ max_origin c.if-s-gt-MAX_ORIGIN.false) (le-leb _ max_origin c.if-s-gt-MAX_ORIGIN-2.false)
    (le-leb _ _ c.if-s.false) (ne_eqb _ 0 c.if-s-ne0.true)

pub returns-then-s-gt4 : goal.returns-then-s-gt4
unfolding max_width max_height max_origin
returns-then-s-gt4 c =
    laws.last-8 _ (sym c.is_filter.ensures ∙ not-false _ c.if-not-is_filter.false-raw)
    (levels-asked _ _ _ _ _ c.most_levels.ensures c.is_within.ensures (not-false _ c.if-not-is_within.false-raw))
    (le-leb _ max_width c.if-s-gt-MAX_WIDTH.false) (le-leb _ max_height c.if-s-gt-MAX_HEIGHT.false) (le-leb _ max_origin c.if-s-gt-MAX_ORIGIN.false) (le-leb _ max_origin c.if-s-gt-MAX_ORIGIN-2.false)
    (le-leb _ _ c.if-s.false) (eq-eqb _ 0 c.if-s-ne0.false) (lt-leb _ 4 c.if-s-gt4.true)

pub returns-then-s-ne0-2 : goal.returns-then-s-ne0-2
unfolding max_width max_height max_origin
returns-then-s-ne0-2 c =
    laws.last-9 _ (sym c.is_filter.ensures ∙ not-false _ c.if-not-is_filter.false-raw)
    (levels-asked _ _ _ _ _ c.most_levels.ensures c.is_within.ensures (not-false _ c.if-not-is_within.false-raw))
    (le-leb _ max_width c.if-s-gt-MAX_WIDTH.false) (le-leb _ max_height c.if-s-gt-MAX_HEIGHT.false) (le-leb _ max_origin c.if-s-gt-MAX_ORIGIN.false) (le-leb _ max_origin c.if-s-gt-MAX_ORIGIN-2.false)
    (le-leb _ _ c.if-s.false) (eq-eqb _ 0 c.if-s-ne0.false) (le-leb _ 4 c.if-s-gt4.false) (ne_eqb _ 0 c.if-s-ne0-2.true)

pub returns-then-s-2 : goal.returns-then-s-2
unfolding max_width max_height max_origin
returns-then-s-2 c =
    laws.last-10 _ (sym c.is_filter.ensures ∙ not-false _ c.if-not-is_filter.false-raw)
    (levels-asked _ _ _ _ _ c.most_levels.ensures c.is_within.ensures (not-false _ c.if-not-is_within.false-raw))
    (le-leb _ max_width c.if-s-gt-MAX_WIDTH.false) (le-leb _ max_height c.if-s-gt-MAX_HEIGHT.false) (le-leb _ max_origin c.if-s-gt-MAX_ORIGIN.false) (le-leb _ max_origin c.if-s-gt-MAX_ORIGIN-2.false)
    (le-leb _ _ c.if-s.false) (eq-eqb _ 0 c.if-s-ne0.false) (le-leb _ 4 c.if-s-gt4.false) (eq-eqb _ 0 c.if-s-ne0-2.false) (lt-leb _ _ c.if-s-2.true)

pub returns-then-s-gt-MAX_SPARE : goal.returns-then-s-gt-MAX_SPARE
unfolding max_width max_height max_origin max_spare
returns-then-s-gt-MAX_SPARE c =
    laws.last-11 _ (sym c.is_filter.ensures ∙ not-false _ c.if-not-is_filter.false-raw)
    (levels-asked _ _ _ _ _ c.most_levels.ensures c.is_within.ensures (not-false _ c.if-not-is_within.false-raw))
    (le-leb _ max_width c.if-s-gt-MAX_WIDTH.false) (le-leb _ max_height c.if-s-gt-MAX_HEIGHT.false) (le-leb _ max_origin c.if-s-gt-MAX_ORIGIN.false) (le-leb _ max_origin c.if-s-gt-MAX_ORIGIN-2.false)
    (le-leb _ _ c.if-s.false) (eq-eqb _ 0 c.if-s-ne0.false) (le-leb _ 4 c.if-s-gt4.false) (eq-eqb _ 0 c.if-s-ne0-2.false) (le-leb _ _ c.if-s-2.false)
    (lt-leb _ _ c.if-s-gt-MAX_SPARE.true)

pub returns : goal.returns
unfolding max_width max_height max_origin max_spare
returns c =
    laws.last-all _ (sym c.is_filter.ensures ∙ not-false _ c.if-not-is_filter.false-raw)
    (levels-asked _ _ _ _ _ c.most_levels.ensures c.is_within.ensures (not-false _ c.if-not-is_within.false-raw))
    (le-leb _ max_width c.if-s-gt-MAX_WIDTH.false) (le-leb _ max_height c.if-s-gt-MAX_HEIGHT.false) (le-leb _ max_origin c.if-s-gt-MAX_ORIGIN.false) (le-leb _ max_origin c.if-s-gt-MAX_ORIGIN-2.false)
    (le-leb _ _ c.if-s.false) (eq-eqb _ 0 c.if-s-ne0.false) (le-leb _ 4 c.if-s-gt4.false) (eq-eqb _ 0 c.if-s-ne0-2.false) (le-leb _ _ c.if-s-2.false)
    (le-leb _ _ c.if-s-gt-MAX_SPARE.false)
