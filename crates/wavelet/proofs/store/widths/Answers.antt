-- `store::widths` meets its contract: each test is the definition's. Assumes nothing.
use mathlib.Core.Path.{◌≡◌, sym, ◌∙◌}
use mathlib.Core.Bool.{true, false}
use Prim.Native.Nat.{ℕ}
use borrow.Author.Tests.{not-true, not-false}
use Rattle.numbers.specs.Signal.{pick, both}
use Rattle.lifting.specs.Grid.{side}
use Rattle.wavelet.specs.Limits.{max_width, max_levels}
use Rattle.wavelet.specs.Questions.{within}
use Rattle.wavelet.specs.Store.{widths}
use Rattle.wavelet.proofs.QuestionLaws.{within-true}
use Rattle.wavelet.proofs.store.widths.Goals as goal

module _ (W x L : ℕ) where
  wide : within 1 max_width W ≡ false → 0 ≡ pick (both (within 1 max_width W) (within 1 max_levels L)) (widths (side x W) L) 0
  wide a = rw a

  deep : within 1 max_width W ≡ true → within 1 max_levels L ≡ false → 0 ≡ pick (both (within 1 max_width W) (within 1 max_levels L)) (widths (side x W) L) 0
  deep a b = rw (a, b)

  fits : within 1 max_width W ≡ true → within 1 max_levels L ≡ true →
      widths (side x W) L ≡ pick (both (within 1 max_width W) (within 1 max_levels L)) (widths (side x W) L) 0
  fits a b = rw (a, b)

pub returns-then-not-is_within : goal.returns-then-not-is_within
unfolding max_width max_levels
returns-then-not-is_within c = wide _ _ _ (sym c.is_within.ensures ∙ not-true _ c.if-not-is_within.true-raw)

pub returns-then-not-is_within-2 : goal.returns-then-not-is_within-2
unfolding max_width max_levels
returns-then-not-is_within-2 c =
    deep _ _ _ (sym c.is_within.ensures ∙ not-false _ c.if-not-is_within.false-raw) (sym c.is_within-2.ensures ∙ not-true _ c.if-not-is_within-2.true-raw)

pub added-requires : goal.added-requires
unfolding max_width max_levels
added-requires c =
    let w = within-true 1 max_width _ (sym c.is_within.ensures ∙ not-false _ c.if-not-is_within.false-raw) in
    let l = within-true 1 max_levels _ (sym c.is_within-2.ensures ∙ not-false _ c.if-not-is_within-2.false-raw) in
    (w.1, l.1)

pub returns : goal.returns
unfolding max_width max_levels
returns c =
    c.added.ensures ∙ fits _ _ _ (sym c.is_within.ensures ∙ not-false _ c.if-not-is_within.false-raw)
    (sym c.is_within-2.ensures ∙ not-false _ c.if-not-is_within-2.false-raw)
