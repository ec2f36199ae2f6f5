-- `limits::size_question` meets its contract: each test is the definition's, in its order. Assumes nothing.
use mathlib.Core.Path.{◌≡◌, sym, ◌∙◌}
use mathlib.Core.Bool.{Bool, true, false}
use Prim.Native.Nat.{ℕ}
use borrow.Author.Tests.{not-true, not-false}
use Rattle.wavelet.specs.Limits.{max_width, max_height, max_levels}
use Rattle.wavelet.specs.Questions.{ask, within, size_question}
use Rattle.wavelet.proofs.limits.size_question.Goals as goal

module _ (W H L : ℕ) where
  second : within 1 max_width W ≡ false → 2 ≡ size_question W H L
  unfolding size_question
  second a = rw a

  third : within 1 max_width W ≡ true → within 1 max_height H ≡ false → 3 ≡ size_question W H L
  unfolding size_question
  third a b = rw (a, b)

  fourth : (l : Bool) → within 1 max_width W ≡ true → within 1 max_height H ≡ true → within 1 max_levels L ≡ l → ask l 4 0 ≡ size_question W H L
  unfolding size_question
  fourth l a b d = rw (a, b, d)

pub returns-then-not-is_within : goal.returns-then-not-is_within
unfolding max_width max_height max_levels
returns-then-not-is_within c = second _ _ _ (sym c.is_within.ensures ∙ not-true _ c.if-not-is_within.true-raw)

pub returns-then-not-is_within-2 : goal.returns-then-not-is_within-2
unfolding max_width max_height max_levels
returns-then-not-is_within-2 c =
    third _ _ _ (sym c.is_within.ensures ∙ not-false _ c.if-not-is_within.false-raw) (sym c.is_within-2.ensures ∙ not-true _ c.if-not-is_within-2.true-raw)

pub returns-then-not-is_within-3 : goal.returns-then-not-is_within-3
unfolding max_width max_height max_levels
returns-then-not-is_within-3 c =
    fourth _ _ _ false
    (sym c.is_within.ensures ∙ not-false _ c.if-not-is_within.false-raw)
    (sym c.is_within-2.ensures ∙ not-false _ c.if-not-is_within-2.false-raw)
    (sym c.is_within-3.ensures ∙ not-true _ c.if-not-is_within-3.true-raw)

pub returns : goal.returns
unfolding max_width max_height max_levels
returns c =
    fourth _ _ _ true
    (sym c.is_within.ensures ∙ not-false _ c.if-not-is_within.false-raw)
    (sym c.is_within-2.ensures ∙ not-false _ c.if-not-is_within-2.false-raw)
    (sym c.is_within-3.ensures ∙ not-false _ c.if-not-is_within-3.false-raw)
