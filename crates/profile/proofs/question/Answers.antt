-- `question`: each test is the definition's, in its order. Assumes nothing.
use mathlib.Core.Path.{◌≡◌, sym, ap, ◌∙◌}
use mathlib.Core.Bool.{Bool}
use Prim.Native.Nat.{ℕ}
use borrow.Author.Tests.{not-true, not-false}
use Rattle.wavelet.specs.Limits.{max_width}
use Rattle.wavelet.specs.Questions.{within}
use Rattle.profile.proofs.CallLaws.{width-no, area-no, both_yes}
use Rattle.profile.proofs.question.Goals as goal

-- the test, with the limit that the call gave
told : (n : ℕ) {most : ℕ} {t u : Bool} → most ≡ max_width → t ≡ within 1 most n → t ≡ u → within 1 max_width n ≡ u
told n e t u = ap (λ (m : ℕ). within 1 m n) (sym e) ∙ sym t ∙ u

pub returns-then-not-is_within : goal.returns-then-not-is_within
returns-then-not-is_within c = width-no _ _ (told _ c.max_width.ensures c.is_within.ensures (not-true _ c.if-not-is_within.true-raw))

pub returns-then-m-n : goal.returns-then-m-n
returns-then-m-n c =
    area-no _ _ (told _ c.max_width.ensures c.is_within.ensures (not-false _ c.if-not-is_within.false-raw)) c.if-m-n.true

pub returns : goal.returns
returns c =
    both_yes _ _ (told _ c.max_width.ensures c.is_within.ensures (not-false _ c.if-not-is_within.false-raw)) c.if-m-n.false
