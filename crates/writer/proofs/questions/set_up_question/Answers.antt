-- `questions::set_up_question` meets its contract: each test is the definition's, in its order. Assumes nothing.
use mathlib.Core.Path.{◌≡◌, sym, ap, ◌∙◌}
use mathlib.Core.Bool.{true}
use Prim.Native.Nat.{ℕ, ◌<◌, ◌≤◌}
use native.Mathlib.Omega.{arith}
use borrow.Author.Tests.{not-true, not-false, le-leb, lt-leb}
use Rattle.numbers.specs.Signal.{pick}
use Rattle.lifting.specs.Grid.{Side}
use Rattle.wavelet.specs.Limits.{max_width}
use Rattle.wavelet.specs.Questions.{within}
use Rattle.filters.specs.Filters.{filter_of}
use Rattle.filters.specs.Figures.{writer_store_by, streamable}
use Rattle.writer.specs.Questions.{known, set_up_question}
use Rattle.writer.proofs.QuestionLaws.{known-filter}
use Rattle.writer.proofs.questions.set_up_question.Goals as goal

module _ (f : ℕ) (W : Side) (L n k : ℕ) (w : within 1 max_width W.length ≡ true) (i : known f ≡ true) (l : within 1 (filter_of f).levels L ≡ true)
    (e : k ≡ pick (streamable f W L) (writer_store_by f W L) 0) where
  needed : k ≡ writer_store_by f W L
  unfolding streamable
  needed = e ∙ simp (known-filter f i, w, l)

  short : n < k → 5 ≡ set_up_question f W L n
  unfolding set_up_question
  short g = simp (w, i, l, lt-leb (writer_store_by f W L) n (omega (arith, needed)))

  long : k ≤ n → 0 ≡ set_up_question f W L n
  unfolding set_up_question
  long g = simp (w, i, l, le-leb (writer_store_by f W L) n (omega (arith, needed)))

pub returns-then-not-is_within : goal.returns-then-not-is_within
unfolding set_up_question max_width
returns-then-not-is_within c = simp (sym c.is_within.ensures ∙ not-true _ c.if-not-is_within.true-raw)

pub returns-then-not-is_filter : goal.returns-then-not-is_filter
unfolding set_up_question max_width
returns-then-not-is_filter c = simp (
  sym c.is_within.ensures ∙ not-false _ c.if-not-is_within.false-raw,
  sym c.is_filter.ensures ∙ not-true _ c.if-not-is_filter.true-raw,
)

pub returns-then-not-is_within-2 : goal.returns-then-not-is_within-2
unfolding set_up_question max_width
returns-then-not-is_within-2 c =
    let a = c.args in
    simp (
      sym c.is_within.ensures ∙ not-false _ c.if-not-is_within.false-raw,
      sym c.is_filter.ensures ∙ not-false _ c.if-not-is_filter.false-raw,
      sym (c.is_within-2.ensures ∙ ap (λ m. within 1 m a.levels) c.most_levels.ensures) ∙ not-true _ c.if-not-is_within-2.true-raw,
    )

pub returns-then-n-writer_store_length : goal.returns-then-n-writer_store_length
unfolding max_width
returns-then-n-writer_store_length c =
    let a = c.args in
    short _ _ _ _ _ (sym c.is_within.ensures ∙ not-false _ c.if-not-is_within.false-raw) (sym c.is_filter.ensures ∙ not-false _ c.if-not-is_filter.false-raw)
    (sym (c.is_within-2.ensures ∙ ap (λ m. within 1 m a.levels) c.most_levels.ensures) ∙ not-false _ c.if-not-is_within-2.false-raw)
    c.writer_store_length.ensures (omega arith)

pub returns : goal.returns
unfolding max_width
returns c =
    let a = c.args in
    long _ _ _ _ _ (sym c.is_within.ensures ∙ not-false _ c.if-not-is_within.false-raw) (sym c.is_filter.ensures ∙ not-false _ c.if-not-is_filter.false-raw)
    (sym (c.is_within-2.ensures ∙ ap (λ m. within 1 m a.levels) c.most_levels.ensures) ∙ not-false _ c.if-not-is_within-2.false-raw)
    c.writer_store_length.ensures (omega arith)
