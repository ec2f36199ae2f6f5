-- `questions::state_question` meets its contract: each test is the definition's, in its order. Assumes nothing.
use mathlib.Core.Path.{◌≡◌, sym, ◌∙◌}
use mathlib.Core.Bool.{true}
use Prim.Native.Nat.{ℕ, ◌-◌, ◌<◌, ◌≤◌}
use native.Mathlib.Omega.{arith}
use lib.Dec.{leb}
use borrow.Author.Tests.{not-true, not-false, le-leb, lt-leb, leb-true}
use Rattle.numbers.specs.Signal.{pick, both}
use Rattle.numbers.proofs.Sweep as sweep
use Rattle.wavelet.specs.Limits.{max_width}
use Rattle.wavelet.proofs.StoreLaws.{store-most}
use Rattle.filters.specs.Filters.{filter_of}
use Rattle.filters.specs.Figures.{writer_store_by, any_by, streamable}
use Rattle.filters.proofs.FigureLaws.{streams, levels-most, stretch-some}
use Rattle.writer.specs.declared.Writer.{Writer}
use Rattle.writer.specs.Taking.{columns_of}
use Rattle.writer.specs.Questions.{on_grid, in_ranges, long_enough}
use Rattle.writer.specs.FirstQuestions.{state_question}
use Rattle.writer.proofs.questions.state_question.Goals as goal

-- questions 2, 18 and 4 would pass
sized : (s : Writer) → in_ranges s ≡ true → streamable s.filter (columns_of s) s.levels ≡ true
unfolding in_ranges
sized s h = (sweep.both (streamable s.filter (columns_of s) s.levels) _ (sweep.both (on_grid s.x s.y) _ h).1).0

module _ (s : Writer) (n : ℕ) (h : in_ranges s ≡ true) where
  abbrev need : ℕ
  need = writer_store_by s.filter (columns_of s) s.levels

  -- m: the spare row taken off
  any : (m : ℕ) → m ≡ n - s.width → both (leb s.width max_width) (leb (any_by s.filter s.width) m) ≡ true → 0 ≡ state_question s n
  unfolding state_question long_enough
  any k e g =
      let l = (streams s.filter (columns_of s) s.levels (sized s h)).levels.1 in
      let m = store-most (filter_of s.filter).rows (columns_of s) s.levels (omega (arith, l, levels-most s.filter)) in
      simp (
        h,
        le-leb need n (omega (
          arith,
          m,
          e,
          stretch-some s.filter (columns_of s) s.levels (sized s h),
          leb-true (any_by s.filter s.width) k (sweep.both (leb s.width max_width) _ g).1,
        )),
      )

  module _ (k : ℕ) (e : k ≡ pick (streamable s.filter (columns_of s) s.levels) need 0) where
    needed : k ≡ need
    needed = e ∙ simp (sized s h)

    short : n < k → 5 ≡ state_question s n
    unfolding state_question long_enough
    short g = simp (h, lt-leb need n (omega (arith, needed)))

    long : k ≤ n → 0 ≡ state_question s n
    unfolding state_question long_enough
    long g = simp (h, le-leb need n (omega (arith, needed)))

pub returns-then-not-fits : goal.returns-then-not-fits
unfolding state_question
returns-then-not-fits c = simp (sym c.requires ∙ not-true _ c.if-not-fits.true-raw)

pub returns-then-holds_any : goal.returns-then-holds_any
returns-then-holds_any c =
    any _ _ (sym c.requires ∙ not-false _ c.if-not-fits.false-raw) _ c.minus.ensures (sym c.holds_any.ensures ∙ c.if-holds_any.true)

pub returns-then-n-writer_store_length : goal.returns-then-n-writer_store_length
returns-then-n-writer_store_length c =
    short _ _ (sym c.requires ∙ not-false _ c.if-not-fits.false-raw) _ c.writer_store_length.ensures (omega arith)

pub returns : goal.returns
returns c =
    long _ _ (sym c.requires ∙ not-false _ c.if-not-fits.false-raw) _ c.writer_store_length.ensures (omega arith)
