-- Where a band row stands, as `locate` answers it: document 01's number and values for each case of the answer, and which of them it is.
use Rattle.std.specs.Prelude.{false, ℕ, ltb, eqb, Result, Ok, Err}
use Rattle.numbers.specs.Signal.{pick, both}
use Rattle.lifting.specs.Grid.{Side}
use Rattle.wavelet.specs.ViewCall.{named, band_row_exists, view_question, view_start, view_length}
use Rattle.refusal.specs.declared.Refusal.{Refusal}
use Rattle.refusal.specs.Numbers.{number}
use Rattle.wavelet.specs.declared.view.Span.{Span}

-- the row's first place in the plane and its length, or the number of the question that turned the call away
pub data Answer : Type 0 where
  gives : ℕ → ℕ → Answer
  refused : ℕ → Answer

abbrev pub of_span : Result Span Refusal → Answer
of_span (Ok s) = gives s.start s.length
of_span (Err r) = refused (number r)

-- row r of a band of some rows, each of n numbers
unfoldable pub kept_span : ℕ → ℕ → ℕ → ℕ → Answer
kept_span r rows start n = pick (both (ltb 0 n) (ltb r rows)) (gives start n) (refused 6)

-- question 6 alone
unfoldable pub stretch_of : Side → Side → ℕ → ℕ → ℕ → ℕ → Answer
stretch_of W H L k c r =
    pick (named c (λ b. band_row_exists W H L k b r) false) (gives (view_start W H k c r) (view_length W k c)) (refused 6)

-- the row's start and length, or the number of the first question that says no
unfoldable pub span_of : ℕ → Side → Side → ℕ → ℕ → ℕ → ℕ → Answer
span_of n W H L k c r =
    pick (eqb (view_question n W H L k c r) 0) (gives (view_start W H k c r) (view_length W k c)) (refused (view_question n W H L k c r))
