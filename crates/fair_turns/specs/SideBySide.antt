-- Readers of whole maps and readers with a stop (Q-6), side by side: each of a map of the columns W and the rows H at L levels by the filter f, on a store in
-- which x stood, of which its feeds are lent n numbers.
use Rattle.std.specs.Prelude.{◌≡◌, Bool, true, false, ℕ, ◌≤◌, ℤ}
use Rattle.lifting.specs.Grid.{Side}
use Rattle.wavelet.specs.Limits.{max_origin}
use Rattle.reader.specs.Questions.{set_up_question, stop_question}
use Rattle.reader.specs.Stops.{works}
use Rattle.fair_turns.specs.Reading.{Reading}
use Rattle.fair_turns.specs.Standing.{standing}
use Rattle.fair_turns.specs.Stopping.{stopping, handing}

-- f, W, H, L, n and x; after L the level of the stop
pub data Kind : Type 0 where
  whole : ℕ → Side → Side → ℕ → ℕ → (ℕ → ℤ) → Kind
  stopped : ℕ → Side → Side → ℕ → ℕ → ℕ → (ℕ → ℤ) → Kind

-- with levels to work out, or with none
abbrev pub stopped_by : Bool → ℕ → Side → Side → ℕ → ℕ → ℕ → (ℕ → ℤ) → Reading
stopped_by true f W H L j n x = stopping f W H L j n x
stopped_by false f W H L j n x = handing f W H L j n x

abbrev pub reading_of : Kind → Reading
reading_of (whole f W H L n x) = standing f W H L n x
reading_of (stopped f W H L j n x) = stopped_by (works W H L j) f W H L j n x

-- its origin is within the limits, and its set-up passed
abbrev pub IsSetUp : Kind → Type 0
IsSetUp (whole f W H L n x) = (W.start ≤ max_origin) × (H.start ≤ max_origin) × (set_up_question f W H L n ≡ 0)
IsSetUp (stopped f W H L j n x) = (W.start ≤ max_origin) × (H.start ≤ max_origin) × (stop_question f W H L j n ≡ 0)
