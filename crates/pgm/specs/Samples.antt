-- The samples after a header with the largest value m, a byte at a time.
use Rattle.std.specs.Prelude.{Bool, true, false, List, [], ◌∷◌, ℕ, ◌+◌, ◌*◌, leb}
use Rattle.numbers.specs.Signal.{pick}
use Rattle.pgm.specs.Runs.{wide}
use Rattle.pgm.specs.declared.samples.Samples.{Samples}
use Rattle.pgm.specs.SampleAnswer.{SampleAnswer}
use Rattle.pgm.specs.SampleAnswer.{Half, Height, No16}

abbrev pub no_byte : ℕ → Samples
no_byte m = record { largest = m; half = false; high = 0 }

-- a whole sample
unfoldable pub sampled : ℕ → ℕ → SampleAnswer
sampled m v = pick (leb v m) (Height v) No16

unfoldable pub sample_of : Samples → ℕ → SampleAnswer
sample_of x b =
    pick (wide x.largest)
    (pick x.half (sampled x.largest (256 * x.high + b)) (Half (record { largest = x.largest; half = true; high = b })))
    (sampled x.largest b)

-- the heights that came whole, whether one was too large then, and the state
pub record Taken : Type 0 where
  pub heights : List ℕ
  pub over : Bool
  pub state : Samples

abbrev pub taken_on : (Samples → Taken) → Samples → SampleAnswer → Taken
taken_on f x (Half y) = f y
taken_on f x (Height v) = let t = f (no_byte x.largest) in record { heights = v ∷ t.heights; over = t.over; state = t.state }
taken_on f x No16 = record { heights = []; over = true; state = x }

-- byte after byte, until a sample is too large
unfoldable pub takes : Samples → List ℕ → Taken
takes x [] = record { heights = []; over = false; state = x }
takes x (b ∷ s) = taken_on (λ y. takes y s) x (sample_of x b)
