-- What the bytes r after a header bring: m is the largest value, n how many heights the picture has.
use Rattle.std.specs.Prelude.{Bool, List, ℕ, ◌*◌, ltb, length, take}
use Rattle.numbers.specs.Signal.{pick, both}
use Rattle.pgm.specs.Runs.{sample_size, samples_of, exceeds, heights_of}

-- at most n heights are taken, and none from a sample on that exceeds the largest value
unfoldable pub heights_taken : ℕ → ℕ → List ℕ → List ℕ
heights_taken m n r = take n (heights_of m r)

-- question 16: "Refused: 16, asked of each sample as it is read, after 15's header question, if the sample exceeds the largest value."
unfoldable pub too_large : ℕ → ℕ → List ℕ → Bool
too_large m n r = exceeds m (take n (samples_of m r))

-- the bytes of n samples
abbrev pub bytes_of : ℕ → ℕ → ℕ
bytes_of m n = sample_size m * n

-- the refusal that the bytes bring, 0 for none: 16 for a sample, 15 for a byte after the last sample, and 15 for too few bytes where the input
-- ends with them (e); while more may come there is none for that
unfoldable pub refusal_in : Bool → ℕ → ℕ → List ℕ → ℕ
refusal_in e m n r =
    pick (too_large m n r) 16
    (pick (ltb (bytes_of m n) (length r)) 15
    (pick (both e (ltb (length r) (bytes_of m n))) 15 0))
