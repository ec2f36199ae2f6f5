-- The samples after a header with the largest value m: "one byte a sample below 256, two from 256 on", the most significant first. Heights are
-- samples as they stand, unscaled.
use Rattle.std.specs.Prelude.{Bool, true, false, List, [], ◌∷◌, ℕ, ◌+◌, ◌*◌, leb}
use Rattle.numbers.specs.Signal.{pick}

-- two bytes a sample
unfoldable pub wide : ℕ → Bool
wide m = leb 256 m

unfoldable pub sample_size : ℕ → ℕ
sample_size m = pick (wide m) 2 1

-- the samples of two bytes; a byte left over is none
unfoldable pub pairs_of : List ℕ → List ℕ
pairs_of [] = []
pairs_of (h ∷ []) = []
pairs_of (h ∷ l ∷ s) = (256 * h + l) ∷ pairs_of s

-- the whole samples of a list of bytes
unfoldable pub samples_of : ℕ → List ℕ → List ℕ
samples_of m s = pick (wide m) (pairs_of s) s

-- samples before the first that exceeds the largest value, and whether one does
unfoldable pub fitting : ℕ → List ℕ → List ℕ
fitting m [] = []
fitting m (v ∷ l) = pick (leb v m) (v ∷ fitting m l) []

unfoldable pub exceeds : ℕ → List ℕ → Bool
exceeds m [] = false
exceeds m (v ∷ l) = pick (leb v m) (exceeds m l) true

-- the heights of a list of bytes
unfoldable pub heights_of : ℕ → List ℕ → List ℕ
heights_of m s = fitting m (samples_of m s)
