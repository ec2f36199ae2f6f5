-- What the call is lent, answers and leaves.
use Rattle.std.specs.Prelude.{List, ℕ, pos, length, get_or, leb, ltb, eqb, Float}
use Rattle.std.specs.Float.{binary32, nan}
use Rattle.std.specs.Float.Ieee.{of_int}
use Rattle.numbers.specs.Signal.{pick}
use Rattle.wavelet.specs.Limits.{max_width}
use Rattle.wavelet.specs.Questions.{ask, within}
use Rattle.profile.specs.Profile.{profile}

-- a lent row as the signal of its heights, each as a 32-bit float: all of 0 to 65,535 are 32-bit floats, so nothing is rounded
unfoldable pub heights : List ℕ → ℕ → Float
heights l i = of_int binary32 (pos (get_or l i 0))

-- a lent area of floats as a signal
abbrev pub floats : List Float → ℕ → Float
floats l i = get_or l i nan

-- the signal z with the first n numbers of y at its front
unfoldable pub fronted : ℕ → (ℕ → Float) → (ℕ → Float) → ℕ → Float
fronted n y z j = pick (ltb j n) (y j) (z j)

-- questions 2 and 5, of a row of n heights and an area of m floats
unfoldable pub profile_question : ℕ → ℕ → ℕ
profile_question n m = ask (within 1 max_width n) 2 (ask (leb n m) 5 0)

-- what stands in the area afterwards, by the answer
unfoldable pub profiled : ℕ → ℕ → (ℕ → Float) → (ℕ → Float) → ℕ → Float
profiled r n y z = pick (eqb r 0) (fronted n y z) z

-- the same of a lent row and a lent area: the row's profile at the front, where the answer r is 0
abbrev pub smoothed : ℕ → List ℕ → List Float → ℕ → Float
smoothed r row out = profiled r (length row) (profile (length row) (heights row)) (floats out)
