-- The pass over the high numbers of a line of N numbers in halves, `low` low ones first, as the private functions make it. Each high number n has the low
-- numbers n + o − 1 and n + o on both sides, and farther off n + o − 2 and n + o + 1; o is 0 where the line begins with a high number, else 1. Where there is
-- none such it is the nearest, but for the farther ones of the first and of the last high number, which are mirrored to the second low number from there.
use Rattle.std.specs.Prelude.{ℕ, ◌+◌, ◌-◌, ℤ, leb, ltb, eqb}
use Rattle.numbers.specs.Signal.{pick}
use Rattle.numbers.specs.Word.{wrap32}
use Rattle.lifting.specs.Line.{Half}
use Rattle.lifting.specs.Grid.{Side, joined}
use Rattle.lifting.specs.GridHalves.{halves_of}
use Rattle.lifting.specs.Passes.{near}
use Rattle.nine_seven.specs.NineSeven.{line_halves_back}

unfoldable pub far_left : ℕ → ℕ → ℕ → ℕ
far_left low o n = pick (eqb n 0) (near low 1) (n + o - 2)

unfoldable pub far_right : ℕ → ℕ → ℕ → ℕ → ℕ
far_right low high o n = pick (eqb (n + 1) high) (low - 2) (near low (n + o + 1))

-- high number n changed by the rule f
unfoldable pub high_by : (ℤ → ℤ → ℤ → ℤ → ℤ → ℤ) → ℕ → ℕ → ℕ → (ℕ → ℤ) → ℕ → ℤ
high_by f o low N y n =
    f (y (low + n)) (y (near low (n + o - 1))) (y (near low (n + o))) (y (far_left low o n)) (y (far_right low (N - low) o n))

-- the high numbers a to b − 1 changed so
unfoldable pub highs_between : (ℤ → ℤ → ℤ → ℤ → ℤ → ℤ) → ℕ → ℕ → ℕ → ℕ → ℕ → (ℕ → ℤ) → ℕ → ℤ
highs_between f o low N a b y j = pick (leb (low + a) j) (pick (ltb j (low + b)) (high_by f o low N y (j - low)) (y j)) (y j)

-- ---- the way back from area to area
-- the halves of the line that has the coefficients y, and that line, from place a to place b − 1, in memory z
unfoldable pub made : Side → (ℕ → ℤ) → Half → ℕ → ℤ
made S y = line_halves_back wrap32 S (halves_of S y)

unfoldable pub line_put : Side → ℕ → ℕ → (ℕ → ℤ) → (ℕ → ℤ) → ℕ → ℤ
line_put S a b y z j = pick (leb a j) (pick (ltb j b) (joined S (made S y) j) (z j)) (z j)
