-- Heights put into a row of a level, one after the other or a stretch at a time.
use Rattle.std.specs.Prelude.{Bool, List, ℕ, zero, suc, ◌+◌, leb, ℤ, pos, get_or}
use Rattle.numbers.specs.Signal.{both, stored}
use Rattle.lifting.specs.Grid.{Side}
use Rattle.level.specs.Level.{Memory}
use Rattle.level.specs.Cells.{spot}

-- a run of heights as a signal
abbrev pub height_at : List ℕ → ℕ → ℤ
height_at run j = pos (get_or run j 0)

-- n heights h put into a row x of the columns W, from column c on
unfoldable pub heights_put : Side → ℕ → ℕ → (ℕ → ℤ) → Memory → Memory
heights_put W c zero h x = x
heights_put W c (suc n) h x = stored (spot W (c + n)) (h n) (heights_put W c n h x)

-- the n columns from c on lie in a row of w, and the n heights from f on within l heights
unfoldable pub heights_fit : ℕ → ℕ → ℕ → ℕ → ℕ → Bool
heights_fit w c n l f = both (leb (c + n) w) (leb (f + n) l)
