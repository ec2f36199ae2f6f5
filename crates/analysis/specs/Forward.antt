-- A level on the way forward as the streams know it, by what its filter does to the columns: the level itself, and what its calls ask and leave. By its
-- filter's number, 0 the 5/3, any other the integer 9/7: `kind_of`. Document 02, Q-8.
use Rattle.std.specs.Prelude.{Bool, ℕ, zero, suc, ◌+◌, ◌*◌, ◌%◌, ◌^◌, leb, ℤ}
use Rattle.numbers.specs.Signal.{both, stored}
use Rattle.lifting.specs.Grid.{Side}
use Rattle.filters.specs.Filters.{filter_of}
use Rattle.wavelet.specs.Bands.{LL}
use Rattle.wavelet.specs.Levels.{next}
use Rattle.level.specs.Level.{Memory, LevelKind, Meaning, Ending, rest, join_at}
use Rattle.level.specs.Cells.{spot}
use Rattle.level.specs.Stretch.{row_place}
use Rattle.analysis.specs.Columns.{Columns, columns_of}
use Rattle.analysis.specs.Sets.{rows_to, row_put, set_made, band_place}
use Rattle.analysis.specs.Stands.{Kept, Left}

abbrev pub level_by : Columns → LevelKind
level_by C = record {
  filter = C.filter;
  stretch = λ W. C.filter.rows * W.length;
  cell = λ W s m c. row_place C.filter.rows W.length (s % 2 + m) + spot W c;
  put = λ W s m row x. row_put C W (s % 2 + m) row x;
  make = λ W s n x. set_made C W (rows_to C.filter.ahead s n) n x;
  close = set_made C;
  place = λ W s n b. band_place C W n b;
}

-- ---- by its filter's number; and what its store means
abbrev pub kind_of : ℕ → LevelKind
kind_of f = level_by (columns_of f)

abbrev pub held_of : ℕ → Meaning
held_of f = Kept (columns_of f)

abbrev pub ended_of : ℕ → Ending
ended_of f = Left (columns_of f)

-- the stretch of a level of the columns W lies within n numbers, and so does that of the next level after it
unfoldable pub level_fits : ℕ → ℕ → Side → Bool
level_fits f n W = leb ((kind_of f).stretch W) n

unfoldable pub next_fits : ℕ → ℕ → Side → Bool
next_fits f n W = leb ((kind_of f).stretch W + (kind_of f).stretch (next W)) n

-- the columns of a level whose stretch can be counted
abbrev pub countable : ℕ
countable = 2 ^ 61

-- the LL row of set n put into its place at the next level, as row q there
unfoldable pub delivered : ℕ → Side → ℕ → ℕ → Memory → Memory
delivered f W n q x =
    join_at ((kind_of f).stretch W) x (row_put (columns_of f) (next W) q (λ i. x (band_place (columns_of f) W n LL + i)) (rest ((kind_of f).stretch W) x))

-- n heights h put into row q of the columns W, from column c on; what that asks
unfoldable pub heights_put : ℕ → Side → ℕ → ℕ → ℕ → (ℕ → ℤ) → Memory → Memory
heights_put f W q c zero h x = x
heights_put f W q c (suc n) h x = stored (row_place (filter_of f).rows W.length q + spot W (c + n)) (h n) (heights_put f W q c n h x)

unfoldable pub heights_fit : ℕ → ℕ → Side → ℕ → ℕ → ℕ → ℕ → Bool
heights_fit f k W c n l i = both (level_fits f k W) (both (leb (c + n) W.length) (leb (i + n) l))
