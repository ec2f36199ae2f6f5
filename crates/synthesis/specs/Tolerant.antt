-- The level of a tolerant reader: the 5/3 with each row limited to its level's range as it is made, in the place of the test of 14. Document 02, Q-10.
use Rattle.std.specs.Prelude.{Bool, true, ℕ, ◌+◌, ◌-◌, ◌*◌, ℤ, ltb, leb}
use Rattle.numbers.specs.Signal.{pick, spliced}
use Rattle.numbers.specs.Word.{wrap32}
use Rattle.lifting.specs.Grid.{Side, single_high}
use Rattle.wavelet.specs.Bands.{Grid, Band, level_back}
use Rattle.tolerance.specs.Limits.{limited}
use Rattle.tolerance.specs.Back.{level_back_limited}
use Rattle.filters.specs.Filters.{filter_of}
use Rattle.level.specs.Stretch.{row_place, row_in, end_of}
use Rattle.level.specs.ReaderLevel.{ReaderLevel}
use Rattle.level.specs.Stands.{BackMeaning}
use Rattle.synthesis.specs.Columns.{Columns, along_of, even_of, odd_of}
use Rattle.synthesis.specs.Back.{level_by, stands_by}

-- the row at q limited
unfoldable pub row_limited : ℕ → ℕ → ℕ → (ℕ → ℤ) → ℕ → ℤ
row_limited k w q x = spliced (row_place 4 w q) w (λ i. limited (filter_of 0) k (row_in 4 w q x i)) x

-- an even row, and an odd one, rebuilt and limited
unfoldable pub even_limited : ℕ → ℕ → Side → ℕ → (ℕ → ℤ) → ℕ → ℤ
even_limited k w H q x = row_limited k w q (even_of 0 w H q x)

unfoldable pub odd_limited : ℕ → ℕ → Side → ℕ → (ℕ → ℤ) → ℕ → ℤ
odd_limited k w H q x = row_limited k w q (odd_of 0 w H q x)

-- Its rows start at 0: a single row at an odd coordinate, which is halved and not limited, never comes.
unfoldable pub back_limited : ℕ → Side → Side → (Band → Grid) → Grid
back_limited k W H p = pick (single_high H) (level_back (filter_of 0) wrap32 W H p) (level_back_limited (filter_of 0) wrap32 k W H p)

-- no value is refused
abbrev pub tolerant_columns : Columns
tolerant_columns = record {
  filter = filter_of 0;
  along = along_of 0;
  even = even_limited;
  odd = odd_limited;
  fits = λ _ _. true;
  back = back_limited;
}

unfoldable pub tolerant_back : ReaderLevel
tolerant_back = level_by tolerant_columns

unfoldable pub tolerant_stands : BackMeaning
tolerant_stands = stands_by tolerant_columns

-- ---- what the private functions leave: the odd row before the even row of set n, and the odd row of the last set
unfoldable pub pair_limited : ℕ → ℕ → Side → ℕ → (ℕ → ℤ) → ℕ → ℤ
pair_limited k w H n x = pick (ltb n 1) x (odd_limited k w H (2 * (n - 1) + 1) x)

unfoldable pub last_limited : ℕ → ℕ → Side → ℕ → (ℕ → ℤ) → ℕ → ℤ
last_limited k w H n x = pick (leb (end_of H) (2 * n + 2)) (pick (ltb (2 * n + 1) (end_of H)) (odd_limited k w H (2 * n + 1) x) x) x
