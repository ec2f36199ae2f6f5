-- What stands in a level's stretch, whatever its filter, of a grid g of the columns W and the rows H.
use Rattle.std.specs.Prelude.{◌≡◌, ℕ, suc, ◌+◌, ◌-◌, ◌*◌, ◌%◌, ◌≤◌, ◌<◌, ℤ}
use Rattle.numbers.specs.Word.{wrap32}
use Rattle.lifting.specs.Line.{hi}
use Rattle.lifting.specs.Grid.{Side, deinterleaved}
use Rattle.wavelet.specs.Bands.{Grid, columns_lifted}
use Rattle.level.specs.Level.{Memory}
use Rattle.level.specs.Cells.{spot}
use Rattle.level.specs.Stretch.{row_place, RowStands}
use Rattle.analysis.specs.Columns.{Columns}

module _ (C : Columns) (W H : Side) (g : Grid) where
  -- in the slot of row q stands a row y
  abbrev pub Row : Memory → ℕ → (ℕ → ℤ) → Type 0
  Row x q y = RowStands C.filter.rows W x q (deinterleaved W y)

  -- the row at q of the grid, and high row n of its columns
  abbrev pub row_of : ℕ → ℕ → ℤ
  row_of q = g (q - H.start % 2)

  abbrev pub high : ℕ → ℕ → ℤ
  high = columns_lifted C.filter wrap32 H g hi

  -- what the level holds after m rows of the grid and c columns of row m, at the look-ahead a
  pub record Kept (m c : ℕ) (x : Memory) : Type 0 where
    -- the even rows, until the set is made that is the last to go by them
    pub even : (n : ℕ) → H.start % 2 ≤ n → 2 * n + 1 ≤ H.start % 2 + m → H.start % 2 + m + 2 ≤ 2 * n + 4 * C.filter.ahead → Row x (2 * n) (row_of (2 * n))
    -- the odd rows, until their own set is made
    pub odd : (n : ℕ) → 2 * n + 2 ≤ H.start % 2 + m → H.start % 2 + m ≤ 2 * n + 2 * C.filter.ahead → Row x (2 * n + 1) (row_of (2 * n + 1))
    -- d(n) of the last set made
    pub high : (n : ℕ) → 2 * n + 2 * C.filter.ahead + 1 ≤ H.start % 2 + m → H.start % 2 + m ≤ 2 * n + 2 * C.filter.ahead + 2
        → Row x (2 * n + 1) (high n)
    -- the row begun
    pub begun : (i : ℕ) → i < c → x (row_place C.filter.rows W.length (H.start % 2 + m) + spot W i) ≡ g m i

  -- what it holds when all rows H are there and the sets before n are made
  pub record Left (n : ℕ) (x : Memory) : Type 0 where
    -- there is no row past 2n + 2a
    pub near : H.start % 2 + H.length ≤ 2 * n + 2 * C.filter.ahead + 1
    -- the even rows from 2n − 2a + 2 on
    pub even : (i : ℕ) → H.start % 2 ≤ i → n < i + C.filter.ahead → 2 * i < H.start % 2 + H.length → Row x (2 * i) (row_of (2 * i))
    -- the odd rows from 2n + 1 on
    pub odd : (i : ℕ) → n ≤ i → 2 * i + 1 < H.start % 2 + H.length → Row x (2 * i + 1) (row_of (2 * i + 1))
    -- d(n − 1)
    pub high : (i : ℕ) → n ≡ suc i → 2 * i + 1 < H.start % 2 + H.length → Row x (2 * i + 1) (high i)
