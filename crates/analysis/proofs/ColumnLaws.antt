-- What the theorems of a level ask of its filter and of what that does to the columns, whatever it is: `ColumnLaws`. Both filters meet it: `columns-laws`
-- (FilterColumns). Assumes nothing.
use mathlib.Core.Path.{◌≡◌}
use Prim.Native.Nat.{ℕ, ◌+◌, ◌-◌, ◌*◌, ◌%◌, ◌≤◌, ◌<◌}
use lib.IntN.{ℤ}
use Rattle.numbers.specs.Word.{wrap32}
use Rattle.lifting.specs.Line.{Half, lo, hi}
use Rattle.lifting.specs.Grid.{Side, side, place, count}
use Rattle.filters.proofs.Liftings.{reach}
use Rattle.wavelet.specs.Bands.{Grid, columns_lifted}
use Rattle.level.specs.Level.{Memory}
use Rattle.level.proofs.RowsIn.{Only}
use Rattle.analysis.specs.Columns.{Columns}
use Rattle.analysis.specs.Stands.{Row, row_of, high}

pub record ColumnLaws (C : Columns) : Type 0 where
  -- it looks ahead, and keeps four rows for each set that it does
  pub looks : 1 ≤ C.filter.ahead
  pub keeps : C.filter.rows ≡ 4 * C.filter.ahead
  -- lines that agree up to where a number looks have the same number, however they go on and end
  pub reads : (W : Side) (x y : ℕ → ℤ) (h : Half) (n : ℕ) → n < count h W → ((i : ℕ) → i < W.length → x i ≡ y i)
      → C.filter.forward wrap32 W x h n ≡ C.filter.forward wrap32 W y h n
  pub local : (s N N' : ℕ) (x : ℕ → ℤ) (h : Half) (n : ℕ) → place (side s N) h n + reach C.filter.ahead h < N
      → place (side s N') h n + reach C.filter.ahead h < N'
      → C.filter.forward wrap32 (side s N) x h n ≡ C.filter.forward wrap32 (side s N') x h n
  -- a row made changes its own slot alone
  pub only_high : (w : ℕ) (H : Side) (q : ℕ) (x : Memory) → Only C.filter.rows w q x (C.high w H q x)
  pub only-low : (w : ℕ) (H : Side) (t q : ℕ) (x : Memory) → Only C.filter.rows w t x (C.low w H t q x)
  -- a high row is made of its own and of the even rows around it, as far on as the look-ahead and, back, as all but one of it
  pub high_is : (W H : Side) (g : Grid) (n : ℕ) (x : Memory) → n < count hi H → Row C W H g x (2 * n + 1) (row_of C W H g (2 * n + 1))
      → ((j : ℕ) → H.start % 2 ≤ j → n < j + C.filter.ahead → 2 * j < H.start % 2 + H.length → Row C W H g x (2 * j) (row_of C W H g (2 * j)))
      → Row C W H g (C.high W.length H (2 * n + 1) x) (2 * n + 1) (high C W H g n)
  -- a low row of a copy of its own and the high rows of its set and of the one before
  pub low-is : (W H : Side) (g : Grid) (n t : ℕ) (x : Memory) → H.start % 2 ≤ n → n - H.start % 2 < count lo H → Row C W H g x t (row_of C W H g (2 * n))
      → ((j : ℕ) → j < count hi H → j ≤ n → n ≤ j + 1 → Row C W H g x (2 * j + 1) (high C W H g j))
      → Row C W H g (C.low W.length H t (2 * n) x) t (columns_lifted C.filter wrap32 H g lo (n - H.start % 2))
