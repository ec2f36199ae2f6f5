-- What the theorems of a level ask of what its filter does along the rows and to the columns, whatever it is: `ColumnLaws`. Both filters meet it:
-- `columns-laws` (FilterColumns). Assumes nothing.
use mathlib.Core.Path.{◌≡◌}
use mathlib.Core.Bool.{true}
use Prim.Native.Nat.{ℕ, ◌+◌, ◌-◌, ◌*◌, ◌≤◌, ◌<◌}
use lib.IntN.{ℤ}
use lib.Signed.{shr_z}
use Rattle.numbers.specs.Word.{wrap32}
use Rattle.lifting.specs.Line.{Half, lo, hi}
use Rattle.lifting.specs.Grid.{Side, count, deinterleaved, single_high}
use Rattle.lifting.specs.Filter.{line_back_by}
use Rattle.wavelet.specs.Bands.{Grid, Band, rows_unlifted}
use Rattle.wavelet.specs.Order.{first_set}
use Rattle.level.specs.Stretch.{end_of, RowStands, row_unlifted}
use Rattle.level.proofs.RowsIn.{Only}
use Rattle.synthesis.specs.Columns.{Columns}

-- row n of a half of the columns
abbrev pub cols_of : Columns → Side → (Band → Grid) → Half → ℕ → ℕ → ℤ
cols_of C W p h n = rows_unlifted C.filter wrap32 W p h n

-- in set n the row at 2i + 1 can be rebuilt: it is that of a set before it at the look-ahead, or the set is the last and it of a later one
abbrev pub Near : ℕ → Side → ℕ → ℕ → Type 0
Near a H n i = (i < count hi H) × (1 < H.length) × (i ≤ n) × (2 * n < end_of H) × (n ≤ i + a) × ((n ≡ i + a → ⊥) → end_of H ≤ 2 * n + 2)

pub record ColumnLaws (C : Columns) : Type 0 where
  -- it looks ahead, and keeps four rows for each set that it does
  pub looks : 1 ≤ C.filter.ahead
  pub keeps : C.filter.rows ≡ 4 * C.filter.ahead
  -- the two bands of a row become the line that has them
  pub along-is : (W : Side) (q : ℕ) (x : ℕ → ℤ) (c : Half → ℕ → ℤ) → RowStands C.filter.rows W x q c →
      RowStands C.filter.rows W (row_unlifted C.filter.rows C.along W q x) q (deinterleaved W (line_back_by C.filter wrap32 W c))
  -- a row rebuilt changes its own slot alone
  pub only-even : (k w : ℕ) (H : Side) (q : ℕ) (x : ℕ → ℤ) → Only C.filter.rows w q x (C.even k w H q x)
  pub only-odd : (k w : ℕ) (H : Side) (q : ℕ) (x : ℕ → ℤ) → Only C.filter.rows w q x (C.odd k w H q x)
  -- an even row is rebuilt from its low row and the high rows of its set and of the one before, an odd one from the even rows of the last 2a sets
  pub even_is : (k : ℕ) (W H : Side) (p : Band → Grid) (n : ℕ) (x : ℕ → ℤ) → 2 * n < end_of H → first_set H lo ≤ n →
      RowStands C.filter.rows W x (2 * n) (deinterleaved W (cols_of C W p lo (n - first_set H lo))) →
      ((i : ℕ) → i < count hi H → i ≤ n → n ≤ i + 1 → RowStands C.filter.rows W x (2 * i + 1) (deinterleaved W (cols_of C W p hi i))) →
      RowStands C.filter.rows W (C.even k W.length H (2 * n) x) (2 * n) (deinterleaved W (C.back k W H p (2 * n - first_set H lo)))
  pub odd_is : (k : ℕ) (W H : Side) (p : Band → Grid) (n i : ℕ) (x : ℕ → ℤ) → Near C.filter.ahead H n i →
      RowStands C.filter.rows W x (2 * i + 1) (deinterleaved W (cols_of C W p hi i)) →
      ((j : ℕ) → first_set H lo ≤ j → j ≤ n → n < j + 2 * C.filter.ahead →
      RowStands C.filter.rows W x (2 * j) (deinterleaved W (C.back k W H p (2 * j - first_set H lo)))) →
      RowStands C.filter.rows W (C.odd k W.length H (2 * i + 1) x) (2 * i + 1) (deinterleaved W (C.back k W H p (2 * i + 1 - first_set H lo)))
  -- an only row at an odd coordinate is halved
  pub single-is : (k : ℕ) (W H : Side) (p : Band → Grid) (i c : ℕ) → H.length ≤ 1 → single_high H ≡ true →
      shr_z (cols_of C W p hi i c) 2 ≡ C.back k W H p (2 * i + 1 - first_set H lo) c
