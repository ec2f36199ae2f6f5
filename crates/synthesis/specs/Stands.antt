-- What stands in a level's memory x, of the columns W and the rows H, for bands p of the level: any numbers, a grid's bands or not.
use Rattle.std.specs.Prelude.{◌≡◌, true, ℕ, suc, ◌+◌, ◌-◌, ◌*◌, ◌≤◌, ◌<◌, ℤ}
use Rattle.numbers.specs.Word.{wrap32}
use Rattle.lifting.specs.Line.{lo, hi}
use Rattle.lifting.specs.Grid.{Side, deinterleaved}
use Rattle.wavelet.specs.Bands.{Grid, Band, rows_unlifted}
use Rattle.wavelet.specs.Order.{first_set, last_set}
use Rattle.wavelet.specs.Steps.{set_of}
use Rattle.level.specs.Stretch.{local, RowStands, BandStands}
use Rattle.level.specs.Stands.{SetHasBy, BackMeaning}
use Rattle.synthesis.specs.Columns.{Columns}

-- what set n needs of the sets before it, at the look-ahead a: the even rows of the last 2a − 1, rebuilt, and the high rows of the columns of the last a
pub record SetBefore (C : Columns) (k : ℕ) (W H : Side) (p : Band → Grid) (n : ℕ) (x : ℕ → ℤ) : Type 0 where
  pub even : (i : ℕ) → i < n → n < i + 2 * C.filter.ahead → first_set H lo ≤ i →
      RowStands C.filter.rows W x (2 * i) (deinterleaved W (C.back k W H p (2 * i - first_set H lo)))
  pub high : (i : ℕ) → i < n → n ≤ i + C.filter.ahead
      → RowStands C.filter.rows W x (2 * i + 1) (deinterleaved W (rows_unlifted C.filter wrap32 W p hi i))

-- what set n leaves: the rows that it makes, which fit as low-low values of level k, and what the next set needs
pub record SetLeaves (C : Columns) (k : ℕ) (W H : Side) (p : Band → Grid) (n : ℕ) (x : ℕ → ℤ) : Type 0 where
  pub made : (r : ℕ) → r < H.length → set_of C.filter.ahead H r ≡ n →
      RowStands C.filter.rows W x (local H.start r) (deinterleaved W (C.back k W H p r))
  pub fit : (r : ℕ) → r < H.length → set_of C.filter.ahead H r ≡ n → (c : ℕ) → c < W.length → C.fits k (C.back k W H p r c) ≡ true
  pub more : suc n ≤ last_set H → SetBefore C k W H p (suc n) x
  pub has : SetHasBy C.filter C.filter.ahead W H p n
