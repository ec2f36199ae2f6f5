-- What stands in a level's memory x, of the columns W and the rows H, for bands p of the level: any numbers, a grid's bands or not. The rows made are those of
-- the level's way back.
use Rattle.std.specs.Prelude.{◌≡◌, Bool, true, ℕ, ◌-◌, ◌≤◌, ◌<◌, ℤ}
use Rattle.numbers.specs.Word.{wrap32}
use Rattle.lifting.specs.Line.{lo, hi}
use Rattle.lifting.specs.Grid.{Side, count, has_line}
use Rattle.lifting.specs.Filter.{Filter}
use Rattle.wavelet.specs.Bands.{Grid, Band, band_of, rows_unlifted}
use Rattle.wavelet.specs.Order.{first_set}
use Rattle.wavelet.specs.Steps.{set_of}

-- no number that set n halves is odd: its band rows are lines', and so are the columns of the rows that it makes, by the filter F at the look-ahead a
pub record SetHasBy (F : Filter) (a : ℕ) (W H : Side) (p : Band → Grid) (n : ℕ) : Type 0 where
  pub low : first_set H lo ≤ n → has_line W (λ h. p (band_of h lo) (n - first_set H lo)) ≡ true
  pub high : n < count hi H → has_line W (λ h. p (band_of h hi) n) ≡ true
  pub columns : (r : ℕ) → r < H.length → set_of a H r ≡ n → (c : ℕ) → c < W.length → has_line H (λ h i. rows_unlifted F wrap32 W p h i c) ≡ true

-- set n fits: no such number is odd, and in the rows that it makes of the grid g, that of the way back, each value passes a test
pub record SetFitsBy (F : Filter) (a : ℕ) (test : ℤ → Bool) (g : Grid) (W H : Side) (p : Band → Grid) (n : ℕ) : Type 0 where
  pub fit : (r c : ℕ) → r < H.length → set_of a H r ≡ n → c < W.length → test (g r c) ≡ true
  pub has : SetHasBy F a W H p n

-- ---- what stands in a level's memory, whatever the level does
pub record BackMeaning : Type 1 where
  -- Leaves k W H p n x: what set n leaves
  pub Leaves : ℕ → Side → Side → (Band → Grid) → ℕ → (ℕ → ℤ) → Type 0
  -- Before k W H p n x: what set n needs of those before it
  pub Before : ℕ → Side → Side → (Band → Grid) → ℕ → (ℕ → ℤ) → Type 0
  -- Got W H p n x c: the row of band c of set n is there, if there is one
  pub Got : Side → Side → (Band → Grid) → ℕ → (ℕ → ℤ) → Band → Type 0
