-- The way back from band rows by their names, P: the bands of each level, and the low-low parts that the filter f makes of them, over 32-bit words, with the
-- admission a. The columns W and the rows H are those of level b of a map.
use Rattle.std.specs.Prelude.{◌≡◌, true, ℕ, zero, suc, ◌+◌, ◌-◌, ◌≤◌, ◌<◌, ℤ}
use Rattle.lifting.specs.Grid.{Side}
use Rattle.filters.specs.Filters.{filter_of}
use Rattle.wavelet.specs.Bands.{Grid, Band, LL, HL, LH, HH}
use Rattle.wavelet.specs.Order.{RowName, row_name}
use Rattle.wavelet.specs.Levels.{side_at}
use Rattle.level.specs.Stands.{SetFitsBy}
use Rattle.reader_steps.specs.Sets.{ahead, needed}
use Rattle.reader_steps.specs.Places.{has_cells}
use Rattle.reader.specs.Admission.{grid_by, fits_by}

-- band rows by their names
abbrev pub Rows : Type 0
Rows = RowName → ℕ → ℤ

-- the bands of level k, its low-low part being a
unfoldable pub bands_by : Rows → ℕ → Grid → Band → Grid
bands_by P k a LL r = a r
bands_by P k a HL r = P (row_name k HL r)
bands_by P k a LH r = P (row_name k LH r)
bands_by P k a HH r = P (row_name k HH r)

module _ (a f b : ℕ) (W H : Side) (P : Rows) where
  -- the low-low part of level k, with m levels from there on
  unfoldable pub rebuilt : ℕ → ℕ → Grid
  rebuilt zero k = λ r. P (row_name k LL r)
  rebuilt (suc m) k = grid_by a f (b + k) (side_at k W) (side_at k H) (bands_by P (suc k) (rebuilt m (suc k)))

  -- at L levels: the bands of level k + 1, and the low-low part of level k that they make
  abbrev pub bands_at : ℕ → ℕ → Band → Grid
  bands_at L k = bands_by P (suc k) (rebuilt (L - suc k) (suc k))

  abbrev pub part_at : ℕ → ℕ → Grid
  part_at L k = grid_by a f (b + k) (side_at k W) (side_at k H) (bands_at L k)

  -- set n of level k + 1 fits: the rows that it makes fit, as low-low values of level b + k, and no number that it halves is odd
  abbrev pub SetFits : ℕ → ℕ → ℕ → Type 0
  SetFits L k n = SetFitsBy (filter_of f) (ahead f) (fits_by a f (b + k)) (part_at L k) (side_at k W) (side_at k H) (bands_at L k) n

-- The sets of the levels above level k that number n of level k (level 0: a height row) needs fit, up to the last of each.
pub record SetsFit (a f b : ℕ) (W H : Side) (L : ℕ) (P : Rows) (k n : ℕ) : Type 0 where
  pub fit : (j : ℕ) → k ≤ j → j < L → has_cells (side_at j W) (side_at j H) ≡ true → SetFits a f b W H P L j (needed f H k n (suc j))
