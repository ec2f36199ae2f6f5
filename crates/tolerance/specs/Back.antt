-- The way back with each value limited as it is made, in the shape of `level_back` and `map_back` (wavelet).
use Rattle.std.specs.Prelude.{ℕ, zero, suc, ℤ}
use Rattle.lifting.specs.Grid.{Side}
use Rattle.lifting.specs.Filter.{Filter, line_back_by}
use Rattle.wavelet.specs.Bands.{Grid, Band, rows_unlifted}
use Rattle.wavelet.specs.Levels.{next}
use Rattle.wavelet.specs.Plane.{plane_bands}
use Rattle.tolerance.specs.Limits.{limited}

-- One level: rows, then columns. What is kept of a sum of the columns is limited, so that an even row is limited before the odd rows that it rebuilds; only
-- low-low values and heights are, not the numbers between rows and columns. A single row is no sum, and is limited at the end. The rows are low-low values of
-- level k (k = 0: heights).
unfoldable pub level_back_limited : Filter → (ℤ → ℤ) → ℕ → Side → Side → (Band → Grid) → Grid
level_back_limited F keep k W H p r c =
    limited F k (line_back_by F (λ z. limited F k (keep z)) H (λ h i. rows_unlifted F keep W p h i c) r)

-- All levels, from the plane x: its grid is the low-low part of level k.
unfoldable pub map_back_limited : Filter → (ℤ → ℤ) → ℕ → ℕ → Side → Side → Grid → Grid
map_back_limited F keep k zero W H x = x
map_back_limited F keep k (suc L) W H x = level_back_limited F keep k W H (plane_bands W H (map_back_limited F keep (suc k) L (next W) (next H) x) x)
