-- The plane of a map on the grid: as many coefficients as heights, row by row. Document 01, "The plane".
use Rattle.std.specs.Prelude.{Bool, ℕ, zero, suc, ◌+◌, ◌-◌, ◌*◌, ◌/◌, ◌%◌, ℤ, ltb}
use Rattle.numbers.specs.Signal.{pick, both}
use Rattle.lifting.specs.Line.{Half, lo, hi}
use Rattle.lifting.specs.Grid.{Side, count}
use Rattle.lifting.specs.Filter.{Filter}
use Rattle.wavelet.specs.Bands.{Grid, Band, LL, HL, LH, HH, band_of, subband, level_back}
use Rattle.wavelet.specs.Levels.{next}

-- which half a row or column of the plane belongs to, of a level with side S, and its number in that half
unfoldable pub half_at : Side → ℕ → Half
half_at S i = pick (ltb i (count lo S)) lo hi

unfoldable pub place_in : Side → ℕ → ℕ
place_in S i = pick (ltb i (count lo S)) i (i - count lo S)

-- is a place of the plane in the low-low corner?
unfoldable pub in_corner : Side → Side → ℕ → ℕ → Bool
in_corner W H r c = both (ltb r (count lo H)) (ltb c (count lo W))

-- The coefficient at row r and column c of the plane of a grid at L levels. The low-low corner of a level has the plane of the low-low part at the levels left;
-- where none is left, that part itself. An empty corner has no place.
unfoldable pub plane_cell : Filter → (ℤ → ℤ) → ℕ → Side → Side → Grid → Grid
plane_cell F keep zero W H g r c = g r c
plane_cell F keep (suc L) W H g r c =
    pick (in_corner W H r c)
    (plane_cell F keep L (next W) (next H) (subband F keep W H g LL) r c)
    (subband F keep W H g (band_of (half_at W c) (half_at H r)) (place_in H r) (place_in W c))

-- The level, from 1, whose coefficient stands there.
unfoldable pub level_at : ℕ → Side → Side → ℕ → ℕ → ℕ
level_at zero W H r c = 0
level_at (suc L) W H r c = pick (in_corner W H r c) (1 + level_at L (next W) (next H) r c) 1

-- the bands of a level that stand in the plane x, its low-low part being a
unfoldable pub plane_bands : Side → Side → Grid → Grid → Band → Grid
plane_bands W H a x LL r c = a r c
plane_bands W H a x HL r c = x r (count lo W + c)
plane_bands W H a x LH r c = x (count lo H + r) c
plane_bands W H a x HH r c = x (count lo H + r) (count lo W + c)

-- The way back, from the plane x: the bands of level 1, its low-low part being what the levels left give, and the grid that has them.
unfoldable pub map_back : Filter → (ℤ → ℤ) → ℕ → Side → Side → Grid → Grid
map_back F keep zero W H x = x
map_back F keep (suc L) W H x = level_back F keep W H (plane_bands W H (map_back F keep L (next W) (next H) x) x)

-- A signal as rows of s numbers, and rows of s numbers as a signal.
unfoldable pub cells : ℕ → (ℕ → ℤ) → Grid
cells s x r c = x (r * s + c)

unfoldable pub flat : ℕ → Grid → ℕ → ℤ
flat s g j = g (j / s) (j % s)

-- the plane of a map, as the coefficients follow each other in memory
unfoldable pub plane_of : Filter → (ℤ → ℤ) → ℕ → Side → Side → Grid → ℕ → ℤ
plane_of F keep L W H g = flat W.length (plane_cell F keep L W H g)
