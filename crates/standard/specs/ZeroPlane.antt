-- The plane: W × H coefficients, row by row. Document 01, "The plane".
use Rattle.std.specs.Prelude.{ℕ, zero, suc, ◌+◌, ◌-◌, ℤ, ltb}
use Rattle.numbers.specs.Signal.{pick, both}
use Rattle.lifting.specs.Line.{Half, lo, hi, count}
use Rattle.wavelet.specs.Bands.{Grid, LL, HL, LH, HH, band_of}
use Rattle.wavelet.specs.Plane.{flat}
use Rattle.standard.specs.ZeroBands.{subband, level_back}

-- which half a row or column of the plane belongs to, of a level whose side is N long, and its number in that half
unfoldable pub half_at : ℕ → ℕ → Half
half_at N i = pick (ltb i (count lo N)) lo hi

unfoldable pub place_in : ℕ → ℕ → ℕ
place_in N i = pick (ltb i (count lo N)) i (i - count lo N)

-- The coefficient at row r and column c of the plane of a W × H grid at L levels. The low-low corner of a level has the plane of the low-low part at the
-- levels left; where none is left, that part itself.
unfoldable pub plane_cell : (ℤ → ℤ) → ℕ → ℕ → ℕ → Grid → Grid
plane_cell keep zero W H g r c = g r c
plane_cell keep (suc L) W H g r c =
    pick (both (ltb r (count lo H)) (ltb c (count lo W)))
    (plane_cell keep L (count lo W) (count lo H) (subband keep W H g LL) r c)
    (subband keep W H g (band_of (half_at W c) (half_at H r)) (place_in H r) (place_in W c))

-- The level, from 1, whose coefficient stands there.
unfoldable pub level_at : ℕ → ℕ → ℕ → ℕ → ℕ → ℕ
level_at zero W H r c = 0
level_at (suc L) W H r c =
    pick (both (ltb r (count lo H)) (ltb c (count lo W))) (1 + level_at L (count lo W) (count lo H) r c) 1

-- The way back, from the plane x: the bands of level 1, its low-low part being what the levels left give, and the grid that has them.
unfoldable pub map_back : (ℤ → ℤ) → ℕ → ℕ → ℕ → Grid → Grid
map_back keep zero W H x = x
map_back keep (suc L) W H x =
    level_back keep W H (λ b. elim b [
      | LL ↦ map_back keep L (count lo W) (count lo H) x
      | HL ↦ λ r c. x r (count lo W + c)
      | LH ↦ λ r c. x (count lo H + r) c
      | HH ↦ λ r c. x (count lo H + r) (count lo W + c)
    ])

-- the plane of a map, as the coefficients follow each other in memory
unfoldable pub plane_of : (ℤ → ℤ) → ℕ → ℕ → ℕ → Grid → ℕ → ℤ
plane_of keep L W H g = flat W (plane_cell keep L W H g)
