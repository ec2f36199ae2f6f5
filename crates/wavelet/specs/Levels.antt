-- The levels of a map on the grid: "Each level is the same work on the low-low part of the level before it, until L levels are done. Level 1 is the finest."
use Rattle.std.specs.Prelude.{ℕ, zero, suc, ◌+◌, ◌/◌, ℤ}
use Rattle.lifting.specs.Line.{lo}
use Rattle.lifting.specs.Grid.{Side, side, count}
use Rattle.lifting.specs.Filter.{Filter}
use Rattle.wavelet.specs.Bands.{Grid, Band, LL, subband}

-- Q-3: "a level's origin is the ceiling of half the one before, W(k) and H(k) count the even columns and rows among the W(k−1) and H(k−1) before"
unfoldable pub next : Side → Side
next S = side ((S.start + 1) / 2) (count lo S)

-- the side of level k; of level 0 it is the map's
unfoldable pub side_at : ℕ → Side → Side
side_at zero S = S
side_at (suc k) S = next (side_at k S)

-- the low-low part of level k; of level 0 it is the map
unfoldable pub approximation : Filter → (ℤ → ℤ) → Side → Side → Grid → ℕ → Grid
approximation F keep W H g zero = g
approximation F keep W H g (suc k) = subband F keep (side_at k W) (side_at k H) (approximation F keep W H g k) LL

-- a band of level k, from 1: level k is the low-low part of level k − 1, lifted once
unfoldable pub level_band : Filter → (ℤ → ℤ) → Side → Side → Grid → ℕ → Band → Grid
level_band F keep W H g zero b = g
level_band F keep W H g (suc k) b = subband F keep (side_at k W) (side_at k H) (approximation F keep W H g k) b
