-- Maps on the grid and the planes they have: what demand 2 speaks of, for every origin and filter.
use Rattle.std.specs.Prelude.{◌≡◌, Bool, true, ℕ, zero, suc, ◌<◌, ℤ, pos, nat_abs, ◌≤ℤ◌, leb}
use Rattle.std.specs.Int.Signed.{le_z}
use Rattle.numbers.specs.Signal.{both}
use Rattle.numbers.specs.Word.{whole, wrap32}
unfoldable pub use Rattle.numbers.specs.Tests.{every}
use Rattle.lifting.specs.Grid.{Side}
use Rattle.lifting.specs.Filter.{Filter}
use Rattle.wavelet.specs.Limits.{max_sample, range}
use Rattle.wavelet.specs.Bands.{Grid, level_has}
use Rattle.wavelet.specs.Levels.{next}
use Rattle.wavelet.specs.Plane.{plane_cell, level_at, plane_bands, map_back}

-- a map of W × H heights: each from 0 to 65,535
pub record IsMap (W H : ℕ) (g : Grid) : Type 0 where
  pub heights : (r c : ℕ) → r < H → c < W → (pos 0 ≤ℤ g r c) × (g r c ≤ℤ pos max_sample)

-- plane x is that map's, at L levels by filter F: the filter's own whole numbers, at every place
pub record HasPlane (F : Filter) (L : ℕ) (W H : Side) (g x : Grid) : Type 0 where
  pub map : IsMap W.length H.length g
  pub coefficients : (r c : ℕ) → r < H.length → c < W.length → x r c ≡ plane_cell F whole L W H g r c

-- a test of every cell of H rows of W
unfoldable pub every_cell : ℕ → ℕ → (ℕ → ℕ → Bool) → Bool
every_cell W H p = every H (λ r. every W (p r))

-- question 7: "Is each coefficient in its level's range?"
unfoldable pub in-range : Filter → ℕ → Side → Side → Grid → Bool
in-range F L W H x = every_cell W.length H.length (λ r c. leb (nat_abs (x r c)) (range F (level_at L W H r c)))

-- question 14: "Do all rebuilt values fit: heights 0 to 65,535, LL values of level k in that level's range?"
-- k is the level that the rebuilt grid is the low-low part of, 0 for the map
unfoldable pub value_fits : Filter → ℕ → ℤ → Bool
value_fits F zero v = both (le_z (pos 0) v) (le_z v (pos max_sample))
value_fits F (suc k) v = leb (nat_abs v) (range F (suc k))

-- and is each value that is halved on the way even?
unfoldable pub rebuilt_fits : Filter → ℕ → ℕ → Side → Side → Grid → Bool
rebuilt_fits F k zero W H x = true
rebuilt_fits F k (suc L) W H x =
    both (rebuilt_fits F (suc k) L (next W) (next H) x)
    (both (level_has F W H (plane_bands W H (map_back F wrap32 L (next W) (next H) x) x))
    (every_cell W.length H.length (λ r c. value_fits F k (map_back F wrap32 (suc L) W H x r c))))
