-- Which answers the whole map's way back gives, in plain numbers (wavelet's Asks).
use Rattle.std.specs.Prelude.{◌≡◌, true, ℕ, ◌≤◌, ◌<◌, nat_abs}
use Rattle.lifting.specs.Grid.{Side}
use Rattle.wavelet.specs.Bands.{Grid}
use Rattle.wavelet.specs.Plane.{level_at}
use Rattle.wavelet.specs.Maps.{rebuilt_fits}
use Rattle.wavelet.specs.Asks.{Asks, Passes, largest, MapAsks}
use Rattle.filters.specs.Filters.{filter_of}

-- question 7: "Is each coefficient in its level's range?" ±65,535 × 4^k, or 6^k, k being the level whose coefficient stands there
pub record InRange (f L : ℕ) (W H : Side) (x : Grid) : Type 0 where
  pub within : (r c : ℕ) → r < H.length → c < W.length → nat_abs (x r c) ≤ largest f (level_at L W H r c)

-- 2, 3, 18, 4, 5, 7 and 14, of the plane x. That 7 and 14 are answered yes exactly where some map has the plane is `some_map`.
abbrev pub BackwardAsks : ℕ → Side → Side → ℕ → ℕ → ℕ → ℕ → Grid → ℕ → Type 0
BackwardAsks f W H L a b c x =
    MapAsks f W.length H.length L a b c
    (Asks 7 (InRange f L W H x)
    (Asks 14 (rebuilt_fits (filter_of f) 0 L W H x ≡ true)
    Passes))
