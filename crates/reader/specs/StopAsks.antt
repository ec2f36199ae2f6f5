-- Which answers a set-up with a stop and the size of a level give: document 02, Q-6, "Refused: 17, after 4, if j is not 1 to L.", in plain numbers (wavelet's
-- Asks).
use Rattle.std.specs.Prelude.{ℕ, ◌≤◌}
use Rattle.lifting.specs.Grid.{Side}
use Rattle.wavelet.specs.Asks.{Asks, Passes, ShapeAsks, needed}

-- 17: "stop at level j, 1 to L"
abbrev pub Stop : ℕ → ℕ → Type 0
Stop L j = (1 ≤ j) × (j ≤ L)

-- 2, 3, 18, 4, 17 and 5: a set-up with a stop j, of the filter f, the columns W, the rows H and L levels, with a line store of n numbers, the whole map's
abbrev pub StopAsks : ℕ → Side → Side → ℕ → ℕ → ℕ → ℕ → Type 0
StopAsks f W H L j n = ShapeAsks f W.length H.length L (Asks 17 (Stop L j) (Asks 5 (needed f W L ≤ n) Passes))

-- 2, 3, 18, 4 and 17: the size of level k of w columns and h rows
abbrev pub SizeAsks : ℕ → ℕ → ℕ → ℕ → ℕ → ℕ → Type 0
SizeAsks f w h L k = ShapeAsks f w h L (Asks 17 (Stop L k) Passes)
