-- Which answers the two calls give, in plain numbers (wavelet's Asks).
use Rattle.std.specs.Prelude.{ℕ, ◌*◌, ◌≤◌}
use Rattle.wavelet.specs.Asks.{Asks, Passes, Width, Height, Levels}

-- 20: "a step q, 1 to 64"
abbrev pub StepWithin : ℕ → Type 0
StepWithin q = (1 ≤ q) × (q ≤ 64)

-- 2, 3, 4, 20 and 5, of a plane of n numbers: "Refused: 20, after 4, if q is outside its range."
abbrev pub RoundAsks : ℕ → ℕ → ℕ → ℕ → ℕ → ℕ → Type 0
RoundAsks W H L q n = Asks 2 (Width W) (Asks 3 (Height H) (Asks 4 (Levels 0 L) (Asks 20 (StepWithin q) (Asks 5 (W * H ≤ n) Passes))))

-- 4 and 20, of the figure
abbrev pub BoundAsks : ℕ → ℕ → ℕ → Type 0
BoundAsks L q = Asks 4 (Levels 0 L) (Asks 20 (StepWithin q) Passes)
