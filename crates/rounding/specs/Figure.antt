-- The step, and how far off a height can be that comes back from a plane rounded by it. Document 02, Q-10.
use Rattle.std.specs.Prelude.{ℕ, ◌-◌}
use Rattle.tolerance.specs.Figure.{error_after}

-- the largest step: "a step q, 1 to 64"
unfoldable pub max_step : ℕ
max_step = 64

-- level 1's figure, of L levels and a step of q: "e = q − 1"
unfoldable pub error_bound : ℕ → ℕ → ℕ
error_bound L q = error_after (q - 1) L
