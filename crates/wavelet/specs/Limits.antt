-- The limits of document 01, "Ground covered", and of document 02, Q-3, Q-5 and Q-8, each said once.
use Rattle.std.specs.Prelude.{ℕ, ◌*◌, ◌^◌}
use Rattle.lifting.specs.Filter.{Filter}

unfoldable pub max_width : ℕ
max_width = 2049

unfoldable pub max_height : ℕ
max_height = 4294967295

-- the most levels that any filter has; each has its own number of them (`levels` of Filter)
unfoldable pub max_levels : ℕ
max_levels = 5

-- the largest height: a height is 0 to 65,535
unfoldable pub max_sample : ℕ
max_sample = 65535

-- the largest origin: "an origin, a 16-bit number each way"
unfoldable pub max_origin : ℕ
max_origin = 65535

-- "Range: every level-k coefficient of a map lies within ±65,535 × 4^k"; Q-8: "range ±65,535 × 6^k". The 4 or the 6 is the filter's.
unfoldable pub range : Filter → ℕ → ℕ
range F k = max_sample * F.growth ^ k
