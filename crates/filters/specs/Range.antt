-- The levels of the 9/7.
use Rattle.std.specs.Prelude.{ℕ}
use Rattle.nine_seven.specs.NineSevenFilter.{nine_seven_filter}

-- the most levels
unfoldable pub max_levels : ℕ
max_levels = nine_seven_filter.levels
