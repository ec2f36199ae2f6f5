-- Where the halves of a row stand.
use Rattle.std.specs.Prelude.{ℕ}
use Rattle.lifting.specs.Line.{Half, lo, hi}
use Rattle.lifting.specs.Grid.{Side, count}

-- where a half begins in a row in halves
unfoldable pub begins : Side → Half → ℕ
begins S lo = 0
begins S hi = count lo S
