-- The reversible 5/3 of T.800 as a filter. Document 01: ±65,535 × 4^k, 1 to 5 levels, four rows a level.
use Rattle.lifting.specs.Grid.{line_forward, line_halves_back}
use Rattle.lifting.specs.Filter.{Filter}

abbrev pub five_three_filter : Filter
five_three_filter = record { forward = line_forward; halves_back = line_halves_back; ahead = 1; growth = 4; levels = 5; rows = 4 }
