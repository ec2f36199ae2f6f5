-- The integer 9/7 of CCSDS 122.0 as a filter. Document 02, Q-8: ±65,535 × 6^k, 1 to 4 levels, eight rows a level.
use Rattle.lifting.specs.Filter.{Filter}
use Rattle.nine_seven.specs.NineSeven.{line_forward, line_halves_back}

abbrev pub nine_seven_filter : Filter
nine_seven_filter = record { forward = line_forward; halves_back = line_halves_back; ahead = 2; growth = 6; levels = 4; rows = 8 }
