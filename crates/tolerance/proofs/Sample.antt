-- A worked case, by computation: the column 0, 0, 10 at one level has LL −2 and 8 and LH −5. With LH rounded by 8 it comes back as 0, 4, 8: the first row is
-- limited from −2 to 0 before the second is rebuilt from it. Assumes nothing.
use mathlib.Core.Path.{◌≡◌, refl}
use Prim.Native.Nat.{ℕ, zero, suc}
use lib.IntN.{ℤ, pos, negsuc}
use Rattle.numbers.specs.Word.{wrap32}
use Rattle.lifting.specs.Line.{mirror, unupdated, unpredicted}
use Rattle.lifting.specs.Grid.{side, half, place, count, joined, before, after, even_at, odd_at, line_halves_back}
use Rattle.lifting.specs.FiveThree.{five_three_filter}
use Rattle.wavelet.specs.Limits.{max_sample}
use Rattle.wavelet.specs.Bands.{Grid, band_of, rows_unlifted}
use Rattle.wavelet.specs.Plane.{plane_bands}
use Rattle.tolerance.specs.Limits.{limited, clamped}
use Rattle.tolerance.specs.Back.{level_back_limited, map_back_limited}

-- the plane: −2, 8, 0
abbrev plane : Grid
plane zero c = negsuc 1
plane (suc zero) c = pos 8
plane (suc (suc r)) c = pos 0

abbrev back : ℕ → ℤ
back r = map_back_limited five_three_filter wrap32 0 1 (side 0 1) (side 0 3) plane r 0

pub column : (back 0 ≡ pos 0) × (back 1 ≡ pos 4) × (back 2 ≡ pos 8)
unfolding map_back_limited level_back_limited limited clamped plane_bands rows_unlifted band_of joined half place count line_halves_back even_at odd_at before after
    mirror unupdated unpredicted wrap32 max_sample
column = (refl, refl, refl)
