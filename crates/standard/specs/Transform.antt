-- The transform of a map as ITU-T T.800, Annex F, has it: a(u, v) at column u and row v of the grid, u0 ≤ u < u1 and v0 ≤ v < v1.
use Rattle.std.specs.Prelude.{ℕ, zero, suc, ◌+◌, ◌-◌, ◌*◌, ℤ}
use Rattle.lifting.specs.Line.{lo}
use Rattle.lifting.specs.Grid.{Side}
use Rattle.wavelet.specs.Bands.{Grid, Band, LL, HL, LH, HH, across, down}
use Rattle.standard.specs.Line.{Interval, LiftingSteps, transformed, half_of, coordinate}

-- numbers by column and row
abbrev pub Array : Type 0
Array = ℕ → ℕ → ℤ

-- One level: "all columns, then all rows".
unfoldable pub columns : LiftingSteps → Interval → Array → Array
columns T H a u = transformed T H (a u)

unfoldable pub rows : LiftingSteps → Interval → Array → Array
rows T W a u v = transformed T W (λ c. a c v) u

unfoldable pub one_level : LiftingSteps → Interval → Interval → Array → Array
one_level T W H a = rows T W (columns T H a)

-- Its four bands: a(2u, 2v) is LL, a(2u + 1, 2v) HL, a(2u, 2v + 1) LH, a(2u + 1, 2v + 1) HH.
unfoldable pub band_at : Band → Array → Array
band_at b a u v = a (coordinate (across b) u) (coordinate (down b) v)

-- The coordinates of the low-low part of level k: those of the level before halved, rounded up. Of level 0 they are the map's.
unfoldable pub level_of : ℕ → Interval → Interval
level_of zero I = I
level_of (suc k) I = half_of lo (level_of k I)

-- "Each level is the same work on the low-low part of the level before it": the low-low part of level k, and the bands of level k + 1.
module _ (T : LiftingSteps) (W H : Interval) (a : Array) where
  unfoldable pub low_low : ℕ → Array
  low_low zero = a
  low_low (suc k) = band_at LL (one_level T (level_of k W) (level_of k H) (low_low k))

  unfoldable pub band_of : ℕ → Band → Array
  band_of k b = band_at b (one_level T (level_of k W) (level_of k H) (low_low k))

-- The plane. W(k) and H(k) are how many columns and rows level k has.
unfoldable pub size : Interval → ℕ
size I = I.i1 - I.i0

-- "At level k: LL row r starts at r × W; HL row r at r × W + W(k); LH row r at (H(k) + r) × W; HH row r at (H(k) + r) × W + W(k)."
unfoldable pub row_start : Interval → Interval → ℕ → Band → ℕ → ℕ
row_start W H k LL r = r * size W
row_start W H k HL r = r * size W + size (level_of k W)
row_start W H k LH r = (size (level_of k H) + r) * size W
row_start W H k HH r = (size (level_of k H) + r) * size W + size (level_of k W)

-- ---- maps and bands as the calls have them: rows and columns counted from 0. Row r, column c of the map stands at column u0 + c, row v0 + r of the grid,
abbrev pub placed : Side → Side → Grid → Array
placed W H g u v = g (v - H.start) (u - W.start)

-- and row r, column c of band b of a level with the columns W and the rows H at the first coordinates of the band, and so many more.
abbrev pub counted : Interval → Interval → Band → Array → Grid
counted W H b a r c = a ((half_of (across b) W).i0 + c) ((half_of (down b) H).i0 + r)
