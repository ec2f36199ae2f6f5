-- The numbers that the writer derives on its way down the levels. Of them the state keeps where the stretch of its level begins (`start_of`).
-- s is the coordinate that a level's rows start at.
use Rattle.std.specs.Prelude.{ℕ, zero, suc, ◌+◌, ◌-◌, ◌/◌, ◌%◌, min}
use Rattle.numbers.specs.Signal.{pick}
use Rattle.lifting.specs.Grid.{Side}
use Rattle.wavelet.specs.Bands.{Band, LL, HL, LH, HH}
use Rattle.wavelet.specs.Order.{set_has}
use Rattle.level.specs.Level.{prev}
use Rattle.filters.specs.Figures.{store_by}

-- A level's number seen from the level above it, and from k levels above it; 0 is no level.
unfoldable pub deeper : ℕ → ℕ
deeper zero = zero
deeper (suc v) = suc (suc v)

unfoldable pub deeper_by : ℕ → ℕ → ℕ
deeper_by k zero = zero
deeper_by k (suc v) = suc v + k

-- Where level v's stretch begins, o being counted from place a; 0 where v is no level.
unfoldable pub further : ℕ → ℕ → ℕ → ℕ
further zero a o = 0
further (suc v) a o = a + o

-- How many sets a level has made that has received m rows, at the look-ahead a. "Set n of a level is made when its row 2n+2 is complete, or when the map is
-- finished" (Q-8: when row 2n+4 is complete): the rows make all sets but the last a, and each step of the level's closing, c of which are done, makes one more,
-- until all are made. A set of a high row alone counts as made in a closed level without a row, too.
unfoldable pub made : ℕ → ℕ → ℕ → ℕ → ℕ
made a c s m = min ((s % 2 + m + 1) / 2) ((s % 2 + (m - 1)) / 2 + 1 - a + c)

-- How many low rows the first n sets have: the rows that they give the next level. Where the rows start at an odd coordinate, set 0 has none.
abbrev pub low_rows : ℕ → ℕ → ℕ
low_rows s n = n - s % 2

-- The bands of a set, from the last: HH, LH, HL, LL.
unfoldable pub band_at : ℕ → Band
band_at zero = HH
band_at (suc zero) = LH
band_at (suc (suc zero)) = HL
band_at (suc (suc (suc i))) = LL

-- How many of them are handed out of a level with l levels below it: "HL, LH, HH (at level L: LL, HL, LH, HH)".
unfoldable pub most : ℕ → ℕ
most zero = 4
most (suc l) = 3

-- How many can be left of a set of level v of L; none where none waits (v = 0).
unfoldable pub most_left : ℕ → ℕ → ℕ
most_left L zero = 0
most_left L (suc v) = most (L - suc v)

-- Of the last i bands of set n, those from the first on that has a row in it, at a level of the columns W that has received the rows H.
unfoldable pub skip : Side → Side → ℕ → ℕ → ℕ
skip W H n zero = zero
skip W H n (suc i) = pick (set_has W H (band_at i) n) (suc i) (skip W H n i)

-- Where the stretch of level v begins, v from 1, f being the filter's number: the store of the levels before it ends there. 0 where v is no level.
abbrev pub start_of : ℕ → Side → ℕ → ℕ
start_of f W v = store_by f W (prev v)
