-- What the admission changes of a level on the way back: its work, the grid that its bands come to, the test of 14, and what stands in its memory. a is the
-- admission, f the number of the filter.
-- 0 is strict, document 01's reader. Any other is tolerant; document 02, Q-10: it "limits each rebuilt value, before further use, to its level's range, heights
-- to 0 to 65,535, instead of giving 14". The tolerant level is the 5/3's. No state has it with another filter (question 1), so there the definitions say what
-- the strict one does, and the laws hold of any two numbers.
use Rattle.std.specs.Prelude.{◌≡◌, Bool, true, ℕ, zero, suc, ◌<◌, ℤ}
use Rattle.numbers.specs.Word.{wrap32}
use Rattle.lifting.specs.Grid.{Side}
use Rattle.filters.specs.Filters.{filter_of}
use Rattle.wavelet.specs.Bands.{Grid, Band, level_back}
use Rattle.wavelet.specs.Maps.{value_fits}
use Rattle.level.specs.Tried.{Tried}
use Rattle.level.specs.Stands.{BackMeaning}
use Rattle.synthesis.specs.Back.{back_of, stands_of}
use Rattle.synthesis.specs.Tolerant.{back_limited, tolerant_back, tolerant_stands}

-- set n worked out: last, k, W, H, n as a level has them (ReaderLevel)
abbrev pub work_by : ℕ → ℕ → Bool → ℕ → Side → Side → ℕ → (ℕ → ℤ) → Tried
work_by zero f = (back_of f).work
work_by (suc a) zero = tolerant_back.work
work_by (suc a) (suc f) = (back_of (suc f)).work

-- the grid that the bands come to, its rows low-low values of level k: over words, or with each value limited as it is made
abbrev pub grid_by : ℕ → ℕ → ℕ → Side → Side → (Band → Grid) → Grid
grid_by zero f k = level_back (filter_of f) wrap32
grid_by (suc a) zero k = back_limited k
grid_by (suc a) (suc f) k = level_back (filter_of (suc f)) wrap32

-- the test of 14: a tolerant level has none
abbrev pub fits_by : ℕ → ℕ → ℕ → ℤ → Bool
fits_by zero f k v = value_fits (filter_of f) k v
fits_by (suc a) zero k v = true
fits_by (suc a) (suc f) k v = value_fits (filter_of (suc f)) k v

-- what stands in its memory
abbrev pub stands_by : ℕ → ℕ → BackMeaning
stands_by zero f = stands_of f
stands_by (suc a) zero = tolerant_stands
stands_by (suc a) (suc f) = stands_of (suc f)

-- a tolerant reader is of the 5/3, of rows and columns from 0 on, without a stop b
abbrev pub Admits : ℕ → ℕ → ℕ → Side → Side → Type 0
Admits a f b W H = 0 < a → (a ≡ 1) × (f ≡ 0) × (b ≡ 0) × (W.start ≡ 0) × (H.start ≡ 0)
