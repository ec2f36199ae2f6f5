-- A level on the way back as the streams know it, by what its filter does to the columns: the level itself, what stands in its memory, and what its calls ask
-- and leave. By the number of a filter: `back_of`.
use Rattle.std.specs.Prelude.{Bool, ℕ, ◌*◌, ℤ}
use Rattle.lifting.specs.Grid.{Side, joined}
use Rattle.lifting.specs.GridHalves.{halves_of}
use Rattle.filters.specs.Filters.{filter_of}
use Rattle.level.specs.Tried.{Tried}
use Rattle.level.specs.Stretch.{local, row_place, row_in, band_fed, BandStands}
use Rattle.level.specs.Stands.{BackMeaning}
use Rattle.level.specs.Rebuilding.{workable_by, work_left_by}
use Rattle.level.specs.ReaderLevel.{ReaderLevel}
use Rattle.synthesis.specs.Columns.{Columns, columns_of}
use Rattle.synthesis.specs.Work.{set_worked}
use Rattle.synthesis.specs.Stands.{SetBefore, SetLeaves}

-- row r of rows that start at s stands in slot (s % 2 + r) modulo the rows kept, and is read from halves into its own order
abbrev pub level_by : Columns → ReaderLevel
level_by C = record {
  ahead = C.filter.ahead;
  stretch = λ W. C.filter.rows * W.length;
  feed = λ W s. band_fed C.filter.rows W;
  work = set_worked C;
  made = λ W s r x. joined W (halves_of W (row_in C.filter.rows W.length (local s r) x));
  back = C.back;
  fits = C.fits;
}

abbrev pub stands_by : Columns → BackMeaning
stands_by C = record { Leaves = SetLeaves C; Before = SetBefore C; Got = BandStands C.filter.rows }

-- ---- by the number of its filter: its rows are asked 14
unfoldable pub back_of : ℕ → ReaderLevel
back_of f = level_by (columns_of f)

unfoldable pub stands_of : ℕ → BackMeaning
stands_of f = stands_by (columns_of f)

-- where the row at q begins, of w columns
unfoldable pub row_place_of : ℕ → ℕ → ℕ → ℕ
row_place_of f = row_place (filter_of f).rows

-- set n of a level of the columns W and the rows H can be worked out in a memory of m numbers; its rows are low-low values of level k
abbrev pub workable_of : ℕ → Bool → ℕ → Side → Side → ℕ → ℕ → Bool
workable_of f = workable_by (filter_of f).levels (filter_of f).rows

-- what stands there afterwards, x before: the set worked out; zeros in the level's own stretch where a number does not fit
abbrev pub work_left_of : ℕ → Side → Bool → Tried → (ℕ → ℤ) → ℕ → ℤ
work_left_of f = work_left_by (filter_of f).rows
