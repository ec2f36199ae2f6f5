-- A filter: what the levels above a line know of it. Document 02, Q-8: the 5/3 (FiveThree) and the integer 9/7 of CCSDS 122.0 (crate nine_seven).
-- Sides, halves, and which values have a line (`has_line`) are those of Grid for every filter.
use Rattle.std.specs.Prelude.{ℕ, ℤ}
use Rattle.lifting.specs.Line.{Half}
use Rattle.lifting.specs.Grid.{Side, joined}

pub record Filter : Type 0 where
  -- the low and the high values of a line, and the halves of the line that has given values; the first argument is what is stored of a sum
  pub forward : (ℤ → ℤ) → Side → (ℕ → ℤ) → Half → ℕ → ℤ
  pub halves_back : (ℤ → ℤ) → Side → (Half → ℕ → ℤ) → Half → ℕ → ℤ
  -- number n of a half reads no place after that of low number n + ahead
  pub ahead : ℕ
  -- the values of level k of a map lie within ± the largest height · growth^k
  pub growth : ℕ
  -- the most levels of a map
  pub levels : ℕ
  -- the rows of its columns that a level of a stream keeps
  pub rows : ℕ

-- the line that has given values, as a whole
abbrev pub line_back_by : Filter → (ℤ → ℤ) → Side → (Half → ℕ → ℤ) → ℕ → ℤ
line_back_by F keep S c = joined S (F.halves_back keep S c)
