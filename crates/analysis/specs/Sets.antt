-- The sets of a level on the way forward, whatever its filter. The level keeps four rows for each set that its filter looks ahead, a, each in halves (its even
-- coordinates first). A row is told by its coordinate past the last even one that is not after the level's start: row r of a level that starts at s is at
-- s mod 2 + r, and stands in the slot of that number modulo the rows kept. Document 01 for the 5/3 (a = 1, four rows), document 02, Q-8 for the integer 9/7
-- (a = 2, eight rows).
--     set n, row 2n + 2a being there: row 2n + 1 becomes d(n) by even rows around it. Row 2n, by which d(n + a − 1) still goes, is copied to the slot where row
--             2n − 2a + 2 stood (at a = 1 its own), and becomes s(n) there by d(n−1), which stands where row 2n − 1 stood, and d(n). d(n) is copied to the slot
--             where d(n−1) stood, and stays itself for the next set. The two copies are lifted along the row: they are the rows that wait, LL|HL and LH|HH.
--             Row 2n + 2a + 1 may be begun while they wait.
--     at the finish the same, for each set left in turn. Where a row is not there, before the first or past the last, it is the mirrored one; an only row stays
--             at an even coordinate and is doubled at an odd one.
use Rattle.std.specs.Prelude.{Bool, ℕ, ◌+◌, ◌-◌, ◌*◌, ◌%◌, ltb, leb, ℤ}
use Rattle.numbers.specs.Signal.{pick, both, spliced}
use Rattle.lifting.specs.Line.{Half, lo, hi}
use Rattle.lifting.specs.Grid.{Side, side, count}
use Rattle.lifting.specs.GridHalves.{deinterleaved_into}
use Rattle.lifting.specs.Pairs.{first}
use Rattle.wavelet.specs.Bands.{Band, across, down}
use Rattle.wavelet.specs.Order.{first_set}
use Rattle.level.specs.Level.{Memory}
use Rattle.level.specs.Stretch.{row_place, half_place, row_by, row_unlifted}
use Rattle.analysis.specs.Columns.{Columns, along_by}

-- does set n of the rows H have a row of half h?
unfoldable pub has_row : Side → Half → ℕ → Bool
has_row H h n = both (leb (first_set H h) n) (ltb (n - first_set H h) (count h H))

-- the rows in whose slots the low and the high row of set n wait, at the look-ahead a: where row 2n − 2a + 2 and d(n − 1) stood, by which no row goes any more
abbrev pub waits_at : ℕ → Half → ℕ → ℕ
waits_at a lo n = 2 * n + (2 * a + 2)
waits_at a hi n = 2 * n + (4 * a - 1)

-- the rows that start at s, up to row 2n + 2a
abbrev pub rows_to : ℕ → ℕ → ℕ → Side
rows_to a s n = side s (2 * n + 2 * a + 1 - s % 2)

module _ (C : Columns) where
  abbrev pub kept : ℕ
  kept = C.filter.rows

  abbrev pub waits : Half → ℕ → ℕ
  waits = waits_at C.filter.ahead

  -- a whole row put into the slot of row q
  unfoldable pub row_put : Side → ℕ → (ℕ → ℤ) → Memory → Memory
  row_put W q row x = spliced (row_place kept W.length q) W.length (deinterleaved_into W row x) x

  -- row a copied to the slot of row b
  unfoldable pub row_copied : ℕ → ℕ → ℕ → Memory → Memory
  row_copied w a b = row_by kept first w b a a

  -- row q lifted along the row
  abbrev pub row_lifted : Side → ℕ → Memory → Memory
  row_lifted = row_unlifted kept (along_by C.filter)

  -- ---- the columns of set n of the rows H: its high row, its low row where it waits, and the high row copied
  unfoldable pub high_made : ℕ → Side → ℕ → Memory → Memory
  high_made w H n x = pick (has_row H hi n) (C.high w H (2 * n + 1) x) x

  unfoldable pub low_made : ℕ → Side → ℕ → Memory → Memory
  low_made w H n x = pick (has_row H lo n) (C.low w H (waits lo n) (2 * n) (row_copied w (2 * n) (waits lo n) x)) x

  unfoldable pub high_copied : ℕ → Side → ℕ → Memory → Memory
  high_copied w H n x = pick (has_row H hi n) (row_copied w (2 * n + 1) (waits hi n) x) x

  unfoldable pub columns_made : ℕ → Side → ℕ → Memory → Memory
  columns_made w H n x = high_copied w H n (low_made w H n (high_made w H n x))

  -- ---- then its rows
  unfoldable pub wait_lifted : Half → Side → Side → ℕ → Memory → Memory
  wait_lifted h W H n x = pick (has_row H h n) (row_lifted W (waits h n) x) x

  unfoldable pub set_made : Side → Side → ℕ → Memory → Memory
  set_made W H n x = wait_lifted hi W H n (wait_lifted lo W H n (columns_made W.length H n x))

  -- where the row of band b of set n waits
  unfoldable pub band_place : Side → ℕ → Band → ℕ
  band_place W n b = row_place kept W.length (waits (down b) n) + half_place (across b) W
