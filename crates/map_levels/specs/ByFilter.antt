-- A level where it stands, by any filter F: rows in halves, each of them in halves (document 02, Q-8).
use Rattle.std.specs.Prelude.{ℕ, ◌+◌, ◌-◌, ◌*◌, ℤ}
use Rattle.numbers.specs.Signal.{pick, windowed, spliced}
use Rattle.numbers.specs.Word.{wrap32}
use Rattle.lifting.specs.Grid.{Side, deinterleaved, joined}
use Rattle.lifting.specs.GridHalves.{halves_of, in_halves}
use Rattle.lifting.specs.Filter.{Filter, line_back_by}
use Rattle.wavelet.specs.Bands.{Grid}
use Rattle.map_levels.specs.Passes.{within, is_low, plane_row, rows_mapped}

-- a line in halves, then all columns, then all rows of a level, lifted in place
unfoldable pub lifted_by : Filter → Side → (ℕ → ℤ) → ℕ → ℤ
lifted_by F S y = in_halves S (F.forward wrap32 S (joined S (halves_of S y))) y

unfoldable pub columns_lifted_by : Filter → ℕ → Side → Grid → Grid
columns_lifted_by F w H X r c = pick (within w H.length r c) (lifted_by F H (λ i. X i c) r) (X r c)

unfoldable pub level_lifted_by : Filter → Side → Side → Grid → Grid
level_lifted_by F W H X = rows_mapped (lifted_by F W) W.length H.length (columns_lifted_by F W.length H X)

-- and lifted back: a line in halves, all columns of rows in their own order, and a level, its rows first
unfoldable pub unlifted_by : Filter → Side → (ℕ → ℤ) → ℕ → ℤ
unlifted_by F S y = in_halves S (F.halves_back wrap32 S (halves_of S y)) y

unfoldable pub columns_unlifted_by : Filter → ℕ → Side → Grid → Grid
columns_unlifted_by F w H X r c = pick (within w H.length r c) (line_back_by F wrap32 H (deinterleaved H (λ i. X i c)) r) (X r c)

unfoldable pub level_unlifted_by : Filter → Side → Side → Grid → Grid
level_unlifted_by F W H X = columns_unlifted_by F W.length H (rows_mapped (unlifted_by F W) W.length H.length X)

-- row r of a level from the plane p, whose rows are A apart, to its row of the area x, whose rows are s apart: a low one from column `from` on
abbrev pub row_copied : ℕ → ℕ → Side → ℕ → ℕ → (ℕ → ℤ) → ℕ → (ℕ → ℤ) → ℕ → ℤ
row_copied from w H A s p r x =
    spliced (r * s + pick (is_low H r) from 0) (w - pick (is_low H r) from 0)
    (windowed (plane_row H r * A + pick (is_low H r) from 0) (w - pick (is_low H r) from 0) p) x
