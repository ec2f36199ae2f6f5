-- A pass over the rows of an area: rows of w numbers, h of them, cell (r, c) of the area being number c of row r (wavelet's `cells`, `flat`).
-- Each pass leaves every other cell as it was. The rows of a level are counted from 0 and start anywhere on the grid: H is their side.
use Rattle.std.specs.Prelude.{Bool, true, false, ℕ, ◌+◌, ◌-◌, ◌*◌, ◌/◌, ◌%◌, ◌<◌, ◌≤◌, ◌≡◌, ℤ, ltb, eqb}
use Rattle.numbers.specs.Signal.{pick, both}
use Rattle.lifting.specs.Line.{lo, hi}
use Rattle.lifting.specs.Grid.{Side, count, place, joined}
use Rattle.lifting.specs.GridHalves.{halves_of}
use Rattle.wavelet.specs.Bands.{Grid}
use Rattle.map_levels.specs.Rowwise.{cut, deinterleaved_in_place}

-- h rows of w numbers, s apart, lie within n numbers
pub record Rows (n s w h : ℕ) : Type 0 where
  pub apart : 0 < s
  pub wide : w ≤ s
  pub some : 0 < h
  pub room : (h - 1) * s + w ≤ n

-- a cell among the h rows of w numbers
unfoldable pub within : ℕ → ℕ → ℕ → ℕ → Bool
within w h r c = both (ltb r h) (ltb c w)

-- the rows next to row r, mirrored at the first and the last of h rows
unfoldable pub after : ℕ → ℕ → ℕ
after h r = pick (ltb (r + 1) h) (r + 1) (r - 1)

unfoldable pub before : ℕ → ℕ
before r = pick (ltb 0 r) (r - 1) 1

-- is row r at an even coordinate?
unfoldable pub is_low : Side → ℕ → Bool
is_low H r = eqb ((H.start + r) % 2) 0

-- each row at an odd coordinate, or at an even one, changed by f of its own number and those of the rows before and after
unfoldable pub high_rows_changed : (ℤ → ℤ → ℤ → ℤ) → ℕ → Side → Grid → Grid
high_rows_changed f w H x r c =
    pick (both (within w H.length r c) (pick (is_low H r) false true)) (f (x r c) (x (before r) c) (x (after H.length r) c)) (x r c)

unfoldable pub low_rows_changed : (ℤ → ℤ → ℤ → ℤ) → ℕ → Side → Grid → Grid
low_rows_changed f w H x r c =
    pick (both (within w H.length r c) (is_low H r)) (f (x r c) (x (before r) c) (x (after H.length r) c)) (x r c)

-- each row changed as a line of w numbers by itself
unfoldable pub rows_mapped : ((ℕ → ℤ) → ℕ → ℤ) → ℕ → ℕ → Grid → Grid
rows_mapped f w h x r c = pick (within w h r c) (f (cut w (x r)) c) (x r c)

-- the row of the plane that row r of a level goes to: the low rows come first, then the high ones; and the row that row r of the plane comes from
unfoldable pub plane_row : Side → ℕ → ℕ
plane_row H r = pick (is_low H r) (r / 2) (count lo H + r / 2)

unfoldable pub level_row : Side → ℕ → ℕ
level_row H r = pick (ltb r (count lo H)) (place H lo r) (place H hi (r - count lo H))

-- the plane's rows z brought back to the level's x, a low row from column `from` on
unfoldable pub rows_fetched : ℕ → ℕ → Side → Grid → Grid → Grid
rows_fetched from w H z x r c =
    pick (both (within w H.length r c) (pick (is_low H r) (pick (ltb c from) false true) true)) (z (plane_row H r) c) (x r c)

-- a grid g of the columns W and the rows H in the corner of the plane z, its rows in halves and each of them in halves; and as it is
unfoldable pub grid_halved : Side → Side → Grid → Grid → Grid
grid_halved W H g z r c = pick (within W.length H.length r c) (deinterleaved_in_place W (g (level_row H r)) c) (z r c)

unfoldable pub grid_copied : ℕ → ℕ → Grid → Grid → Grid
grid_copied w h g z r c = pick (within w h r c) (g r c) (z r c)

-- h rows x in halves returned in their own order to the rows z
unfoldable pub rows_returned : Side → ℕ → Grid → Grid → Grid
rows_returned W h x z r c = pick (within W.length h r c) (joined W (halves_of W (x r)) c) (z r c)

-- nothing changed from place n on
pub record KeptFrom (n : ℕ) (x y : ℕ → ℤ) : Type 0 where
  pub kept : (j : ℕ) → n ≤ j → y j ≡ x j
