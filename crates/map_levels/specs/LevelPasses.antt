-- The levels as the private functions make them: a level's rows stand in an area, each in halves. W are its columns, H its rows.
use Rattle.std.specs.Prelude.{Bool, true, ℕ, ◌+◌, ◌-◌, ◌*◌, ◌^◌, ◌≤◌, ◌<◌, ◌≡◌, ℤ, pos, nat_abs, ltb, leb}
use Rattle.numbers.specs.Signal.{pick, both, windowed, spliced}
use Rattle.numbers.specs.Tests.{every}
use Rattle.numbers.specs.Word.{wrap32}
use Rattle.lifting.specs.Line.{lo, unupdated, unpredicted}
use Rattle.lifting.specs.Halves.{fronted}
use Rattle.lifting.specs.Grid.{Side, count, joined, single_high, is_even}
use Rattle.lifting.specs.GridHalves.{halves_of, lifted_in_place, unlifted_in_place}
use Rattle.lifting.specs.Filter.{Filter}
use Rattle.lifting.specs.FiveThree.{five_three_filter}
use Rattle.wavelet.specs.Limits.{max_width, range}
use Rattle.wavelet.specs.Bands.{Grid, level_has}
use Rattle.wavelet.specs.Plane.{cells, flat, plane_cell, level_at, plane_bands, map_back}
use Rattle.wavelet.specs.Maps.{every_cell, value_fits, rebuilt_fits}
use Rattle.wavelet.specs.Levels.{next}
use Rattle.map_levels.specs.Rowwise.{between, halved_in_place}
use Rattle.map_levels.specs.ByFilter.{unlifted_by, level_unlifted_by}
use Rattle.map_levels.specs.Passes.{within, high_rows_changed, low_rows_changed, rows_mapped, rows_fetched, rows_returned, Rows, KeptFrom}

-- the grid of the columns W whose rows stand in X, each in halves
unfoldable pub level_grid : Side → Grid → Grid
level_grid W X r = joined W (halves_of W (X r))

-- the grid of the columns W and the rows H that stands in X, its rows in halves and each of them in halves
unfoldable pub corner_grid : Side → Side → Grid → Grid
corner_grid W H X r c = joined H (halves_of H (λ i. level_grid W X i c)) r

-- all columns, in halves, then all rows, in halves, lifted in place
unfoldable pub columns_lifted_in_place : ℕ → Side → Grid → Grid
columns_lifted_in_place w H X r c = pick (within w H.length r c) (lifted_in_place H (λ i. X i c) r) (X r c)

unfoldable pub level_lifted : Side → Side → Grid → Grid
level_lifted W H X = rows_mapped (lifted_in_place W) W.length H.length (columns_lifted_in_place W.length H X)

-- row r of an area, in halves, lifted in place
abbrev pub row_lifted : ℕ → Side → ℕ → (ℕ → ℤ) → ℕ → ℤ
row_lifted s W r x = spliced (r * s) W.length (lifted_in_place W (windowed (r * s) W.length x)) x

-- all columns back: the low rows first, then the high ones; a single high row is halved
unfoldable pub columns_unlifted_in_place : ℕ → Side → Grid → Grid
columns_unlifted_in_place w H X =
    pick (ltb 1 H.length) (high_rows_changed (unpredicted wrap32) w H (low_rows_changed (unupdated wrap32) w H X))
    (pick (single_high H) (rows_mapped (halved_in_place w) w H.length X) X)

-- all rows, then all columns
unfoldable pub level_unlifted : Side → Side → Grid → Grid
level_unlifted W H X = columns_unlifted_in_place W.length H (rows_mapped (unlifted_in_place W) W.length H.length X)

-- the plane z with the plane of the grid g, at L levels, in its corner
unfoldable pub plane_written : Filter → ℕ → Side → Side → Grid → Grid → Grid
plane_written F L W H g z r c = pick (within W.length H.length r c) (plane_cell F wrap32 L W H g r c) (z r c)

-- the rows X are those of the grid that the plane's corner x gives back at L levels
pub record Rebuilt (F : Filter) (L : ℕ) (W H : Side) (x X : Grid) : Type 0 where
  pub cell : (r c : ℕ) → r < H.length → c < W.length → level_grid W X r c ≡ map_back F wrap32 L W H x r c

-- whether more levels follow on a low-low part of w columns and h rows: levels are left, and it is not empty
unfoldable pub has_next : ℕ → ℕ → ℕ → Bool
has_next L w h = both (ltb 1 L) (both (ltb 0 w) (ltb 0 h))

-- Q-3: "such a value that is odd when it is due to be halved belongs to no map": h rows of a single high column, as they stand in the plane z; and a single
-- high row X of w numbers, lifted back
unfoldable pub rows_even : Side → ℕ → Grid → Bool
rows_even W h z = pick (single_high W) (every h (λ r. is_even (z r 0))) true

unfoldable pub columns_even : ℕ → Side → Grid → Bool
columns_even w H X = pick (single_high H) (every w (λ c. is_even (X 0 c))) true

-- every number from low to high: of rows first up to last, columns from up to to
unfoldable pub rows_between : ℕ → ℕ → ℕ → ℕ → ℤ → ℤ → Grid → Bool
rows_between first last from to low high x =
    every_cell (to - from) (last - first) (λ r c. between low high (x (first + r) (from + c)))

-- question 7 of the corner of a plane, k being the level of its own bands
unfoldable pub region_in_range : Filter → ℕ → ℕ → Side → Side → Grid → Bool
region_in_range F k L W H x = every_cell W.length H.length (λ r c. leb (nat_abs (x r c)) (range F (k - 1 + level_at L W H r c)))

-- room for a level back: its rows in a plane of n numbers, A apart, and in a work area of m numbers, s apart, `from` columns of the low ones being made
pub record LevelRoom (n m A s from : ℕ) (W H : Side) : Type 0 where
  pub plane : Rows n A W.length H.length
  pub work : Rows m s W.length H.length
  pub few : from ≤ count lo W

-- L levels of rows of w numbers, s apart: strides double from level to level, and stay small
pub record Doubling (L s w : ℕ) : Type 0 where
  pub some : 0 < L
  pub small : s * 2 ^ L < 2 ^ 32
  pub narrow : w ≤ max_width

-- what one level back by a filter leaves of the work area y₀, and its answer, whether each value that it halved is even: z is the plane
pub record LevelMadeBy (F : Filter) (ok : Bool) (from s : ℕ) (W H : Side) (z : Grid) (y₀ y : ℕ → ℤ) : Type 0 where
  pub answer : ok ≡ both (rows_even W H.length z)
      (columns_even W.length H (rows_mapped (unlifted_by F W) W.length H.length (rows_fetched from W.length H z (cells s y₀))))
  pub rows : ok ≡ true → y ≡ flat s (level_unlifted_by F W H (cells s (flat s (rows_fetched from W.length H z (cells s y₀)))))
  pub kept : KeptFrom ((H.length - 1) * s + W.length) y₀ y

-- what all levels back leave of the work area y₀, and their answer, question 14 of the low-low part and of what this level halves: z is the plane, k the level
-- that this grid is the low-low part of, 0 for the map
pub record LevelsBack (F : Filter) (ok : Bool) (k L s A : ℕ) (W H : Side) (z y₀ y : ℕ → ℤ) : Type 0 where
  pub answer : ok ≡ both (rebuilt_fits F (k + 1) (L - 1) (next W) (next H) (cells A z))
      (level_has F W H (plane_bands W H (map_back F wrap32 (L - 1) (next W) (next H) (cells A z)) (cells A z)))
  pub grid : ok ≡ true → Rebuilt F L W H (cells A z) (cells s y)
  pub kept : KeptFrom ((H.length - 1) * s + W.length) y₀ y

-- h rows of the columns W, y₀, each in halves, made heights: the answer, whether they all are heights; where it is yes the heights g, and the rows are cleared
pub record Finished (ok : Bool) (W : Side) (h : ℕ) (y₀ y g₀ g : ℕ → ℤ) : Type 0 where
  pub answer : ok ≡ every_cell W.length h (λ r c. value_fits five_three_filter 0 (cells W.length y₀ r c))
  pub heights : ok ≡ true → g ≡ flat W.length (rows_returned W h (cells W.length y₀) (cells W.length g₀))
  pub cleared : ok ≡ true → y ≡ flat W.length (rows_mapped (fronted W.length (λ _. pos 0)) W.length h (cells W.length y₀))
  pub kept : KeptFrom ((h - 1) * W.length + W.length) y₀ y
  pub kept_heights : KeptFrom ((h - 1) * W.length + W.length) g₀ g

-- what the plane z leaves of the heights g₀ and of the work area y₀, and the answer, question 14
pub record MapRebuilt (F : Filter) (ok : Bool) (W H : Side) (L : ℕ) (z g₀ g y₀ y : ℕ → ℤ) : Type 0 where
  pub answer : ok ≡ rebuilt_fits F 0 L W H (cells W.length z)
  pub heights : ok ≡ true → g ≡ fronted (W.length * H.length) (flat W.length (map_back F wrap32 L W H (cells W.length z))) g₀
  pub cleared : ok ≡ true → y ≡ fronted (W.length * H.length) (λ _. pos 0) y₀
  pub kept : KeptFrom ((H.length - 1) * W.length + W.length) y₀ y
  pub kept_heights : KeptFrom ((H.length - 1) * W.length + W.length) g₀ g
