-- The lines of a level back in one sweep. Five lines stand in one array at a fixed distance, in each a row in halves: a low row and the high row after it, as
-- their rows are lifted back; the high row before them; the last low row that is done, and the high row that is done with it.
use Rattle.std.specs.Prelude.{◌≡◌, Bool, true, ℕ, ◌+◌, ◌-◌, ◌*◌, ◌<◌, ◌≤◌, ℤ, pos}
use Rattle.numbers.specs.Signal.{stored}
use Rattle.numbers.specs.Tests.{every}
use Rattle.numbers.specs.Word.{wrap32}
use Rattle.lifting.specs.Line.{unupdated}
use Rattle.lifting.specs.Grid.{Side, joined}
use Rattle.lifting.specs.GridHalves.{halves_of, unlifted_in_place}
use Rattle.lifting.specs.Passes.{near}
use Rattle.lifting.specs.FiveThree.{five_three_filter}
use Rattle.areas.specs.Areas.{between}
use Rattle.wavelet.specs.Limits.{max_sample}
use Rattle.wavelet.specs.Maps.{value_fits}
use Rattle.map_levels.specs.Passes.{before, low_rows_changed, rows_mapped, KeptFrom}
use Rattle.map_levels.specs.LevelPasses.{level_unlifted}
use Rattle.map_levels.specs.Sweep.{line_half}
use Rattle.map_levels.specs.SweepBack.{short_unupdated, short_unpredicted, band_rows, grid_in, BackArea}

-- the distance of the lines, and where each begins
abbrev pub line_long : ℕ
line_long = 2 * line_half

abbrev pub next_line : ℕ
next_line = line_long

abbrev pub high_line : ℕ
high_line = 2 * line_long

abbrev pub even_line : ℕ
even_line = 3 * line_long

abbrev pub odd_line : ℕ
odd_line = 4 * line_long

-- ---- a row lifted back: low number n of m by its high neighbours, and high number n by its low neighbours, in a row of N numbers
abbrev pub low_back : ℕ → ℕ → ℕ → (ℕ → ℤ) → (ℕ → ℤ) → ℕ → ℤ
low_back o m N low row n = short_unupdated (low n) (row (m + near (N - m) (n + o - 1))) (row (m + near (N - m) (n + o)))

abbrev pub high_back : ℕ → ℕ → (ℕ → ℤ) → (ℕ → ℤ) → ℕ → ℤ
high_back o m row lows n = short_unpredicted (row (m + n)) (lows (near m (n + o - 1))) (lows (near m (n + o)))

-- ---- the columns of a pair of rows: the low row done, of y by the high rows on both sides, and the high row before it
abbrev pub even_of : (ℕ → ℤ) → ℕ → ℤ
even_of y k = short_unupdated (y k) (y (high_line + k)) (y (next_line + k))

abbrev pub odd_of : (ℕ → ℤ) → ℕ → ℤ
odd_of y k = short_unpredicted (y (high_line + k)) (y (even_line + k)) (even_of y k)

-- one column of them
abbrev pub pair_stored : ℕ → (ℕ → ℤ) → ℕ → ℤ
pair_stored k y = stored (high_line + k) (y (next_line + k)) (stored (even_line + k) (even_of y k) (stored (odd_line + k) (odd_of y k) y))

abbrev pub IsHeight : ℤ → Type 0
IsHeight v = between (pos 0) (pos max_sample) v ≡ true

-- the columns below m of the lines y₀ done
pub record PairBack (m : ℕ) (y₀ y : ℕ → ℤ) : Type 0 where
  pub odd : (j : ℕ) → j < m → y (odd_line + j) ≡ odd_of y₀ j
  pub even : (j : ℕ) → j < m → y (even_line + j) ≡ even_of y₀ j
  pub high : (j : ℕ) → j < m → y (high_line + j) ≡ y₀ (next_line + j)

-- the first low row done, and the last high row where no low row follows
pub record EvenBack (m : ℕ) (y₀ y : ℕ → ℤ) : Type 0 where
  pub even : (j : ℕ) → j < m → y (even_line + j) ≡ even_of y₀ j
  pub high : (j : ℕ) → j < m → y (high_line + j) ≡ y₀ (high_line + j)

pub record OddBack (m : ℕ) (y₀ y : ℕ → ℤ) : Type 0 where
  pub odd : (j : ℕ) → j < m → y (odd_line + j) ≡ short_unpredicted (y₀ (high_line + j)) (y₀ (even_line + j)) (y₀ (even_line + j))

-- ---- rows to and from the lines
-- w numbers v at place b of the lines y, which were y₀
pub record LineMade (b w : ℕ) (v y₀ y : ℕ → ℤ) : Type 0 where
  pub made : (j : ℕ) → j < w → y (b + j) ≡ v j
  pub before : (j : ℕ) → j < b → y j ≡ y₀ j
  pub after : (j : ℕ) → b + w ≤ j → y j ≡ y₀ j

-- room for a level: a plane of n numbers, l heights, a work area of m and lines of o
pub record BackRoom (k n l m o A : ℕ) (W H : Side) : Type 0 where
  pub area : BackArea k n l m A W H
  pub wide : 0 < W.length
  pub lines : 5 * line_long ≤ o
  pub level : k ≤ five_three_filter.levels

-- room for the sweep of a level: a plane of n numbers, l heights, a work area of m and lines of o
pub record SweepRoomBack (k n l m o A : ℕ) (W H : Side) : Type 0 where
  pub area : BackArea k n l m A W H
  pub wide : 0 < W.length
  pub more : 1 < H.length
  pub lines : 5 * line_long ≤ o
  pub halves : W.length ≤ line_long
  pub level : k ≤ five_three_filter.levels

-- ---- before high row r: the rows before it are put, the lines y have it lifted back along its row, and the low row before it done
pub record RowsDone (ok : Bool) (k A : ℕ) (W H : Side) (z g₀ x₀ : ℕ → ℤ) (r : ℕ) (g x y : ℕ → ℤ) : Type 0 where
  pub high : r < H.length → (j : ℕ) → j < W.length →
      y (high_line + j) ≡ rows_mapped (unlifted_in_place W) W.length H.length (band_rows A W H z x₀) r j
  pub even : r < H.length → (j : ℕ) → j < W.length →
      y (even_line + j)
      ≡ low_rows_changed (unupdated wrap32) W.length H (rows_mapped (unlifted_in_place W) W.length H.length (band_rows A W H z x₀)) (before r) j
  pub answer : ok ≡ every r (λ i. every W.length (λ j. value_fits five_three_filter k (level_unlifted W H (band_rows A W H z x₀) i j)))
  pub made : ok ≡ true → (i c : ℕ) → i < r → c < W.length →
      grid_in k g x (i * W.length + c) ≡ joined W (halves_of W (level_unlifted W H (band_rows A W H z x₀) i)) c
  pub kept : KeptFrom (r * W.length) x₀ x
  pub kept_heights : KeptFrom (r * W.length) g₀ g
