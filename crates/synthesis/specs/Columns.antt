-- A level on the way back, whatever its filter: what a filter does to a row along it and to a row of the columns (`Columns`), and the two filters' own, by
-- number. Document 01, "Back: rows, then columns"; document 02, Q-8: 0 the 5/3, 1 the integer 9/7.
use Rattle.std.specs.Prelude.{Bool, ℕ, zero, suc, ◌+◌, ◌-◌, ◌%◌, ℤ, ltb}
use Rattle.numbers.specs.Signal.{pick}
use Rattle.numbers.specs.Word.{wrap32}
use Rattle.lifting.specs.Line as five
use Rattle.lifting.specs.Grid.{Side}
use Rattle.lifting.specs.GridHalves as five-halves
use Rattle.lifting.specs.Filter.{Filter}
use Rattle.nine_seven.specs.NineSeven as nine
use Rattle.nine_seven.specs.NineSeven.{before, after}
use Rattle.nine_seven.specs.Memory as nine-halves
use Rattle.nine_seven.specs.Rows as nine-rows
use Rattle.filters.specs.Filters.{filter_of}
use Rattle.wavelet.specs.Bands.{Grid, Band, level_back}
use Rattle.wavelet.specs.Maps.{value_fits}
use Rattle.level.specs.Stretch.{slot, row_by}

pub record Columns : Type 0 where
  -- its look-ahead, the rows that it keeps, its levels and ranges
  pub filter : Filter
  -- along W: a row in halves lifted back in place
  pub along : Side → (ℕ → ℤ) → ℕ → ℤ
  -- even k w H q and odd k w H q: the row at q of the rows H, of w columns and low-low values of level k, rebuilt: an even row by the high rows next to it, an
  -- odd row by even rows
  pub even : ℕ → ℕ → Side → ℕ → (ℕ → ℤ) → ℕ → ℤ
  pub odd : ℕ → ℕ → Side → ℕ → (ℕ → ℤ) → ℕ → ℤ
  -- the test of 14, and the grid that the bands come to, its rows low-low values of level k
  pub fits : ℕ → ℤ → Bool
  pub back : ℕ → Side → Side → (Band → Grid) → Grid

-- the rows k before and k after the row at q, the rows mirrored about the first and the last
unfoldable pub row_before : Side → ℕ → ℕ → ℕ
row_before H k q = H.start % 2 + before H.length k (q - H.start % 2)

unfoldable pub row_after : Side → ℕ → ℕ → ℕ
row_after H k q = H.start % 2 + after H.length k (q - H.start % 2)

-- the row at t changed by f of its own numbers and those of four rows in the same columns, of m rows
unfoldable pub row_by_four : ℕ → (ℤ → ℤ → ℤ → ℤ → ℤ → ℤ) → ℕ → ℕ → ℕ → ℕ → ℕ → ℕ → (ℕ → ℤ) → ℕ → ℤ
row_by_four m f w t a b c e x = nine-rows.row_by f w w (slot m t) (slot m a) (slot m b) (slot m c) (slot m e) x

-- ---- by the filter's number
unfoldable pub along_of : ℕ → Side → (ℕ → ℤ) → ℕ → ℤ
along_of zero = five-halves.unlifted_in_place
along_of (suc f) = nine-halves.unlifted_in_place

-- the row at q, even, by the high rows next to it; an only row stays
unfoldable pub unupdated_of : ℕ → ℤ → ℤ → ℤ → ℤ
unupdated_of zero = five.unupdated wrap32
unupdated_of (suc f) = nine.unupdated wrap32

unfoldable pub even_of : ℕ → ℕ → Side → ℕ → (ℕ → ℤ) → ℕ → ℤ
even_of f w H q x = pick (ltb 1 H.length) (row_by (filter_of f).rows (unupdated_of f) w q (row_before H 1 q) (row_after H 1 q) x) x

-- the row at q, odd, by the even rows next to it, and for the 9/7 by those three places off
unfoldable pub odd_of : ℕ → ℕ → Side → ℕ → (ℕ → ℤ) → ℕ → ℤ
odd_of zero w H q x = row_by 4 (five.unpredicted wrap32) w q (row_before H 1 q) (row_after H 1 q) x
odd_of (suc f) w H q x = row_by_four 8 (nine.unpredicted wrap32) w q (row_before H 1 q) (row_after H 1 q) (row_before H 3 q) (row_after H 3 q) x

abbrev pub columns_of : ℕ → Columns
columns_of f = record {
  filter = filter_of f;
  along = along_of f;
  even = λ _. even_of f;
  odd = λ _. odd_of f;
  fits = value_fits (filter_of f);
  back = λ _. level_back (filter_of f) wrap32;
}
