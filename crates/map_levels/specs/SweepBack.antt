-- A level back by the 5/3 in one sweep, from the plane and the low-low part to the grid. The low-low part stands at the end of the level's work area, and the
-- grid goes to the front of it, or to the heights.
use Rattle.std.specs.Prelude.{◌≡◌, Bool, true, ℕ, ◌+◌, ◌-◌, ◌*◌, ◌/◌, ◌%◌, ◌^◌, ◌<◌, ◌≤◌, ℤ, pos, nat_abs, ◌+ℤ◌, ◌-ℤ◌, ltb, eqb}
use Rattle.std.specs.Int.Signed.{shr_z}
use Rattle.numbers.specs.Signal.{pick, both}
use Rattle.numbers.specs.Word.{wrap32}
use Rattle.lifting.specs.Line.{lo}
use Rattle.lifting.specs.Grid.{Side, count, joined}
use Rattle.lifting.specs.GridHalves.{halves_of, unlifted_in_place}
use Rattle.lifting.specs.Filter.{Filter}
use Rattle.lifting.specs.Passes.{highs_changed, lows_changed}
use Rattle.wavelet.specs.Limits.{max_width}
use Rattle.wavelet.specs.Bands.{Grid, Band, across, down, level_back}
use Rattle.wavelet.specs.Plane.{cells, plane_bands, map_back}
use Rattle.wavelet.specs.Maps.{every, every_cell, value_fits, rebuilt_fits}
use Rattle.map_levels.specs.Passes.{Rows, KeptFrom, rows_fetched}

-- The two steps back with each sum stored in 32 bits, as forward (`short_predicted`, `short_updated`).
unfoldable pub short_unupdated : ℤ → ℤ → ℤ → ℤ
short_unupdated x a b = wrap32 (x -ℤ shr_z (wrap32 (wrap32 (a +ℤ b) +ℤ pos 2)) 4)

unfoldable pub short_unpredicted : ℤ → ℤ → ℤ → ℤ
short_unpredicted x a b = wrap32 (x +ℤ shr_z (wrap32 (a +ℤ b)) 2)

-- a line in halves lifted back by them in place; one of one number or none goes as ever
unfoldable pub short_unlifted : Side → (ℕ → ℤ) → ℕ → ℤ
short_unlifted S y =
    pick (ltb 1 S.length)
    (highs_changed short_unpredicted (1 - S.start % 2) (count lo S) S.length (lows_changed short_unupdated (S.start % 2) (count lo S) S.length y))
    (unlifted_in_place S y)

-- where the low-low part of a level begins in its work area, that part, and with it the bands of the level in the plane z, whose rows are A apart
unfoldable pub low_place : Side → Side → ℕ
low_place W H = W.length * H.length - count lo W * count lo H

unfoldable pub low_part : Side → Side → (ℕ → ℤ) → Grid
low_part W H x r c = x (low_place W H + (r * count lo W + c))

abbrev pub bands_in : ℕ → Side → Side → (ℕ → ℤ) → (ℕ → ℤ) → Band → Grid
bands_in A W H z x = plane_bands W H (low_part W H x) (cells A z)

-- the numbers of the bands are small enough for the sums of a level's steps
abbrev pub SmallBands : ℕ → Side → Side → (ℕ → ℤ) → (ℕ → ℤ) → Type 0
SmallBands A W H z x = (b : Band) (r c : ℕ) → r < count (down b) H → c < count (across b) W → nat_abs (bands_in A W H z x b r c) ≤ 2 ^ 26

-- where a level's grid goes: level 0, the map, to the heights g, every other to the work area x
abbrev pub grid_in : ℕ → (ℕ → ℤ) → (ℕ → ℤ) → ℕ → ℤ
grid_in k g x = pick (eqb k 0) g x

-- room for a level: a plane of n numbers, whose rows are A apart, l heights, a work area of m
pub record BackArea (k n l m A : ℕ) (W H : Side) : Type 0 where
  pub plane : Rows n A W.length H.length
  pub heights : k ≡ 0 → W.length * H.length ≤ l
  pub work : W.length * H.length ≤ m
  pub narrow : W.length ≤ max_width

-- the rows of a level in halves before they are lifted back: from the plane, the low half of a low one from the low-low part
unfoldable pub band_rows : ℕ → Side → Side → (ℕ → ℤ) → (ℕ → ℤ) → Grid
band_rows A W H z x = rows_fetched (count lo W) W.length H (cells A z) (λ r. low_part W H x (r / 2))

-- a row in halves put to row r of the grid: the answer, whether its numbers fit; where it is yes the row in its own order
pub record RowPut (F : Filter) (ok : Bool) (k r : ℕ) (W : Side) (row g₀ g x₀ x : ℕ → ℤ) : Type 0 where
  pub answer : ok ≡ every W.length (λ j. value_fits F k (row j))
  pub made : ok ≡ true → (c : ℕ) → c < W.length → grid_in k g x (r * W.length + c) ≡ joined W (halves_of W row) c
  pub before : (j : ℕ) → j < r * W.length → (g j ≡ g₀ j) × (x j ≡ x₀ j)
  pub past : (j : ℕ) → r * W.length + W.length ≤ j → (g j ≡ g₀ j) × (x j ≡ x₀ j)
  pub low : k ≡ 0 → x ≡ x₀

-- one level of the bands in z and x₀: the answer, whether all that is halved is even (`has`) and each number of the grid fits; where it is yes the grid
pub record LevelSweptBack (F : Filter) (ok has : Bool) (k A : ℕ) (W H : Side) (z g₀ g x₀ x : ℕ → ℤ) : Type 0 where
  pub answer : ok ≡ both has (every_cell W.length H.length (λ r c. value_fits F k (level_back F wrap32 W H (bands_in A W H z x₀) r c)))
  pub made : ok ≡ true → (r c : ℕ) → r < H.length → c < W.length →
      grid_in k g x (r * W.length + c) ≡ level_back F wrap32 W H (bands_in A W H z x₀) r c
  pub kept : KeptFrom (W.length * H.length) x₀ x
  pub kept_heights : KeptFrom (W.length * H.length) g₀ g

-- all levels of the plane z: the answer, question 14; where it is yes the grid
pub record SweptBack (F : Filter) (ok : Bool) (k L A : ℕ) (W H : Side) (z g₀ g x₀ x : ℕ → ℤ) : Type 0 where
  pub answer : ok ≡ rebuilt_fits F k L W H (cells A z)
  pub made : ok ≡ true → (r c : ℕ) → r < H.length → c < W.length → grid_in k g x (r * W.length + c) ≡ map_back F wrap32 L W H (cells A z) r c
  pub kept : KeptFrom (W.length * H.length) x₀ x
  pub kept_heights : KeptFrom (W.length * H.length) g₀ g
