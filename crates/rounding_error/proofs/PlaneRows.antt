-- The band rows of a plane in memory, for a reader that is fed from it.
--     memory-rows       they are the rows, by their names, of its grid
--     rounded-reads     the way back from a rounded plane in memory is that from the rounded cells
--     rounded-range     a number of a row of a map's rounded plane is in its level's range: 7 does not come
-- Assumes nothing.
use mathlib.Core.Path.{◌≡◌, refl, sym, ap, ◌∙◌}
use Prim.Native.Nat.{ℕ, zero, suc, ◌+◌, ◌-◌, ◌≤◌, ◌<◌}
use native.Mathlib.Omega.{arith}
use lib.IntN.{ℤ, nat_abs}
use Rattle.lifting.specs.Grid.{Side, side}
use Rattle.lifting.specs.Filter.{Filter}
use Rattle.lifting.specs.FiveThree.{five_three_filter}
use Rattle.lifting.proofs.FiveThreeFilter.{five-three-laws}
use Rattle.wavelet.specs.Limits.{range}
use Rattle.wavelet.specs.Bands.{Grid, Band, LL, HL, LH, HH, across, down}
use Rattle.wavelet.specs.Levels.{next, side_at}
use Rattle.wavelet.specs.Maps.{HasPlane}
use Rattle.wavelet.specs.Plane.{cells}
use Rattle.wavelet.specs.View.{band_start}
use Rattle.wavelet.proofs.GridLaws.{flat-at, cells-flat}
use Rattle.wavelet.proofs.LevelTheory.{Same, band_in, placed, over, plane-bands, over-same, same-corner, same-in-bands}
use Rattle.wavelet.proofs.MapTheorems.{plane-within}
use Rattle.wavelet.proofs.PlaneLayout.{Stands, plane_row, plane_column, place_is, row_in, column-in, level-places}
use Rattle.rounding.specs.Rounding.{rounded_cell, rounded_plane}
use Rattle.tolerance.specs.Back.{level_back_limited, map_back_limited}
use Rattle.rounding_error.specs.Tolerant.{rows_in}
use Rattle.rounding_error.proofs.FromRows.{PlaneHas}
use Rattle.rounding_error.proofs.LimitedWords.{level-reads}
use Rattle.rounding_error.proofs.Rounded.{rounded-small}

abbrev F : Filter
F = five_three_filter

-- ---- its rows
module _ (W H L : ℕ) (x : ℕ → ℤ) where
  row_is : (k : ℕ) (b : Band) (r c : ℕ) →
      x (band_start (side 0 W) (side 0 H) (suc k) b r + c) ≡ band_in (side_at k (side 0 W)) (side_at k (side 0 H)) (cells W x) b r c
  unfolding band_start band_in placed cells across down side_at next
  row_is k LL r c = refl
  row_is k HL r c = ap x (omega arith)
  row_is k LH r c = refl
  row_is k HH r c = ap x (omega arith)

  pub memory-rows : PlaneHas L (side 0 W) (side 0 H) (rows_in W H x) (cells W x)
  memory-rows = record { are = λ k b h last r c p q. row_is k b r c }

-- ---- what the way back reads
pub map-reads : (keep : ℤ → ℤ) (k L : ℕ) (W H : Side) (x y : Grid) → Same W H x y → Same W H (map_back_limited F keep k L W H x) (map_back_limited F keep k L W H y)
unfolding map_back_limited
map-reads keep k zero W H x y e r c u v = e r c u v
map-reads keep k (suc L) W H x y e r c u v =
    let A = map_back_limited F keep (suc k) L (next W) (next H) x in
    let B = map_back_limited F keep (suc k) L (next W) (next H) y in
    ap (λ (p : Band → Grid). level_back_limited F keep k W H p r c) (plane-bands W H A x)
    ∙ level-reads keep k W H (over A (band_in W H x)) (over B (band_in W H y))
    (over-same W H A B (band_in W H x) (band_in W H y) (map-reads keep (suc k) L (next W) (next H) x y (same-corner W H x y e)) (same-in-bands W H x y e)) r c u v
    ∙ ap (λ (p : Band → Grid). level_back_limited F keep k W H p r c) (sym (plane-bands W H B y))

module _ (L W H q : ℕ) (x : ℕ → ℤ) where
  abbrev rounded : Grid
  rounded = rounded_cell L (side 0 W) (side 0 H) q (cells W x)

  rounded-cells : Same (side 0 W) (side 0 H) (cells W (rounded_plane L W H q x)) rounded
  unfolding rounded_plane
  rounded-cells r c u v = cells-flat W rounded r c v

  pub rounded-reads : (keep : ℤ → ℤ) (k : ℕ) → Same (side 0 W) (side 0 H) (map_back_limited F keep k L (side 0 W) (side 0 H) (cells W (rounded_plane L W H q x)))
      (map_back_limited F keep k L (side 0 W) (side 0 H) rounded)
  rounded-reads keep k = map-reads keep k L (side 0 W) (side 0 H) _ _ rounded-cells

  -- ---- 7
  pub rounded-range : (g : Grid) → L ≤ F.levels → HasPlane F L (side 0 W) (side 0 H) g (cells W x) → (k : ℕ) (b : Band) (r c : ℕ) →
      Stands L (side 0 W) (side 0 H) k b r c → nat_abs (rounded_plane L W H q x (band_start (side 0 W) (side 0 H) k b r + c)) ≤ range F k
  unfolding rounded_plane
  rounded-range g few has k b r c s =
      let R = plane_row (side 0 H) k b r in
      let C = plane_column (side 0 W) k b c in
      let u : R < H = row_in L (side 0 W) (side 0 H) k b r c s in
      let v : C < W = column-in L (side 0 W) (side 0 H) k b r c s in
      let is : rounded_plane L W H q x (band_start (side 0 W) (side 0 H) k b r + c) ≡ rounded R C =
      ap (rounded_plane L W H q x) (place_is (side 0 W) (side 0 H) k b r c) ∙ flat-at W rounded R C v in
      let top = plane-within F five-three-laws L (side 0 W) (side 0 H) g (cells W x) few has R C u v in
      let level = level-places L (side 0 W) (side 0 H) k b r c s in
      omega (arith, ap nat_abs is, rounded-small L (side 0 W) (side 0 H) q (cells W x) R C, top, ap (range F) level)
