-- Of maps within the limits: each has a file (`map-fits`), and two files are equal exactly where place, size, levels, filter and heights are (`map-told`,
-- `same-map-file`). Assumes nothing.
use mathlib.Core.Path.{◌≡◌, refl, sym, ap, ◌∙◌, subst}
use Prim.Native.Nat.{ℕ, zero, suc, ◌+◌, ◌*◌, ◌/◌, ◌%◌, ◌^◌, ◌≤◌, ◌<◌}
use native.Mathlib.Nat.{mul-le-mul_left, pow-le-pow_right, zero-lt-suc, mul_comm, mod-lt, mod-add-div, lt_of_mul-lt-mul_left}
use native.Mathlib.Omega.{arith}
use lib.IntN.{ℤ, pos, negsuc, nat_abs, ◌*ℤ◌}
use lib.Signed.{shr_z}
use Rattle.numbers.specs.Word.{whole}
use Rattle.numbers.proofs.Integers.{each, lin}
use Rattle.wavelet.specs.declared.shape.Shape.{Shape}
use Rattle.wavelet.specs.Shape.{columns, rows}
use Rattle.wavelet.specs.Bands.{Band, Grid, LL, HL, LH, HH}
use Rattle.wavelet.specs.Limits.{range}
use Rattle.wavelet.specs.Plane.{flat, plane_cell, plane_of, level_at}
use Rattle.wavelet.specs.View.{band_columns, band_start, Kept}
use Rattle.wavelet.specs.Asks.{by_filter, largest}
use Rattle.wavelet.proofs.GridLaws.{place-below, flat-at}
use Rattle.wavelet.proofs.LevelTheory.{plane-reads}
use Rattle.wavelet.proofs.Bridge.{map-plane-range}
use Rattle.wavelet.proofs.MapTheorems.{one_map}
use Rattle.wavelet.proofs.PlaneLayout.{Stands, plane_row, plane_column, place_is, column-in, row_in, level-places}
use Rattle.filters.specs.Filters.{filter_of}
use Rattle.filters.proofs.Filters.{filter-laws}
use Rattle.filters.proofs.PlainFigures.{range-is}
use Rattle.ground_file.specs.Groups.{zigzag}
use Rattle.ground_file.specs.File.{stored, Fits}
use Rattle.ground_file.specs.Maps.{MapOf, plane_in, map_file}
use Rattle.ground_file.proofs.FileTheorems.{file-told, same-file}

-- ---- numbers
zigzag-small : (v : ℤ) → nat_abs v < 2 ^ 27 → zigzag v < 2 ^ 28
unfolding zigzag
zigzag-small (pos n) h = omega arith
zigzag-small (negsuc n) h = omega arith

pub by_one : (v : ℤ) → shr_z v 1 ≡ v
by_one = each _ λ p q. simp lin (omega arith)

pub one-times : (v : ℤ) → v ≡ pos 1 *ℤ shr_z v 1
one-times = each _ λ p q. simp lin (omega arith)

pub stored_one : (b : Band) (v : ℤ) → stored 1 b v ≡ v
unfolding stored
stored_one LL v = refl
stored_one HL v = by_one v
stored_one LH v = by_one v
stored_one HH v = by_one v

-- no level's range needs more than 27 bits
pub range_small : (f k : ℕ) → f ≤ 1 → k ≤ by_filter f 5 4 → largest f k < 2 ^ 27
range_small zero k p h =
    let l : 65535 * 4 ^ k ≤ 65535 * 4 ^ 5 = mul-le-mul_left 65535 (pow-le-pow_right (zero-lt-suc 3) h) in omega arith
range_small (suc f) k p h =
    let l : 65535 * 6 ^ k ≤ 65535 * 6 ^ 4 = mul-le-mul_left 65535 (pow-le-pow_right (zero-lt-suc 5) h) in omega arith

-- ---- a map's plane has a file
module _ (s : Shape) (g : Grid) (m : MapOf s g) where
  pub value-range : (k : ℕ) (b : Band) (r i : ℕ) → Kept (columns s) (rows s) s.levels k b r → i < band_columns (columns s) k b
      → nat_abs (plane_in s g (band_start (columns s) (rows s) k b r + i)) ≤ range (filter_of s.filter) k
  unfolding plane_of
  value-range k b r i h l =
      let st : Stands s.levels (columns s) (rows s) k b r i =
      record { deep = h.deep; most = h.most; last = h.last; row = h.row; column = l } in
      let c = column-in s.levels (columns s) (rows s) k b r i st in
      let d = row_in s.levels (columns s) (rows s) k b r i st in
      let e : plane_in s g (band_start (columns s) (rows s) k b r + i)
      ≡ plane_cell (filter_of s.filter) whole s.levels (columns s) (rows s) g (plane_row (rows s) k b r) (plane_column (columns s) k b i) =
      ap (plane_in s g) (place_is (columns s) (rows s) k b r i) ∙ flat-at s.width _ _ _ c in
      let bound = map-plane-range (filter_of s.filter) (filter-laws s.filter) (columns s) (rows s) g m.map s.levels _ _ d c in
      let at : level_at s.levels (columns s) (rows s) (plane_row (rows s) k b r) (plane_column (columns s) k b i) ≡ k =
      level-places s.levels (columns s) (rows s) k b r i st in
      let size = ap nat_abs e in
      let top = ap (range (filter_of s.filter)) at in
      omega (arith, size, bound, top)

  value-small : (k : ℕ) (b : Band) (r i : ℕ) → Kept (columns s) (rows s) s.levels k b r → i < band_columns (columns s) k b
      → nat_abs (plane_in s g (band_start (columns s) (rows s) k b r + i)) < 2 ^ 27
  value-small k b r i h l =
      let most : largest s.filter k < 2 ^ 27 = range_small s.filter k m.filter (omega (arith, h.most, m.levels.1)) in
      let is : range (filter_of s.filter) k ≡ largest s.filter k = range-is s.filter k in
      omega (arith, value-range k b r i h l, is, most)

  pub map-fits : Fits s 1 (plane_in s g)
  map-fits =
      record {
        step = omega arith;
        levels = m.levels.0;
        across = m.across;
        down = m.down;
        width = omega (arith, m.width.1);
        height = omega (arith, m.height.1);
        small = λ k b r i h l. subst (λ v. zigzag v < 2 ^ 28) (sym (stored_one b _)) (zigzag-small _ (value-small k b r i h l));
        multiple = λ k b r i h l z. one-times _;
      }

-- ---- maps and files
few : (f L : ℕ) → L ≤ by_filter f 5 4 → L ≤ (filter_of f).levels
unfolding filter_of
few zero L q = q
few (suc f) L q = q

pub record ToldMap (s s' : Shape) (g g' : Grid) : Type 0 where
  pub shape : s ≡ s'
  pub heights : (r c : ℕ) → r < s.height → c < s.width → g r c ≡ g' r c

pub map-told : (s s' : Shape) (g g' : Grid) → MapOf s g → MapOf s' g' → map_file s g ≡ map_file s' g' → ToldMap s s' g g'
map-told s s' g g' m m' e =
    let told = file-told s s' 1 1 (plane_in s g) (plane_in s' g') (map-fits s g m) (map-fits s' g' m') e in
    let there : MapOf s g' = subst (λ v. MapOf v g') (sym told.shape) m' in
    let planes : (j : ℕ) → j < s.width * s.height → plane_in s g j ≡ plane_in s g' j =
    λ j h. told.plane j h ∙ ap (λ v. plane_in v g' j) (sym told.shape) in
    record {
      shape = told.shape;
      heights = one_map (filter_of s.filter) (filter-laws s.filter) s.levels (columns s) (rows s) g g'
          (plane_cell (filter_of s.filter) whole s.levels (columns s) (rows s) g) (few s.filter s.levels m.levels.1)
          (record { map = m.map; coefficients = λ r c p q. refl })
          (record { map = there.map; coefficients = λ r c p q. cell r c p q planes });
    }
  where
    cell : (r c : ℕ) → r < s.height → c < s.width → ((j : ℕ) → j < s.width * s.height → plane_in s g j ≡ plane_in s g' j)
        → plane_cell (filter_of s.filter) whole s.levels (columns s) (rows s) g r c
        ≡ plane_cell (filter_of s.filter) whole s.levels (columns s) (rows s) g' r c
    cell r c p q h =
        let there : r * s.width + c < s.width * s.height = rw (mul_comm s.width s.height) (place-below s.width s.height r c p q) in
        unfold plane_of in (sym (flat-at s.width _ r c q) ∙ h (r * s.width + c) there ∙ flat-at s.width _ r c q)

pub same-map-file : (s : Shape) (g g' : Grid) → MapOf s g → ((r c : ℕ) → r < s.height → c < s.width → g r c ≡ g' r c) → map_file s g ≡ map_file s g'
unfolding plane_of flat
same-map-file s g g' m e = same-file s 1 (plane_in s g) (plane_in s g') m.levels.0 (λ j h. place j h)
  where
    place : (j : ℕ) → j < s.width * s.height → plane_in s g j ≡ plane_in s g' j
    place j h =
        let c : j % s.width < s.width = mod-lt j m.width.0 in
        let d : j % s.width + s.width * (j / s.width) ≡ j = mod-add-div j s.width in
        plane-reads (filter_of s.filter) (filter-laws s.filter) whole s.levels (columns s) (rows s) g g' e (j / s.width)
        (j % s.width) (lt_of_mul-lt-mul_left s.width (omega arith)) c
