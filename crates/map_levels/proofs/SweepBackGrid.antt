-- The rows of a level before its sweep back, and its grid after it. Assumes nothing.
use mathlib.Core.Path.{◌≡◌, refl, sym, ap, ap₂, ◌∙◌}
use mathlib.Core.Bool.{Bool, true, false, ◌&&◌}
use lib.Signed.{shr_z}
use borrow.Author.Tests.{le-ltb}
use Prim.Native.Nat.{ℕ, ◌+◌, ◌-◌, ◌*◌, ◌/◌, ◌^◌, ◌≤◌, ◌<◌}
use native.Mathlib.Decide.{dec_lt}
use native.Mathlib.Nat.{mul-le-mul_left, mul-le-mul_right, mul_comm}
use native.Mathlib.Omega.{arith}
use lib.IntN.{ℤ, nat_abs}
use Rattle.numbers.specs.Signal.{pick, both}
use Rattle.numbers.specs.Word.{wrap32}
use Rattle.numbers.proofs.Sweep.{both as parts}
use Rattle.lifting.specs.Line.{Half, lo, hi}
use Rattle.lifting.specs.Grid.{Side, side, count, place, joined, single_high, is_even}
use Rattle.lifting.specs.GridHalves.{halves_of, unlifted_in_place}
use Rattle.lifting.specs.FiveThree.{five_three_filter}
use Rattle.lifting.proofs.FiveThreeFilter.{five-three-laws}
use Rattle.lifting.proofs.GridLaws.{counts, by_place, in_place, front-in}
use Rattle.wavelet.specs.Bands.{Grid, Band, LL, HL, LH, HH, band_of, across, down, level_back, rows_have, columns_have, level_has}
use Rattle.wavelet.specs.Plane.{cells}
use Rattle.wavelet.specs.Maps.{every, every_cell, value_fits}
use Rattle.wavelet.proofs.MapTheorems.{every-each, each-every, every-same, cells-each, each-cells}
use Rattle.map_levels.specs.Rowwise.{cut, halved_in_place}
use Rattle.map_levels.specs.Passes.{KeptFrom, rows_mapped}
use Rattle.map_levels.specs.LevelPasses.{level_grid, columns_unlifted_in_place, level_unlifted, rows_even, columns_even}
use Rattle.map_levels.specs.SweepBack.{short_unlifted, low_part, bands_in, SmallBands, band_rows, grid_in, RowPut, LevelSweptBack}
use Rattle.map_levels.specs.BackLines.{LineMade, BackRoom, SweepRoomBack, RowsDone}
use Rattle.map_levels.specs.ByFilter.{unlifted_by}
use Rattle.map_levels.proofs.CellLaws.{placed, placed-in, joined_at, cut_in}
use Rattle.map_levels.proofs.LevelMath.{BandsIn, level-back, five-three-back}
use Rattle.map_levels.proofs.LevelsMath.{rows-fetched}
use Rattle.map_levels.proofs.GridSweep.{mapped_in}
use Rattle.map_levels.proofs.OneRow.{by-test}
use Rattle.map_levels.proofs.RowwiseLaws.{and_both}
use Rattle.map_levels.proofs.SweepSets.{lines-enough}
use Rattle.map_levels.proofs.ShortBack.{short-unlifted}
use Rattle.map_levels.proofs.TestLaws.{false-true, bool_same, every-placed, rows-even, columns-even, columns-hold-single, single-wide}

-- ---- before: the bands in rows
module _ (A : ℕ) (W H : Side) (z x : ℕ → ℤ) where
  abbrev rows : Grid
  rows = band_rows A W H z x

  pub bands-rows : BandsIn W H (bands_in A W H z x) rows
  unfolding band_rows place
  bands-rows =
      rows-fetched (count lo W) W H (cells A z) (λ r. low_part W H x (r / 2)) (low_part W H x) (omega arith)
      (λ i n ib nb. ap (λ (r : ℕ). low_part W H x r n) (omega arith)) (λ i n ib nb b. absurd (omega arith))

  module _ (small : SmallBands A W H z x) where
    pub row_small : (r j : ℕ) → r < H.length → j < W.length → nat_abs (rows r j) ≤ 2 ^ 26
    unfolding halves_of band_of across down
    row_small r j =
        by_place H (λ r. r < H.length → j < W.length → nat_abs (rows r j) ≤ 2 ^ 26)
        (λ d i rh jw.
        let l = counts W in
        let ib = in_place H d i rh in
        elim (dec_lt j (count lo W)) [
          | yes b ↦ rw (bands-rows.bands d lo i j ib b) (low_small d i j ib b)
          | no b ↦
              let k : count lo W + (j - count lo W) ≡ j = omega arith in
              let e : rows (place H d i) j ≡ bands_in A W H z x (band_of hi d) i (j - count lo W) =
              ap (rows (place H d i)) (sym k) ∙ bands-rows.bands d hi i (j - count lo W) ib (omega arith) in
              rw e (high_small d i (j - count lo W) ib (omega arith))
        ]) r
      where
        low_small : (d : Half) (i n : ℕ) → i < count d H → n < count lo W → nat_abs (bands_in A W H z x (band_of lo d) i n) ≤ 2 ^ 26
        low_small lo = small LL
        low_small hi = small LH

        high_small : (d : Half) (i n : ℕ) → i < count d H → n < count hi W → nat_abs (bands_in A W H z x (band_of hi d) i n) ≤ 2 ^ 26
        high_small lo = small HL
        high_small hi = small HH

    pub cut_small : (r j : ℕ) → r < H.length → j < W.length → nat_abs (cut W.length (rows r) j) ≤ 2 ^ 26
    cut_small r j rh jw = rw (cut_in W.length (rows r) j jw) (row_small r j rh jw)

  -- ---- after: rows in halves lifted back are the grid
  abbrev done : Grid
  done = level_unlifted W H rows

  pub grid-back : (r c : ℕ) → r < H.length → c < W.length → joined W (halves_of W (done r)) c ≡ level_back five_three_filter wrap32 W H (bands_in A W H z x) r c
  unfolding level_grid
  grid-back r c rh cw =
      ap (λ (Y : Grid). level_grid W Y r c) (five-three-back W H rows)
      ∙ level-back five_three_filter five-three-laws W H (bands_in A W H z x) rows bands-rows r c rh cw

  grid-tests : (k : ℕ) → every_cell W.length H.length (λ r j. value_fits five_three_filter k (done r j))
      ≡ every_cell W.length H.length (λ r c. value_fits five_three_filter k (level_back five_three_filter wrap32 W H (bands_in A W H z x) r c))
  unfolding every_cell
  grid-tests k =
      every-same H.length _ _ (λ r rh.
      sym (every-placed W (λ j. value_fits five_three_filter k (done r j)))
      ∙ every-same W.length _ _ (λ c cw. ap (value_fits five_three_filter k) (sym (joined_at W (done r) c) ∙ grid-back r c rh cw)))

  pub level-swept : (k : ℕ) (ok has : Bool) (g₀ g y : ℕ → ℤ) →
      ok ≡ both has (every_cell W.length H.length (λ r j. value_fits five_three_filter k (done r j))) →
      (ok ≡ true → (r c : ℕ) → r < H.length → c < W.length → grid_in k g y (r * W.length + c) ≡ joined W (halves_of W (done r)) c) →
      KeptFrom (W.length * H.length) x y → KeptFrom (W.length * H.length) g₀ g → LevelSweptBack five_three_filter ok has k A W H z g₀ g x y
  level-swept k ok has g₀ g y answer made kept kept_heights =
      record {
        answer = answer ∙ ap (λ (q : Bool). pick has q false) (grid-tests k);
        made = λ t r c rh cw. made t r c rh cw ∙ grid-back r c rh cw;
        kept = kept;
        kept_heights = kept_heights;
      }

-- ---- a level of one row: y₁ are the lines with the row lifted back, y₂ those with it halved at an odd coordinate
halved-at : (w : ℕ) (y : ℕ → ℤ) (j : ℕ) → j < w → halved_in_place w y j ≡ shr_z (y j) 2
unfolding halved_in_place
halved-at w y j b = front-in w (λ i. shr_z (y i) 2) y j b

module _ (A : ℕ) (W H : Side) (z x y₀ y₁ y₂ : ℕ → ℤ) (some : 0 < H.length) (few : H.length < 2) (small : SmallBands A W H z x)
    (m : LineMade 0 W.length (short_unlifted W (cut W.length (band_rows A W H z x 0))) y₀ y₁)
    (e₂ : y₂ ≡ pick (single_high (side H.start 1)) (halved_in_place W.length y₁) y₁) where
  abbrev w : ℕ
  w = W.length

  abbrev back : Grid
  back = rows_mapped (unlifted_in_place W) w H.length (band_rows A W H z x)

  is-side : side H.start 1 ≡ H
  is-side = let one : 1 ≡ H.length = omega arith in ap (side H.start) one

  row_back : (j : ℕ) → j < w → y₁ j ≡ back 0 j
  row_back j b =
      let t : j ≡ 0 + j = omega arith in
      ap y₁ t
      ∙ m.made j b
      ∙ short-unlifted W (cut w (band_rows A W H z x 0)) (λ i ib. cut_small A W H z x small 0 i some ib) j b
      ∙ sym (mapped_in (unlifted_in_place W) w H.length (band_rows A W H z x) 0 j some b)

  row-halved : single_high H ≡ true → (j : ℕ) → j < w → y₂ j ≡ rows_mapped (halved_in_place w) w H.length back 0 j
  row-halved l j b =
      let e : y₂ ≡ halved_in_place w y₁ = rw (is-side, l) at e₂ in
      ap (λ (u : ℕ → ℤ). u j) e
      ∙ halved-at w y₁ j b
      ∙ ap (λ (v : ℤ). shr_z v 2) (row_back j b ∙ sym (cut_in w (back 0) j b))
      ∙ sym (mapped_in (halved_in_place w) w H.length back 0 j some b ∙ halved-at w (cut w (back 0)) j b)

  row-left : single_high H ≡ false → (j : ℕ) → j < w → y₂ j ≡ back 0 j
  row-left l j b = let e : y₂ ≡ y₁ = rw (is-side, l) at e₂ in ap (λ (u : ℕ → ℤ). u j) e ∙ row_back j b

  row-done : (j : ℕ) → j < w → y₂ j ≡ level_unlifted W H (band_rows A W H z x) 0 j
  unfolding level_unlifted columns_unlifted_in_place
  row-done j b =
      simp (le-ltb 1 H.length (omega arith))
      (by-test (single_high H) (λ l. simp l (row-halved l j b)) (λ l. simp l (row-left l j b)))

  even_is : (even : Bool) → even ≡ pick (single_high (side H.start 1)) (every w (λ c. is_even (y₁ c))) true →
      even ≡ columns_have five_three_filter W H (bands_in A W H z x)
  unfolding columns_even unlifted_by unlifted_in_place
  even_is even e =
      let f : even ≡ pick (single_high H) (every w (λ c. is_even (y₁ c))) true = rw is-side at e in
      f
      ∙ ap (λ (q : Bool). pick (single_high H) q true) (every-same w _ _ (λ c cb. ap is_even (row_back c cb)))
      ∙ sym (columns-even five_three_filter five-three-laws W H (bands_in A W H z x) (band_rows A W H z x) (bands-rows A W H z x))

  one-test : (k : ℕ) → every w (λ j. value_fits five_three_filter k (y₂ (0 + j)))
      ≡ every_cell w H.length (λ r j. value_fits five_three_filter k (level_unlifted W H (band_rows A W H z x) r j))
  one-test k =
      let here : (j : ℕ) → j < w → y₂ (0 + j) ≡ level_unlifted W H (band_rows A W H z x) 0 j = λ j b.
      let t : 0 + j ≡ j = omega arith in
      ap y₂ t ∙ row-done j b in
      bool_same _ _
      (λ e.
      each-cells w H.length _ (λ r c rh cw.
      let q : r ≡ 0 = omega arith in
      rw q (ap (value_fits five_three_filter k) (sym (here c cw)) ∙ every-each w _ e c cw)))
      (λ e. each-every w _ (λ c cw. ap (value_fits five_three_filter k) (here c cw) ∙ cells-each w H.length _ e 0 c some cw))

  pub one-back : (k : ℕ) (even fits ok : Bool) (g₀ g x' : ℕ → ℤ) → even ≡ pick (single_high (side H.start 1)) (every w (λ c. is_even (y₁ c))) true →
      RowPut five_three_filter fits k 0 W (λ j. y₂ (0 + j)) g₀ g x x' → ok ≡ both even fits →
      LevelSweptBack five_three_filter ok (columns_have five_three_filter W H (bands_in A W H z x)) k A W H z g₀ g x x'
  one-back k even fits ok g₀ g x' e p o =
      let t : H.length ≡ 1 = omega arith in
      let q : w * H.length ≡ w * 1 = ap (λ (i : ℕ). w * i) t in
      let past : (j : ℕ) → w * H.length ≤ j → 0 * w + w ≤ j = λ j b. omega arith in
      level-swept A W H z x k ok (columns_have five_three_filter W H (bands_in A W H z x)) g₀ g x'
      (o ∙ ap₂ (λ (a b : Bool). pick a b false) (even_is even e) (p.answer ∙ one-test k))
      (λ t r c rh cw.
      let q : r ≡ 0 = omega arith in
      let f = (parts even fits (sym o ∙ t)).1 in
      let j : 0 + placed W c ≡ placed W c = omega arith in
      rw q
      (p.made f c cw
      ∙ joined_at W (λ i. y₂ (0 + i)) c
      ∙ ap y₂ j
      ∙ row-done (placed W c) (placed-in W c cw)
      ∙ sym (joined_at W (level_unlifted W H (band_rows A W H z x) 0) c)))
      (record { kept = λ j b. (p.past j (past j b)).1 })
      (record { kept = λ j b. (p.past j (past j b)).0 })

-- ---- a level of any number of rows: whether its rows are lines, and then its columns
module _ (k A : ℕ) (W H : Side) (z g₀ x : ℕ → ℤ) (even : Bool) (e : even ≡ rows_even W H.length (cells A z)) where
  abbrev bands : Band → Grid
  bands = bands_in A W H z x

  rows-have : rows_have W H bands ≡ even
  rows-have = rows-even five_three_filter five-three-laws W H (low_part W H x) (cells A z) ∙ sym e

  pub level-odd : even ≡ false → LevelSweptBack five_three_filter false (level_has five_three_filter W H bands) k A W H z g₀ g₀ x x
  unfolding level_has
  level-odd f =
      let h = rows-have ∙ f in
      record {
        answer = rw h refl;
        made = λ t. absurd (false-true t);
        kept = record { kept = λ j b. refl };
        kept_heights = record { kept = λ j b. refl };
      }

  module _ (t : even ≡ true) (ok : Bool) (g y : ℕ → ℤ) where
    pub level-one : LevelSweptBack five_three_filter ok (columns_have five_three_filter W H bands) k A W H z g₀ g x y →
        LevelSweptBack five_three_filter ok (level_has five_three_filter W H bands) k A W H z g₀ g x y
    unfolding level_has
    level-one m = let h = rows-have ∙ t in rw h m

    pub level-many : 1 < H.length → LevelSweptBack five_three_filter ok true k A W H z g₀ g x y →
        LevelSweptBack five_three_filter ok (level_has five_three_filter W H bands) k A W H z g₀ g x y
    unfolding level_has
    level-many more m =
        let h = rows-have ∙ t in
        let v = columns-hold-single five_three_filter five-three-laws W H bands (single-wide five_three_filter five-three-laws H (λ q. omega arith)) in
        rw (h, v) m

-- a line has room for a row, and the areas for the first
pub one-room : (k n l m o A : ℕ) (W H : Side) → BackRoom k n l m o A W H →
    (0 + W.length ≤ o) × (W.length ≤ o) × (k ≡ 0 → 0 * W.length + W.length ≤ l) × (0 * W.length + W.length ≤ m)
one-room k n l m o A W H R =
    let e = lines-enough W.length R.area.narrow in
    let b = R.lines in
    let some = R.area.plane.some in
    let row : W.length * 1 ≤ W.length * H.length = mul-le-mul_left W.length (omega arith) in
    let work = R.area.work in
    (omega arith, omega arith, λ q. omega (arith, R.area.heights q), omega arith)

-- ---- a level of more than one row, all of them done
pub rows-swept : (ok done : Bool) (k A : ℕ) (W H : Side) (z g₀ x g x' y : ℕ → ℤ) → ok ≡ done → RowsDone done k A W H z g₀ x H.length g x' y →
    LevelSweptBack five_three_filter ok true k A W H z g₀ g x x'
unfolding every_cell
rows-swept ok done k A W H z g₀ x g x' y e D =
    let s = mul_comm H.length W.length in
    level-swept A W H z x k ok true g₀ g x' (e ∙ D.answer) (λ t r c rh cw. D.made (sym e ∙ t) r c rh cw)
    (record { kept = λ j b. D.kept.kept j (omega arith) }) (record { kept = λ j b. D.kept_heights.kept j (omega arith) })

-- one more answer
pub rows-and : (a b : Bool) {k A r : ℕ} {W H : Side} {z g₀ x g x' y : ℕ → ℤ} → RowsDone (both a b) k A W H z g₀ x r g x' y →
    RowsDone (a && b) k A W H z g₀ x r g x' y
rows-and a b D = rw (and_both a b) D

-- the areas keep their lengths
pub room-kept : {k n l m o l' m' o' A : ℕ} {W H : Side} → l' ≡ l → m' ≡ m → o' ≡ o → SweepRoomBack k n l m o A W H → SweepRoomBack k n l' m' o' A W H
room-kept el em eo R = rw (el, em, eo) R

pub height-less : {k n l m o A : ℕ} {W H : Side} → SweepRoomBack k n l m o A W H → H.length ≤ m
height-less {W = W} {H = H} R =
    let wide = R.wide in
    let b : 1 * H.length ≤ W.length * H.length = mul-le-mul_right H.length wide in
    omega (arith, R.area.work)
