-- One level in an area is one level of the definition: the passes over rows in halves, forward and back. Assumes nothing.
use mathlib.Core.Path.{◌≡◌, refl, sym, ap, ap₂, ◌∙◌, fun_ext}
use mathlib.Core.Bool.{true, false}
use Prim.Native.Nat.{ℕ, ◌+◌, ◌-◌, ◌%◌, ◌≤◌, ◌<◌}
use native.Mathlib.Decide.{dec_lt}
use native.Mathlib.Omega.{arith}
use lib.IntN.{ℤ, pos, nat_abs, ◌-ℤ◌}
use lib.Signed.{shr_z}
use borrow.Author.Tests.{lt-ltb, le-ltb}
use Rattle.numbers.specs.Word.{wrap32}
use Rattle.numbers.proofs.Integers.{dif, dif-nat_abs}
use Rattle.lifting.specs.Line.{Half, lo, hi, mirror, unupdated, unpredicted}
use Rattle.lifting.specs.Grid.{Side, place, count, deinterleaved, joined, even_at, odd_at, line_halves_back, line_back, single_high}
use Rattle.lifting.specs.Grid.{before as place_before, after as place_after}
use Rattle.lifting.specs.GridHalves.{halves_of, unlifted_in_place}
use Rattle.lifting.proofs.GridLaws.{place-in, in_place, by_place, joined-place, joined-deinterleaved, front-in}
use Rattle.lifting.proofs.SingleLaws.{single-high, single-none}
use Rattle.lifting.specs.Filter.{Filter, line_back_by}
use Rattle.lifting.specs.FiveThree.{five_three_filter}
use Rattle.lifting.proofs.FilterLaws.{FilterLaws}
use Rattle.wavelet.specs.Bands.{Grid, Band, band_of, columns_lifted, subband, rows_unlifted, level_back}
use Rattle.wavelet.proofs.LevelTheory.{across-of, down-of}
use Rattle.wavelet.specs.Plane.{half_at, place_in}
use Rattle.map_levels.specs.Rowwise.{cut, halved_in_place}
use Rattle.map_levels.specs.Passes.{before, after, low_rows_changed, rows_mapped}
use Rattle.map_levels.specs.ByFilter.{lifted_by, columns_lifted_by, level_lifted_by, unlifted_by, columns_unlifted_by, level_unlifted_by}
use Rattle.map_levels.specs.LevelPasses.{level_grid, corner_grid, columns_unlifted_in_place, level_unlifted}
use Rattle.map_levels.proofs.GridSweep.{mapped_in}
use Rattle.map_levels.proofs.RowwiseLaws.{halves-cut}
use Rattle.map_levels.proofs.ColumnPass.{before-is, after_is}
use Rattle.map_levels.proofs.CellLaws.{placed, placed-in, joined_at, grid-at, halves-at, halves-half, half_in, within_in, low-coordinate}
use Rattle.map_levels.proofs.CellLaws.{by-within, columns-out, high-coordinate, high-in, high-low, low-in, low-high, cut_in}

-- ---- the rows next to row r are the places next to place r of a column
previous : (k : ℕ) → nat_abs (pos k -ℤ pos 1) ≡ (k - 1) + (1 - k)
unfolding dif
previous k = dif-nat_abs k 1

module _ (h r : ℕ) (g : 1 < h) (rh : r < h) where
  before_at : before r ≡ place_before h r
  unfolding before place_before mirror
  before_at =
      let e = previous r in
      elim (dec_lt 0 r) [ yes b ↦ simp (lt-ltb 0 r b) (omega arith) | no b ↦ simp (le-ltb 0 r (omega arith)) (omega arith) ]

  after-at : after h r ≡ place_after h r
  unfolding after place_after mirror
  after-at =
      elim (dec_lt (r + 1) h) [ yes b ↦ simp (lt-ltb (r + 1) h b) (omega arith) | no b ↦ simp (le-ltb (r + 1) h (omega arith)) (omega arith) ]

-- an only row is high exactly where the level has a high row
pub single-is : (H : Side) → H.length ≤ 1 → 0 < count hi H → single_high H ≡ true
single-is H g b = elim (single_high H) as (λ t. single_high H ≡ t → single_high H ≡ true) [
  | true ↦ λ e. e
  | false ↦ λ e. absurd (omega (arith, single-none H (omega arith) e))
] refl

pub single-not : (H : Side) → 0 < count lo H → single_high H ≡ false
single-not H b = elim (single_high H) as (λ t. single_high H ≡ t → single_high H ≡ false) [
  | true ↦ λ e. let t = single-high H e in absurd (omega arith)
  | false ↦ λ e. e
] refl

-- ---- columns: each is a line, the rows at even coordinates its low half and the others its high half
module _ (w : ℕ) (H : Side) (X : Grid) (c : ℕ) (cw : c < w) where
  abbrev column : Grid → ℕ → ℤ
  column Z i = Z i c

  abbrev lows : Grid
  lows = low_rows_changed (unupdated wrap32) w H X

  low-back : 1 < H.length → (r : ℕ) → r < H.length → (H.start + r) % 2 ≡ 0 → lows r c ≡ even_at wrap32 H.length (column X) r
  unfolding even_at
  low-back g r rh e =
      low-in (unupdated wrap32) w H X c cw r rh e ∙ rw (before_at H.length r g rh, after-at H.length r g rh)

  high-back : 1 < H.length → (r : ℕ) → r < H.length → (H.start + r) % 2 ≡ 1 →
      unpredicted wrap32 (lows r c) (lows (before r) c) (lows (after H.length r) c) ≡ odd_at wrap32 H.length (column X) r
  unfolding odd_at
  high-back g r rh e =
      let h = H.length in
      let near = before-is H.start h r g rh in
      let far = after_is H.start h r g rh in
      rw (
        low-high (unupdated wrap32) w H X c cw r rh e,
        low-back g (before r) near.0 (omega (arith, near.1)),
        low-back g (after h r) far.0 (omega (arith, far.1)),
        before_at h r g rh,
        after-at h r g rh,
      )

  halved : (q : ℕ) → q < H.length → rows_mapped (halved_in_place w) w H.length X q c ≡ shr_z (X q c) 2
  unfolding halved_in_place
  halved q qb =
      mapped_in (halved_in_place w) w H.length X q c qb cw
      ∙ front-in w (λ i. shr_z (cut w (X q) i) 2) (cut w (X q)) c cw
      ∙ ap (λ (v : ℤ). shr_z v 2) (cut_in w (X q) c cw)

  columns-halves-back : (d : Half) (n : ℕ) → n < count d H →
      columns_unlifted_in_place w H X (place H d n) c ≡ line_halves_back wrap32 H (deinterleaved H (column X)) d n
  unfolding columns_unlifted_in_place line_halves_back deinterleaved
  columns-halves-back lo n b =
      let q = place H lo n in
      let qb = place-in H lo n b in
      elim (dec_lt 1 H.length) [
        | yes g ↦
            simp (lt-ltb 1 H.length g)
            (high-low (unpredicted wrap32) w H lows c cw q qb (low-coordinate H n)
            ∙ low-back g q qb (low-coordinate H n)
            ∙ sym (ap (λ (y : ℕ → ℤ). even_at wrap32 H.length y q) (fun_ext (joined-deinterleaved H (column X)))))
        | no g ↦ simp (le-ltb 1 H.length (omega arith), single-not H (omega arith))
      ]
  columns-halves-back hi n b =
      let q = place H hi n in
      let qb = place-in H hi n b in
      elim (dec_lt 1 H.length) [
        | yes g ↦
            simp (lt-ltb 1 H.length g)
            (high-in (unpredicted wrap32) w H lows c cw q qb (high-coordinate H n)
            ∙ high-back g q qb (high-coordinate H n)
            ∙ sym (ap (λ (y : ℕ → ℤ). odd_at wrap32 H.length y q) (fun_ext (joined-deinterleaved H (column X)))))
        | no g ↦ simp (le-ltb 1 H.length (omega arith), single-is H (omega arith) (omega arith)) (halved q qb)
      ]

  pub columns-back : (r : ℕ) → r < H.length → columns_unlifted_in_place w H X r c ≡ line_back wrap32 H (deinterleaved H (column X)) r
  unfolding line_back
  columns-back =
      let p = line_halves_back wrap32 H (deinterleaved H (column X)) in
      by_place H (λ r. r < H.length → columns_unlifted_in_place w H X r c ≡ joined H p r)
      (λ d n b. columns-halves-back d n (in_place H d n b) ∙ sym (joined-place H p d n))

-- ---- rows: each is a line in halves
module _ (F : Filter) (laws : FilterLaws F) (W : Side) (h : ℕ) (X : Grid) (r : ℕ) (rh : r < h) where
  pub rows-forward : (C : ℕ) → C < W.length →
      rows_mapped (lifted_by F W) W.length h X r C ≡ F.forward wrap32 W (level_grid W X r) (half_at W C) (place_in W C)
  unfolding lifted_by
  rows-forward C cw =
      let row = cut W.length (X r) in
      mapped_in (lifted_by F W) W.length h X r C rh cw
      ∙ halves-half W (F.forward wrap32 W (joined W (halves_of W row))) row C cw
      ∙ laws.forward-reads wrap32 W _ _ (half_at W C) (place_in W C) (half_in W C cw)
      (λ i b _. joined_at W row i ∙ cut_in W.length (X r) (placed W i) (placed-in W i b) ∙ sym (grid-at W X r i))

module _ (F : Filter) (W : Side) (h : ℕ) (X : Grid) (r : ℕ) (rh : r < h) where
  pub rows_back : (c : ℕ) → c < W.length →
      rows_mapped (unlifted_by F W) W.length h X r (placed W c) ≡ line_back_by F wrap32 W (halves_of W (cut W.length (X r))) c
  unfolding unlifted_by
  rows_back c cw =
      let row = cut W.length (X r) in
      mapped_in (unlifted_by F W) W.length h X r (placed W c) rh (placed-in W c cw)
      ∙ halves-at W (F.halves_back wrap32 W (halves_of W row)) row c cw

-- ---- one level forward, where it stands
module _ (F : Filter) (laws : FilterLaws F) (W H : Side) (X : Grid) where
  columns-forward : (R c : ℕ) → R < H.length → c < W.length →
      columns_lifted_by F W.length H X R c ≡ F.forward wrap32 H (joined H (halves_of H (λ i. X i c))) (half_at H R) (place_in H R)
  unfolding columns_lifted_by lifted_by
  columns-forward R c rh cw =
      simp (within_in W.length H.length R c rh cw) (halves-half H (F.forward wrap32 H (joined H (halves_of H (λ i. X i c)))) (λ i. X i c) R rh)

  pub level-forward : (R C : ℕ) → R < H.length → C < W.length →
      level_lifted_by F W H X R C ≡ subband F wrap32 W H (corner_grid W H X) (band_of (half_at W C) (half_at H R)) (place_in H R) (place_in W C)
  unfolding level_lifted_by subband columns_lifted corner_grid
  level-forward R C rh cw =
      let Z = columns_lifted_by F W.length H X in
      let d = half_at H R in
      let i = place_in H R in
      rows-forward F laws W H.length Z R rh C cw
      ∙ laws.forward-reads wrap32 W _ _ (half_at W C) (place_in W C) (half_in W C cw)
      (λ c b _.
      grid-at W Z R c
      ∙ columns-forward R (placed W c) rh (placed-in W c b)
      ∙ ap (λ (y : ℕ → ℤ). F.forward wrap32 H (joined H (halves_of H y)) d i) (fun_ext λ j. sym (grid-at W X j c)))
      ∙ ap₂ (λ (e u : Half). F.forward wrap32 W (λ c. F.forward wrap32 H (λ j. corner_grid W H X j c) u i) e (place_in W C))
      (sym (across-of (half_at W C) d)) (sym (down-of (half_at W C) d))

-- ---- one level back, where the area has the bands p: the low ones in its rows at even coordinates, the high ones in the others
pub record BandsIn (W H : Side) (p : Band → Grid) (X : Grid) : Type 0 where
  pub bands : (d a : Half) (i n : ℕ) → i < count d H → n < count a W → halves_of W (X (place H d i)) a n ≡ p (band_of a d) i n

module _ (F : Filter) (laws : FilterLaws F) (W H : Side) (p : Band → Grid) (X : Grid) (b : BandsIn W H p X) where
  -- a row of the area, lifted back
  pub row_back : (d : Half) (i c : ℕ) → i < count d H → c < W.length →
      rows_mapped (unlifted_by F W) W.length H.length X (place H d i) (placed W c) ≡ rows_unlifted F wrap32 W p d i c
  unfolding rows_unlifted
  row_back d i c ib cw =
      let r = place H d i in
      rows_back F W H.length X r (place-in H d i ib) c cw ∙
      laws.back-reads wrap32 W _ _ (λ a n nb. halves-cut W (X r) a n nb ∙ b.bands d a i n ib nb) c cw

  pub level-back : (r c : ℕ) → r < H.length → c < W.length → level_grid W (level_unlifted_by F W H X) r c ≡ level_back F wrap32 W H p r c
  unfolding level_unlifted_by columns_unlifted_by level_back deinterleaved
  level-back r c rh cw =
      let Z = rows_mapped (unlifted_by F W) W.length H.length X in
      grid-at W (columns_unlifted_by F W.length H Z) r c
      ∙ simp (within_in W.length H.length r (placed W c) rh (placed-in W c cw))
      (laws.back-reads wrap32 H _ _ (λ d i ib. row_back d i c ib cw) r rh)

-- the 5/3's passes in place are its columns and its rows
pub five-three-columns : (w : ℕ) (H : Side) (X : Grid) (r c : ℕ) → columns_unlifted_in_place w H X r c ≡ columns_unlifted_by five_three_filter w H X r c
unfolding columns_unlifted_by line_back
five-three-columns w H X r c =
    by-within w H.length r c
    (λ rh cw. columns-back w H X c cw r rh ∙ sym (simp (within_in w H.length r c rh cw)))
    (λ e. columns-out w H X r c e ∙ sym (simp e))

pub five-three-back : (W H : Side) (X : Grid) → level_unlifted W H X ≡ level_unlifted_by five_three_filter W H X
unfolding level_unlifted level_unlifted_by unlifted_in_place unlifted_by
five-three-back W H X = fun_ext λ r. fun_ext λ c. five-three-columns W.length H (rows_mapped (unlifted_in_place W) W.length H.length X) r c
