-- A level's four bands, all levels and the plane's band rows are T.800's, for every filter that is (Joins). Assumes nothing.
use mathlib.Core.Path.{◌≡◌, refl, sym, ap, ap₂, ◌∙◌, fun_ext}
use Prim.Native.Nat.{ℕ, zero, suc, ◌+◌, ◌-◌, ◌*◌, ◌≤◌, ◌<◌}
use native.Mathlib.Omega.{arith}
use lib.IntN.{ℤ, pos, ◌*ℤ◌}
use lib.Dec.{eqb}
use Rattle.numbers.specs.Signal.{pick}
use Rattle.numbers.specs.Word.{whole}
use Rattle.lifting.specs.Line.{Half, lo, hi}
use Rattle.lifting.specs.Grid.{Side, place, count}
use Rattle.lifting.specs.Filter.{Filter}
use Rattle.lifting.proofs.GridLaws.{place-in}
use Rattle.wavelet.specs.Bands.{Grid, Band, LL, HL, LH, HH, across, down, columns_lifted, subband}
use Rattle.wavelet.specs.Levels.{next, side_at, approximation, level_band}
use Rattle.wavelet.specs.Plane.{plane_of}
use Rattle.wavelet.specs.View.{band_rows, band_columns, band_start}
use Rattle.wavelet.proofs.SideLaws.{next_start, next-end}
use Rattle.wavelet.proofs.PlaneLayout.{plane-places}
use Rattle.standard.specs.Line.{Interval, interval, LiftingSteps, over, period, folded, extended, mirrored, high_at, low_at, at_parity, transformed}
use Rattle.standard.specs.Line.{half_of, coordinate}
use Rattle.standard.specs.Line.{line_value}
use Rattle.standard.specs.Transform.{Array, columns, rows, one_level, band_at, level_of, low_low, band_of, size, row_start, placed, counted}
use Rattle.standard.specs.Joins.{Joins}
use Rattle.standard.proofs.LineLaws.{coordinate-is}

module _ (F : Filter) (T : LiftingSteps) (join : Joins F T) where
  column-is : (H : Side) (g : Grid) (h : Half) (r : ℕ) → r < count h H → (c : ℕ)
      → columns_lifted F whole H g h r c ≡ transformed T (over H) (λ v. g (v - H.start) c) (coordinate h ((half_of h (over H)).i0 + r))
  unfolding columns_lifted line_value
  column-is H g h r b c = join.line H (λ i. g i c) h r b

  -- one level
  pub level-is : (W H : Side) (g : Grid) (b : Band) (r c : ℕ) → r < count (down b) H → c < count (across b) W
      → subband F whole W H g b r c ≡ counted (over W) (over H) b (band_at b (one_level T (over W) (over H) (placed W H g))) r c
  unfolding subband band_at one_level rows columns line_value
  level-is W H g b r c p q =
      join.line W (columns_lifted F whole H g (down b) r) (across b) c q
      ∙ ap (λ (x : ℕ → ℤ). transformed T (over W) x (coordinate (across b) ((half_of (across b) (over W)).i0 + c)))
      (fun_ext λ u. column-is H g (down b) r p (u - W.start))

-- ---- what is read of a line and of a level is there
module _ (T : LiftingSteps) (I : Interval) (x y : ℕ → ℤ) (same : (i : ℕ) → I.i0 ≤ i → i < I.i1 → x i ≡ y i) (i : ℕ) (p : I.i0 ≤ i) (q : i < I.i1) where
  extended-reads : extended I x ≡ extended I y
  unfolding extended mirrored folded period
  extended-reads = fun_ext λ j. same _ (omega arith) (omega arith)

  pub transformed-reads : transformed T I x i ≡ transformed T I y i
  unfolding transformed
  transformed-reads =
      ap₂ (λ (z : ℤ) (f : ℤ → ℤ). pick (eqb (I.i1 - I.i0) 1) (at_parity i z (pos 2 *ℤ z)) (at_parity i (low_at T f (pos i)) (high_at T f (pos i))))
      (same i p q) extended-reads

-- a and a' agree on the columns W and the rows H
abbrev Agree : Interval → Interval → Array → Array → Type 0
Agree W H a a' = (u v : ℕ) → W.i0 ≤ u → u < W.i1 → H.i0 ≤ v → v < H.i1 → a u v ≡ a' u v

pub level-reads : (T : LiftingSteps) (W H : Interval) (a a' : Array) → Agree W H a a' → Agree W H (one_level T W H a) (one_level T W H a')
unfolding one_level rows columns
level-reads T W H a a' same u v p q r s =
    transformed-reads T W (λ c. transformed T H (a c) v) (λ c. transformed T H (a' c) v)
    (λ c k l. transformed-reads T H (a c) (a' c) (λ i m n. same c i k l m n) v r s) u p q

-- ---- coordinates
in-half : (S : Side) (h : Half) (n : ℕ) → n < count h S
    → (S.start ≤ coordinate h ((half_of h (over S)).i0 + n)) × (coordinate h ((half_of h (over S)).i0 + n) < S.start + S.length)
in-half S h n b = let e = coordinate-is S h n in let l = place-in S h n b in (omega arith, omega arith)

pub size_is : (h : Half) (S : Side) → size (half_of h (over S)) ≡ count h S
unfolding size half_of count
size_is lo S = omega arith
size_is hi S = omega arith

pub next-over : (S : Side) → over (next S) ≡ half_of lo (over S)
unfolding half_of
next-over S = ap₂ interval (next_start S) (next-end S)

pub level-over : (k : ℕ) (S : Side) → over (side_at k S) ≡ level_of k (over S)
unfolding side_at level_of
level-over zero S = refl
level-over (suc k) S = next-over (side_at k S) ∙ ap (half_of lo) (level-over k S)

pub length-is : (k : ℕ) (S : Side) → size (level_of k (over S)) ≡ (side_at k S).length
unfolding size
length-is k S = ap (λ (I : Interval). I.i1 - I.i0) (sym (level-over k S)) ∙ omega arith

count-is : (h : Half) (k : ℕ) (S : Side) → size (half_of h (level_of k (over S))) ≡ count h (side_at k S)
count-is h k S = ap (λ (I : Interval). size (half_of h I)) (sym (level-over k S)) ∙ size_is h (side_at k S)

module _ (F : Filter) (T : LiftingSteps) (join : Joins F T) where
  -- on a low-low part that is T.800's
  level-on : (W H : Side) (g : Grid) (a : Array) → ((r c : ℕ) → r < H.length → c < W.length → g r c ≡ a (W.start + c) (H.start + r))
      → (b : Band) (r c : ℕ) → r < count (down b) H → c < count (across b) W
      → subband F whole W H g b r c ≡ counted (over W) (over H) b (band_at b (one_level T (over W) (over H) a)) r c
  level-on W H g a same b r c p q = level-is F T join W H g b r c p q ∙ on
    where
      there : Agree (over W) (over H) (placed W H g) a
      there u v k l m n =
          let i : W.start + (u - W.start) ≡ u = omega arith in
          let j : H.start + (v - H.start) ≡ v = omega arith in
          same (v - H.start) (u - W.start) (omega arith) (omega arith) ∙ ap₂ a i j

      on : counted (over W) (over H) b (band_at b (one_level T (over W) (over H) (placed W H g))) r c
          ≡ counted (over W) (over H) b (band_at b (one_level T (over W) (over H) a)) r c
      on =
          let x = in-half W (across b) c q in
          let y = in-half H (down b) r p in
          unfold band_at in level-reads T (over W) (over H) (placed W H g) a there _ _ x.0 x.1 y.0 y.1

  -- ---- all levels of a map
  module _ (W H : Side) (g : Grid) where
    abbrev map : Array
    map = placed W H g

    band-on : (k : ℕ) → ((r c : ℕ) → r < (side_at k H).length → c < (side_at k W).length
        → approximation F whole W H g k r c ≡ low_low T (over W) (over H) map k ((side_at k W).start + c) ((side_at k H).start + r))
        → (b : Band) (r c : ℕ) → r < count (down b) (side_at k H) → c < count (across b) (side_at k W)
        → subband F whole (side_at k W) (side_at k H) (approximation F whole W H g k) b r c
        ≡ counted (level_of k (over W)) (level_of k (over H)) b
        (band_at b (one_level T (level_of k (over W)) (level_of k (over H)) (low_low T (over W) (over H) map k))) r c
    band-on k same b r c p q =
        level-on (side_at k W) (side_at k H) (approximation F whole W H g k) (low_low T (over W) (over H) map k) same b r c p q
        ∙ ap₂ (λ (I J : Interval). counted I J b (band_at b (one_level T I J (low_low T (over W) (over H) map k))) r c) (level-over k W) (level-over k H)

    low-is : (k r c : ℕ) → r < (side_at k H).length → c < (side_at k W).length
        → approximation F whole W H g k r c ≡ low_low T (over W) (over H) map k ((side_at k W).start + c) ((side_at k H).start + r)
    unfolding approximation low_low side_at half_of next across down
    low-is zero r c p q = ap₂ g (omega arith) (omega arith)
    low-is (suc k) r c p q =
        band-on k (low-is k) LL r c p q
        ∙ ap₂ (λ (I J : Interval). band_at LL (one_level T (level_of k (over W)) (level_of k (over H)) (low_low T (over W) (over H) map k))
        ((half_of lo I).i0 + c) ((half_of lo J).i0 + r)) (sym (level-over k W)) (sym (level-over k H))

    pub bands-are : (k : ℕ) (b : Band) (r c : ℕ) → r < count (down b) (side_at k H) → c < count (across b) (side_at k W)
        → level_band F whole W H g (suc k) b r c ≡ counted (level_of k (over W)) (level_of k (over H)) b (band_of T (over W) (over H) map k b) r c
    unfolding level_band band_of
    bands-are k b r c p q = band-on k (low-is k) b r c p q

    -- ---- the plane's band rows
    start_is : (k : ℕ) (b : Band) (r : ℕ) → row_start (over W) (over H) k b r ≡ band_start W H k b r
    unfolding row_start band_start level_of side_at
    start_is k LL r = ap (λ (n : ℕ). r * n) (length-is 0 W)
    start_is k HL r = ap₂ (λ (n m : ℕ). r * n + m) (length-is 0 W) (length-is k W)
    start_is k LH r = ap₂ (λ (n m : ℕ). (m + r) * n) (length-is 0 W) (length-is k H)
    start_is k HH r = λ i. (length-is k H i + r) * length-is 0 W i + length-is k W i

    pub plane-is : (L k : ℕ) (b : Band) (r c : ℕ) → suc k ≤ L → (b ≡ LL → suc k ≡ L)
        → r < size (half_of (down b) (level_of k (over H))) → c < size (half_of (across b) (level_of k (over W)))
        → plane_of F whole L W H g (row_start (over W) (over H) (suc k) b r + c)
        ≡ counted (level_of k (over W)) (level_of k (over H)) b (band_of T (over W) (over H) map k b) r c
    unfolding band_rows band_columns
    plane-is L k b r c m l p q =
        let rows-in : r < count (down b) (side_at k H) = rw (← count-is (down b) k H) p in
        let e : suc k - 1 ≡ k = omega arith in
        let columns-in : c < count (across b) (side_at k W) = rw (← count-is (across b) k W) q in
        ap (λ (n : ℕ). plane_of F whole L W H g (n + c)) (start_is (suc k) b r)
        ∙ plane-places F whole L W H g (suc k) b r c
        (record { deep = omega arith; most = m; last = l; row = rw e rows-in; column = rw e columns-in })
        ∙ bands-are k b r c rows-in columns-in
