-- The laws of the tests: of every number of a row, of every cell, and of ranges. Assumes nothing.
use mathlib.Core.Path.{◌≡◌, refl, sym, ap, ◌∙◌}
use mathlib.Core.Bool.{Bool, true, false}
use Prim.Native.Nat.{ℕ, zero, suc, ◌+◌, ◌-◌, ◌*◌, ◌≤◌, ◌<◌}
use native.Mathlib.Decide.{dec_lt}
use native.Mathlib.Nat.{mul_comm}
use native.Mathlib.Omega.{arith}
use lib.IntN.{ℤ, pos, neg_ℤ, nat_abs}
use lib.Signed.{le_z}
use lib.Dec.{leb, ltb}
use borrow.Author.Tests.{lt-ltb, le-leb, leb-true, ltb-true}
use Rattle.numbers.specs.Signal.{pick}
use Rattle.numbers.specs.Word.{wrap32}
use Rattle.numbers.proofs.Integers.{each, lin}
use Rattle.numbers.proofs.Sweep.{both}
use Rattle.lifting.specs.Line.{lo, hi}
use Rattle.lifting.specs.Grid.{Side, place, count, single_high, is_even, has_line}
use Rattle.map_levels.specs.ByFilter.{unlifted_by}
use Rattle.lifting.proofs.GridLaws.{counts, place-in}
use Rattle.lifting.proofs.SingleLaws.{single-high, has-single, has_other}
use Rattle.lifting.specs.Filter.{Filter}
use Rattle.lifting.proofs.FilterLaws.{FilterLaws}
use Rattle.wavelet.specs.Limits.{max_sample, range}
use Rattle.wavelet.specs.Bands.{Grid, Band, band_of, rows_have, columns_have, level_has}
use Rattle.wavelet.specs.Plane.{cells, in_corner, level_at, plane_bands, map_back}
use Rattle.wavelet.specs.Maps.{every, every_cell, value_fits, rebuilt_fits}
use Rattle.wavelet.proofs.Bridge.{range-le}
use Rattle.wavelet.proofs.GridLaws.{place-below}
use Rattle.wavelet.proofs.MapTheorems.{every-each, each-every, every-same, cells-each, each-cells}
use Rattle.wavelet.specs.Levels.{next}
use Rattle.wavelet.proofs.SideLaws.{count_none}
use Rattle.map_levels.specs.Rowwise.{cut, between}
use Rattle.map_levels.specs.Passes.{within, rows_mapped}
use Rattle.map_levels.specs.LevelPasses.{Rebuilt, has_next, rows_even, columns_even, rows_between, region_in_range}
use Rattle.map_levels.proofs.RowwiseLaws.{cut_in}
use Rattle.map_levels.proofs.CellLaws.{placed, placed-in, placed-low, placed-high, grid-at, by-within}
use Rattle.map_levels.proofs.LevelMath.{BandsIn, row_back}

pub false-true : false ≡ true → ⊥
false-true e = let z : ◌≡◌ {A = ℕ} 0 1 = cc in omega arith

pub bool_same : (a b : Bool) → (a ≡ true → b ≡ true) → (b ≡ true → a ≡ true) → a ≡ b
bool_same true b f g = sym (f refl)
bool_same false true f g = g refl
bool_same false false f g = refl

pub both_is : (a b : Bool) → a ≡ true → b ≡ true → pick a b false ≡ true
both_is a b e f = rw (e, f)

pub both-both : (a b c : Bool) → pick a (pick b c false) false ≡ pick (pick a b false) c false
both-both true b c = refl
both-both false b c = refl

-- one no is enough
pub not-every : (n : ℕ) (p : ℕ → Bool) (i : ℕ) → i < n → p i ≡ false → every n p ≡ false
not-every n p i h e = bool_same (every n p) false (λ a. sym e ∙ every-each n p a i h) (λ a. absurd (false-true a))

-- in whatever order they stand: every number of a row, and every number of the row in halves
pub every-placed : (S : Side) (p : ℕ → Bool) → every S.length (λ c. p (placed S c)) ≡ every S.length p
every-placed S p =
    let l = counts S in
    let w = S.length in
    bool_same _ _
    (λ e. each-every w p (λ j h.
    elim (dec_lt j (count lo S)) [
      | yes a ↦ sym (ap p (placed-low S j)) ∙ every-each w _ e (place S lo j) (place-in S lo j a)
      | no a ↦
          let k : count lo S + (j - count lo S) ≡ j = omega arith in
          sym (ap p (placed-high S (j - count lo S) ∙ k)) ∙ every-each w _ e (place S hi (j - count lo S)) (place-in S hi (j - count lo S) (omega arith))
    ]))
    (λ e. each-every w _ (λ c h. every-each w p e (placed S c) (placed-in S c h)))

-- ---- whether more levels follow
module _ (L w h : ℕ) where
  pub goes-no : has_next L w h ≡ false → 0 < w → 0 < h → L < 2
  unfolding has_next
  goes-no e a b = elim (dec_lt 1 L) [
    | yes l ↦ absurd (false-true (sym e ∙ simp (lt-ltb 1 L l, lt-ltb 0 w a, lt-ltb 0 h b)))
    | no l ↦ omega arith
  ]

  pub goes-yes : has_next L w h ≡ true → (2 ≤ L) × (0 < w) × (0 < h)
  unfolding has_next
  goes-yes e =
      let one = both (ltb 1 L) _ e in
      let two = both (ltb 0 w) (ltb 0 h) one.1 in
      (ltb-true 1 L one.0, ltb-true 0 w two.0, ltb-true 0 h two.1)

-- the test, where the sizes are those of the low-low part
pub goes-as : (L w h w' h' : ℕ) (r b : Bool) → w ≡ w' → h ≡ h' → r ≡ has_next L w h → r ≡ b → has_next L w' h' ≡ b
goes-as L w h w' h' r b ew eh e f = let g : r ≡ has_next L w' h' = rw (ew, eh) at e in sym g ∙ f

-- ---- ranges
abs-between : (N : ℕ) (m v : ℤ) → m ≡ pos N → le_z (neg_ℤ m) v ≡ true → le_z v m ≡ true → nat_abs v ≤ N
abs-between N = each _ λ p q. each _ λ r s. simp lin (omega (arith, leb-true))

between-low : (N : ℕ) (m v : ℤ) → m ≡ pos N → nat_abs v ≤ N → le_z (neg_ℤ m) v ≡ true
between-low N = each _ λ p q. each _ λ r s. simp lin (λ e a. le-leb (q + s) (r + p) (omega arith))

between-high : (N : ℕ) (m v : ℤ) → m ≡ pos N → nat_abs v ≤ N → le_z v m ≡ true
between-high N = each _ λ p q. each _ λ r s. simp lin (λ e a. le-leb (r + q) (p + s) (omega arith))

pub between_is : (N : ℕ) (v : ℤ) → between (neg_ℤ (pos N)) (pos N) v ≡ leb (nat_abs v) N
unfolding between
between_is N v =
    bool_same _ _
    (λ e. let b = both (le_z (neg_ℤ (pos N)) v) _ e in le-leb _ _ (abs-between N (pos N) v refl b.0 b.1))
    (λ e. let a = leb-true _ _ e in both_is _ _ (between-low N (pos N) v refl a) (between-high N (pos N) v refl a))

-- ---- rows tested one by one: row i, lent as a part of n numbers y, and at the end all of them
pub row-between : (low high : ℤ) (w i n : ℕ) (X : Grid) (y : ℕ → ℤ) → n ≡ w → y ≡ cut w (X i) →
    every n (λ j. between low high (y j)) ≡ every w (λ c. between low high (X i c))
row-between low high w i n X y en ey =
    ap (λ (m : ℕ). every m (λ j. between low high (y j))) en
    ∙ every-same w _ _ (λ j q. ap (between low high) (ap (λ (f : ℕ → ℤ). f j) ey ∙ cut_in w (X i) j q))

pub all-rows : (low high : ℤ) (w h : ℕ) (X : Grid) → every h (λ r. every w (λ c. between low high (X r c))) ≡ rows_between 0 h 0 w low high X
unfolding rows_between every_cell
all-rows low high w h X =
    let kw : w - 0 ≡ w = omega arith in
    let kh : h - 0 ≡ h = omega arith in
    rw (kw, kh)
    (every-same h _ _ (λ r rh. every-same w _ _ (λ c cw. let a : 0 + r ≡ r = omega arith in let b : 0 + c ≡ c = omega arith in rw (a, b))))

module _ (F : Filter) (laws : FilterLaws F) where
  -- ---- question 14
  pub height-fits : (v : ℤ) → between (pos 0) (pos max_sample) v ≡ value_fits F 0 v
  unfolding value_fits between
  height-fits v = refl

  level-fits : (k : ℕ) (v : ℤ) → between (neg_ℤ (pos (range F (suc k)))) (pos (range F (suc k))) v
      ≡ value_fits F (suc k) v
  unfolding value_fits
  level-fits k v = between_is (range F (suc k)) v

  pub between-fits : (k : ℕ) (v : ℤ)
      → between (neg_ℤ (pos (range F (k + 1)))) (pos (range F (k + 1))) v ≡ value_fits F (k + 1) v
  between-fits k v = let e : k + 1 ≡ suc k = omega arith in rw e (level-fits k v)

  -- the numbers of a rebuilt level, in halves, are the grid's
  module _ (k L : ℕ) (W H : Side) (x X : Grid) (R : Rebuilt F L W H x X) where
    pub rebuilt-cells : every_cell W.length H.length (λ r c. value_fits F k (X r c)) ≡
        every_cell W.length H.length (λ r c. value_fits F k (map_back F wrap32 L W H x r c))
    unfolding every_cell
    rebuilt-cells =
        every-same H.length _ _ (λ r rh.
        sym (every-placed W (λ c. value_fits F k (X r c)))
        ∙ every-same W.length _ _ (λ c cw. ap (value_fits F k) (sym (grid-at W X r c) ∙ R.cell r c rh cw)))

  pub rebuilt-test : (k L : ℕ) (W H : Side) (x X : Grid) → Rebuilt F L W H x X →
      rows_between 0 H.length 0 W.length (neg_ℤ (pos (range F (k + 1)))) (pos (range F (k + 1))) X ≡
      every_cell W.length H.length (λ r c. value_fits F (k + 1) (map_back F wrap32 L W H x r c))
  unfolding rows_between every_cell
  rebuilt-test k L W H x X R =
      let kw : W.length - 0 ≡ W.length = omega arith in
      let kh : H.length - 0 ≡ H.length = omega arith in
      rw (kw, kh)
      (every-same H.length _ _ (λ r rh.
      every-same W.length _ _ (λ c cw. let a : 0 + r ≡ r = omega arith in let b : 0 + c ≡ c = omega arith in rw (a, b) (between-fits k (X r c))))
      ∙ rebuilt-cells (k + 1) L W H x X R)

  -- 14 at every level: first of the low-low part, then of what this level halves, then of its own numbers
  pub fits_more : (k L : ℕ) (W H : Side) (x : Grid) → 0 < L →
      rebuilt_fits F k L W H x ≡ pick (rebuilt_fits F (k + 1) (L - 1) (next W) (next H) x)
      (pick (level_has F W H (plane_bands W H (map_back F wrap32 (L - 1) (next W) (next H) x) x))
      (every_cell W.length H.length (λ r c. value_fits F k (map_back F wrap32 L W H x r c))) false) false
  unfolding rebuilt_fits
  fits_more k zero W H x b = absurd (omega arith)
  fits_more k (suc L) W H x b = let a : suc L - 1 ≡ L = omega arith in let e : k + 1 ≡ suc k = omega arith in rw (a, e)

  -- a single high sample is alone
  pub single-wide : (S : Side) → (S.length ≡ 1 → ⊥) → single_high S ≡ false
  single-wide S n = elim (single_high S) as (λ t. single_high S ≡ t → single_high S ≡ false) [
    | true ↦ λ e. let t = single-high S e in absurd (n t.0)
    | false ↦ λ e. e
  ] refl

  none-single : (S : Side) → S.length ≡ 0 → single_high S ≡ false
  none-single S z = single-wide S (λ e. omega arith)

  -- an empty grid fits
  module _ (W H : Side) (p : Band → Grid) where
    rows-hold-single : single_high W ≡ false → rows_have W H p ≡ true
    unfolding rows_have
    rows-hold-single e = both_is _ _ (each-every (count lo H) _ (λ r b. has_other W _ e)) (each-every (count hi H) _ (λ r b. has_other W _ e))

    pub columns-hold-single : single_high H ≡ false → columns_have F W H p ≡ true
    unfolding columns_have
    columns-hold-single e = each-every W.length _ (λ c b. has_other H _ e)

    no-columns-have : W.length ≡ 0 → level_has F W H p ≡ true
    unfolding level_has columns_have
    no-columns-have z = both_is _ _ (rows-hold-single (none-single W z)) (each-every W.length _ (λ c b. absurd (omega arith)))

    no-rows-have : H.length ≡ 0 → level_has F W H p ≡ true
    unfolding level_has rows_have
    no-rows-have z =
        let l = count_none H z lo in
        let m = count_none H z hi in
        both_is _ _ (both_is _ _ (each-every (count lo H) _ (λ r b. absurd (omega arith))) (each-every (count hi H) _ (λ r b. absurd (omega arith))))
        (columns-hold-single (none-single H z))

  no-columns-fit : (k L : ℕ) (W H : Side) (x : Grid) → W.length ≡ 0 → rebuilt_fits F k L W H x ≡ true
  unfolding rebuilt_fits next
  no-columns-fit k zero W H x z = refl
  no-columns-fit k (suc L) W H x z =
      both_is _ _ (no-columns-fit (suc k) L (next W) (next H) x (count_none W z lo))
      (both_is _ _ (no-columns-have W H _ z) (each-cells W.length H.length _ (λ r c rh cw. absurd (omega arith))))

  no-rows-fit : (k L : ℕ) (W H : Side) (x : Grid) → H.length ≡ 0 → rebuilt_fits F k L W H x ≡ true
  unfolding rebuilt_fits next
  no-rows-fit k zero W H x z = refl
  no-rows-fit k (suc L) W H x z =
      both_is _ _ (no-rows-fit (suc k) L (next W) (next H) x (count_none H z lo))
      (both_is _ _ (no-rows-have W H _ z) (each-cells W.length H.length _ (λ r c rh cw. absurd (omega arith))))

  -- nothing is asked of a low-low part where no more levels follow
  pub fits-none : (k L : ℕ) (W H : Side) (x : Grid) → 0 < L → has_next L (count lo W) (count lo H) ≡ false
      → rebuilt_fits F k (L - 1) (next W) (next H) x ≡ true
  unfolding next rebuilt_fits
  fits-none k L W H x some e =
      elim (dec_lt 0 (count lo W)) [
        | no a ↦ no-columns-fit k (L - 1) (next W) (next H) x (omega arith)
        | yes a ↦
            elim (dec_lt 0 (count lo H)) [
              | no b ↦ no-rows-fit k (L - 1) (next W) (next H) x (omega arith)
              | yes b ↦ let f = goes-no L (count lo W) (count lo H) e a b in let z : L - 1 ≡ 0 = omega arith in rw z refl
            ]
      ]

  -- ---- the values that are halved
  -- the bands of a single high column, as they stand in the plane
  pub rows-even : (W H : Side) (a x : Grid) → rows_have W H (plane_bands W H a x) ≡ rows_even W H.length x
  unfolding rows_have rows_even plane_bands band_of
  rows-even W H a x =
      elim (single_high W) as (λ t. single_high W ≡ t → rows_have W H (plane_bands W H a x) ≡ rows_even W H.length x) [
        | false ↦ λ l. rows-hold-single W H (plane_bands W H a x) l ∙ simp l
        | true ↦ λ l.
            let t = single-high W l in
            let s = counts H in
            let here : (r : ℕ) → x r (count lo W + 0) ≡ x r 0 = λ r. ap (x r) (omega arith) in
            let low : (r : ℕ) → has_line W (λ b. plane_bands W H a x (band_of b lo) r) ≡ is_even (x r 0) = λ r. has-single W _ l ∙ ap is_even (here r) in
            let high : (r : ℕ) → has_line W (λ b. plane_bands W H a x (band_of b hi) r) ≡ is_even (x (count lo H + r) 0) = λ r. has-single W _ l ∙
            ap is_even (here (count lo H + r)) in
            bool_same _ _
            (λ e.
            let two = both (every (count lo H) (λ r. has_line W (λ b. plane_bands W H a x (band_of b lo) r))) _ e in
            simp l
            (each-every H.length _ (λ r rh.
            elim (dec_lt r (count lo H)) [
              | yes b ↦ sym (low r) ∙ every-each (count lo H) _ two.0 r b
              | no b ↦
                  let k : count lo H + (r - count lo H) ≡ r = omega arith in
                  ap (λ (i : ℕ). is_even (x i 0)) (sym k) ∙ sym (high (r - count lo H)) ∙ every-each (count hi H) _ two.1 (r - count lo H) (omega arith)
            ])))
            (λ e.
            let f : every H.length (λ r. is_even (x r 0)) ≡ true = simp l at e in
            both_is _ _
            (each-every (count lo H) _ (λ r b. low r ∙ every-each H.length _ f r (omega arith)))
            (each-every (count hi H) _ (λ r b. high r ∙ every-each H.length _ f (count lo H + r) (omega arith))))
      ] refl

  -- a single high row is the first
  first-high : (H : Side) → single_high H ≡ true → place H hi 0 ≡ 0
  unfolding place
  first-high H l =
      let t = single-high H l in
      let b = place-in H hi 0 (omega arith) in
      omega arith

  -- a single high row, lifted back, where the area has the bands p
  pub columns-even : (W H : Side) (p : Band → Grid) (X : Grid) → BandsIn W H p X →
      columns_have F W H p ≡ columns_even W.length H (rows_mapped (unlifted_by F W) W.length H.length X)
  unfolding columns_have columns_even
  columns-even W H p X b =
      let Z = rows_mapped (unlifted_by F W) W.length H.length X in
      elim (single_high H) as (λ t. single_high H ≡ t → columns_have F W H p ≡ columns_even W.length H Z) [
        | false ↦ λ l. columns-hold-single W H p l ∙ simp l
        | true ↦ λ l.
            let t = single-high H l in
            let k : place H hi 0 ≡ 0 = first-high H l in
            simp l
            (every-same W.length _ _ (λ c cw.
            has-single H _ l ∙ ap is_even (sym (row_back F laws W H p X b hi 0 c (omega arith) cw) ∙ ap (λ (r : ℕ). Z r (placed W c)) k))
            ∙ every-placed W (λ c. is_even (Z 0 c)))
      ] refl

  -- ---- question 7
  -- rows of a region within ±N
  module _ (first last from to N : ℕ) (x : Grid) where
    abbrev ranged : Bool
    ranged = rows_between first last from to (neg_ℤ (pos N)) (pos N) x

    pub rows-hold : ranged ≡ true → (r c : ℕ) → first ≤ r → r < last → from ≤ c → c < to → leb (nat_abs (x r c)) N ≡ true
    unfolding rows_between
    rows-hold e r c fr rl fc ct =
        let a : first + (r - first) ≡ r = omega arith in
        let b : from + (c - from) ≡ c = omega arith in
        sym (between_is N (x r c)) ∙ (rw (a, b) at (cells-each (to - from) (last - first) _ e (r - first) (c - from) (omega arith) (omega arith)))

    pub rows_are : ((r c : ℕ) → first ≤ r → r < last → from ≤ c → c < to → leb (nat_abs (x r c)) N ≡ true) → ranged ≡ true
    unfolding rows_between
    rows_are f =
        each-cells (to - from) (last - first) _
        (λ r c rh cw. between_is N (x (first + r) (from + c)) ∙ f (first + r) (from + c) (omega arith) (omega arith) (omega arith) (omega arith))

  module _ (L : ℕ) (W H : Side) (r c : ℕ) where
    level-corner : r < count lo H → c < count lo W → level_at (suc L) W H r c ≡ 1 + level_at L (next W) (next H) r c
    unfolding level_at in_corner
    level-corner rb cb = simp (lt-ltb r (count lo H) rb, lt-ltb c (count lo W) cb)

    level-rest : within (count lo W) (count lo H) r c ≡ false → level_at (suc L) W H r c ≡ 1
    unfolding level_at in_corner within
    level-rest e = simp e

  -- where no more levels follow
  pub level-last : (L : ℕ) (W H : Side) (r c : ℕ) → 0 < L → has_next L (count lo W) (count lo H) ≡ false → level_at L W H r c ≡ 1
  unfolding level_at
  level-last zero W H r c some e = absurd (omega arith)
  level-last (suc L) W H r c some e =
      by-within (count lo W) (count lo H) r c
      (λ rb cb.
      let f = goes-no (suc L) (count lo W) (count lo H) e (omega arith) (omega arith) in
      let z : L ≡ 0 = omega arith in
      level-corner L W H r c rb cb ∙ rw z refl)
      (λ o. level-rest L W H r c o)

  outside : (w h r c : ℕ) → (r < h → c < w → ⊥) → within w h r c ≡ false
  outside w h r c f = by-within w h r c (λ a b. absurd (f a b)) (λ e. e)

  abbrev range_test : Grid → ℕ → ℕ → ℕ → Bool
  range_test x r c k = leb (nat_abs (x r c)) (range F k)

  pub region-last : (k L : ℕ) (W H : Side) (x : Grid) → 0 < k → 0 < L → has_next L (count lo W) (count lo H) ≡ false →
      region_in_range F k L W H x ≡ rows_between 0 H.length 0 W.length (neg_ℤ (pos (range F k))) (pos (range F k)) x
  unfolding region_in_range
  region-last k L W H x b some e =
      let w = W.length in
      let h = H.length in
      let here : (r c : ℕ) → k - 1 + level_at L W H r c ≡ k = λ r c. omega (arith, level-last L W H r c some e) in
      bool_same _ _
      (λ e. rows_are 0 h 0 w (range F k) x (λ r c _ rh _ cw. sym (ap (range_test x r c) (here r c)) ∙ cells-each w h _ e r c rh cw))
      (λ e. each-cells w h _ (λ r c rh cw. ap (range_test x r c) (here r c)
      ∙ rows-hold 0 h 0 w (range F k) x e r c (omega arith) rh (omega arith) cw))

  module _ (k L : ℕ) (W H : Side) (x : Grid) where
    abbrev inner : Bool
    inner = region_in_range F (k + 1) L (next W) (next H) x

    abbrev right : Bool
    right = rows_between 0 (count lo H) (count lo W) W.length (neg_ℤ (pos (range F k))) (pos (range F k)) x

    abbrev below : Bool
    below = rows_between (count lo H) H.length 0 W.length (neg_ℤ (pos (range F k))) (pos (range F k)) x

    region-suc : 0 < k → region_in_range F k (suc L) W H x ≡ pick inner (pick right below false) false
    unfolding region_in_range next
    region-suc b =
        let bw = counts W in
        let bh = counts H in
        let w = W.length in
        let h = H.length in
        let w' = count lo W in
        let h' = count lo H in
        let corner : (r c : ℕ) → r < h' → c < w' → k - 1 + level_at (suc L) W H r c ≡ k + 1 - 1 + level_at L (next W) (next H) r c =
        λ r c rb cb. omega (arith, level-corner L W H r c rb cb) in
        let rest : (r c : ℕ) → within w' h' r c ≡ false → k - 1 + level_at (suc L) W H r c ≡ k =
        λ r c e. omega (arith, level-rest L W H r c e) in
        bool_same _ _
        (λ e.
        let all = cells-each w h _ e in
        both_is inner _
        (each-cells w' h' _ (λ r c rb cb. sym (ap (range_test x r c) (corner r c rb cb)) ∙ all r c (omega arith) (omega arith)))
        (both_is right below
        (rows_are 0 h' w' w (range F k) x (λ r c _ rb wc cw. sym (ap (range_test x r c) (rest r c (outside w' h' r c (λ _ d. omega arith)))) ∙
        all r c (omega arith) cw))
        (rows_are h' h 0 w (range F k) x
        (λ r c hr rh _ cw. sym (ap (range_test x r c) (rest r c (outside w' h' r c (λ d _. omega arith)))) ∙ all r c rh cw))))
        (λ e.
        let one = both inner _ e in
        let two = both right below one.1 in
        each-cells w h _ (λ r c rh cw.
        elim (dec_lt r h') [
          | yes rb ↦
              elim (dec_lt c w') [
                | yes cb ↦ ap (range_test x r c) (corner r c rb cb) ∙ cells-each w' h' _ one.0 r c rb cb
                | no d ↦ ap (range_test x r c) (rest r c (outside w' h' r c (λ _ cb. d cb))) ∙
                    rows-hold 0 h' w' w (range F k) x two.0 r c (omega arith) rb (omega arith) cw
              ]
          | no d ↦ ap (range_test x r c) (rest r c (outside w' h' r c (λ rb _. d rb))) ∙
              rows-hold h' h 0 w (range F k) x two.1 r c (omega arith) rh (omega arith) cw
        ]))

  pub region-more : (k L : ℕ) (W H : Side) (x : Grid) → 0 < k → 1 < L →
      region_in_range F k L W H x ≡ pick (inner k (L - 1) W H x) (pick (right k (L - 1) W H x) (below k (L - 1) W H x) false) false
  region-more k zero W H x b m = absurd (omega arith)
  region-more k (suc L) W H x b m = let a : suc L - 1 ≡ L = omega arith in rw a (region-suc k L W H x b)

  -- the least range is that of level 1: the numbers of a plane that keep it, as one row of them, are in range
  level-some : (L : ℕ) (W H : Side) (r c : ℕ) → 0 < L → 1 ≤ level_at L W H r c
  level-some zero W H r c h = absurd (omega arith)
  level-some (suc L) W H r c h =
      by-within (count lo W) (count lo H) r c (λ rb cb. omega (arith, level-corner L W H r c rb cb)) (λ e. omega (arith, level-rest L W H r c e))

  pub region-least : (L : ℕ) (W H : Side) (x : ℕ → ℤ) → 0 < L → ((i : ℕ) → i < W.length * H.length → nat_abs (x i) ≤ range F 1) →
      region_in_range F 1 L W H (cells W.length x) ≡ true
  unfolding region_in_range cells
  region-least L W H x some small =
      let w = W.length in
      let h = H.length in
      each-cells w h _ (λ r c rh cw.
      let place = place-below w h r c rh cw in
      let swap : h * w ≡ w * h = mul_comm h w in
      let least : range F 1 ≤ range F (1 - 1 + level_at L W H r c) =
      range-le F laws 1 (1 - 1 + level_at L W H r c) (omega (arith, level-some L W H r c some)) in
      le-leb (nat_abs (x (r * w + c))) (range F (1 - 1 + level_at L W H r c)) (omega (arith, small (r * w + c) (omega arith))))
