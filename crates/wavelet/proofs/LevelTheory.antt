-- The theory of levels of maps on the grid, over the definitions of specs/Bands and specs/Plane, for every filter that meets its laws (FilterLaws of
-- `lifting`): the 5/3 and the 9/7 do.
-- A law with any `keep` holds for words and for whole numbers. A law over `K : Keeping keep` asks that the numbers are good, which is "a 32-bit number" for
-- `words` and nothing for `wholes`; its word form stands after it.
--     subband-reads, subband-inner, level-back-reads    what one level reads
--     level-back-forward, level-forward-back            one level is undone, both ways
--     plane-at, level-at, map-back-at                   the plane, its levels and the way back, band by band
--     plane-reads, map-back-reads                       what all levels read
--     map-back-plane, plane-map-back, plane-unique      all levels are undone, both ways
-- A side of one sample at an odd coordinate is doubled. There and back it comes again where its double is good (`Doubles`); back and there where each value
-- that is halved is even (`Has`, which is `level_has` for words).
-- Assumes nothing.
use mathlib.Core.Path.{◌≡◌, refl, sym, ap, ap₂, ◌∙◌, fun_ext}
use mathlib.Core.Bool.{Bool, true}
use mathlib.Core.Logic.{◌↔◌}
use Prim.Native.Nat.{ℕ, zero, suc, ◌+◌, ◌-◌, ◌≤◌, ◌<◌}
use native.Mathlib.Decide.{dec_lt}
use native.Mathlib.Omega.{arith}
use lib.IntN.{ℤ, pos, ◌*ℤ◌}
use mir.Syntax.{w32}
use mir.Val.{SFits}
use borrow.Author.Tests.{lt-ltb, le-ltb}
use Rattle.numbers.specs.Tests.{every}
use Rattle.numbers.specs.Word.{wrap32, whole}
use Rattle.numbers.proofs.Sweep.{both}
use Rattle.numbers.proofs.TestLaws.{every-each, each-every, every-same}
use Rattle.lifting.specs.Line.{Half, lo, hi}
use Rattle.lifting.specs.Grid.{Side, side, place, count, single_high, has_line}
use Rattle.lifting.specs.Filter.{Filter, line_back_by}
use Rattle.lifting.proofs.FilterLaws.{Keeping, words, wholes, FilterLaws}
use Rattle.lifting.proofs.SingleLaws.{has-reads}
use Rattle.wavelet.specs.Bands.{Grid, Band, LL, HL, LH, HH, across, down, band_of, columns_lifted, subband, rows_unlifted, level_back, rows_have, columns_have}
use Rattle.wavelet.specs.Bands.{level_has}
use Rattle.wavelet.proofs.BandPlaces.{band-of}
use Rattle.wavelet.specs.Levels.{next}
use Rattle.wavelet.specs.Plane.{half_at, place_in, in_corner, plane_cell, level_at, plane_bands, map_back}
use Rattle.wavelet.proofs.SideLaws.{count-sum, count-le, next_le}

pub across-of : (a h : Half) → across (band_of a h) ≡ a
unfolding band_of across
across-of lo lo = refl
across-of lo hi = refl
across-of hi lo = refl
across-of hi hi = refl

pub down-of : (a h : Half) → down (band_of a h) ≡ h
unfolding band_of down
down-of lo lo = refl
down-of lo hi = refl
down-of hi lo = refl
down-of hi hi = refl

-- ---- statements of the cells of a grid, and of the bands of a level
-- every cell of the rows H of the columns W
abbrev pub OnCells : (ℤ → Type 0) → Side → Side → Grid → Type 0
OnCells P W H g = (r c : ℕ) → r < H.length → c < W.length → P (g r c)

-- every cell of the four bands of such a grid
abbrev pub OnBands : (ℤ → Type 0) → Side → Side → (Band → Grid) → Type 0
OnBands P W H p = (b : Band) (r c : ℕ) → r < count (down b) H → c < count (across b) W → P (p b r c)

abbrev pub Same : Side → Side → Grid → Grid → Type 0
Same W H g g' = (r c : ℕ) → r < H.length → c < W.length → g r c ≡ g' r c

abbrev pub SameBands : Side → Side → (Band → Grid) → (Band → Grid) → Type 0
SameBands W H p q = (b : Band) (r c : ℕ) → r < count (down b) H → c < count (across b) W → p b r c ≡ q b r c

-- ---- the plane, band by band
-- where number n of half h of a side stands in the plane: the low half at the front, the high half after it
unfoldable pub placed : Half → Side → ℕ → ℕ
placed lo S n = n
placed hi S n = count lo S + n

pub placed-in : (h : Half) (S : Side) (n : ℕ) → n < count h S → placed h S n < S.length
unfolding placed
placed-in lo S n p = omega (arith, count-le lo S)
placed-in hi S n p = omega (arith, count-sum S)

-- every place of a side is the place of a number of a half
pub by-half : (S : Side) (P : ℕ → Type 0) → ((h : Half) (n : ℕ) → n < count h S → P (placed h S n)) → (i : ℕ) → i < S.length → P i
unfolding placed
by-half S P f i p =
    elim (dec_lt i (count lo S)) [
      | yes q ↦ f lo i q
      | no d ↦
          let e : count lo S + (i - count lo S) ≡ i = omega arith in
          rw e at (f hi (i - count lo S) (omega (arith, count-sum S)))
    ]

-- and every cell of the plane the cell of a band
pub by-band : (W H : Side) (P : ℕ → ℕ → Type 0) → ((b : Band) (r c : ℕ) → r < count (down b) H → c < count (across b) W →
    P (placed (down b) H r) (placed (across b) W c)) → (r c : ℕ) → r < H.length → c < W.length → P r c
by-band W H P f r c p q =
    by-half H (λ i. P i c)
    (λ h n u. by-half W (P (placed h H n)) (λ a m v. at a h n m (f (band_of a h) n m (rw (down-of a h) u) (rw (across-of a h) v))) c q) r p
  where
    at : (a h : Half) (n m : ℕ) → P (placed (down (band_of a h)) H n) (placed (across (band_of a h)) W m) → P (placed h H n) (placed a W m)
    at a h n m = simp (down-of a h, across-of a h) (λ t. t)

module _ {A : Type 0} where
  -- the bands p with another low-low band
  unfoldable pub over : (ℕ → ℕ → A) → (Band → ℕ → ℕ → A) → Band → ℕ → ℕ → A
  over g p LL = g
  over g p HL = p HL
  over g p LH = p LH
  over g p HH = p HH

-- band b as it stands in a plane x of the columns W and the rows H
unfoldable pub band_in : Side → Side → Grid → Band → Grid
band_in W H x b r c = x (placed (down b) H r) (placed (across b) W c)

-- the bands of a level in the plane, its low-low part being another grid
pub plane-bands : (W H : Side) (a x : Grid) → plane_bands W H a x ≡ over a (band_in W H x)
unfolding plane_bands over band_in placed across down
plane-bands W H a x = fun_ext λ b. elim b [ LL ↦ refl | HL ↦ refl | LH ↦ refl | HH ↦ refl ]

pub level-at : (L : ℕ) (W H : Side) (b : Band) (r c : ℕ) → r < count (down b) H → c < count (across b) W →
    level_at (suc L) W H (placed (down b) H r) (placed (across b) W c) ≡ over (λ i j. 1 + level_at L (next W) (next H) i j) (λ d i j. 1) b r c
unfolding level_at in_corner over placed across down
level-at L W H LL r c p q = simp (lt-ltb r (count lo H) p, lt-ltb c (count lo W) q)
level-at L W H HL r c p q = simp (lt-ltb r (count lo H) p, le-ltb (count lo W + c) (count lo W) (omega arith))
level-at L W H LH r c p q = simp (le-ltb (count lo H + r) (count lo H) (omega arith))
level-at L W H HH r c p q = simp (le-ltb (count lo H + r) (count lo H) (omega arith))

-- ---- what holds of a plane holds of its corner and of its bands
pub corner : (P : ℤ → Type 0) (W H : Side) (x : Grid) → OnCells P W H x → OnCells P (next W) (next H) x
corner P W H x f r c p q = f r c (omega (arith, next_le H)) (omega (arith, next_le W))

pub in-bands : (P : ℤ → Type 0) (W H : Side) (x : Grid) → OnCells P W H x → OnBands P W H (band_in W H x)
unfolding band_in
in-bands P W H x f b r c p q = f (placed (down b) H r) (placed (across b) W c) (placed-in (down b) H r p) (placed-in (across b) W c q)

pub over-all : (P : ℤ → Type 0) (W H : Side) (g : Grid) (p : Band → Grid) → OnCells P (next W) (next H) g → OnBands P W H p → OnBands P W H (over g p)
unfolding over across down next
over-all P W H g p f f' LL = f
over-all P W H g p f f' HL = f' HL
over-all P W H g p f f' LH = f' LH
over-all P W H g p f f' HH = f' HH

pub same-corner : (W H : Side) (x y : Grid) → Same W H x y → Same (next W) (next H) x y
same-corner W H x y e r c p q = e r c (omega (arith, next_le H)) (omega (arith, next_le W))

pub same-in-bands : (W H : Side) (x y : Grid) → Same W H x y → SameBands W H (band_in W H x) (band_in W H y)
unfolding band_in
same-in-bands W H x y e b r c p q = e (placed (down b) H r) (placed (across b) W c) (placed-in (down b) H r p) (placed-in (across b) W c q)

pub over-same : (W H : Side) (g g' : Grid) (p q : Band → Grid) → Same (next W) (next H) g g' → SameBands W H p q → SameBands W H (over g p) (over g' q)
unfolding over across down next
over-same W H g g' p q e e' LL = e
over-same W H g g' p q e e' HL = e' HL
over-same W H g g' p q e e' LH = e' LH
over-same W H g g' p q e e' HH = e' HH

-- the bands p with their own low-low band, another put aside
over-twice : (g : Grid) (p : Band → Grid) (b : Band) → over (p LL) (over g p) b ≡ p b
unfolding over
over-twice g p LL = refl
over-twice g p HL = refl
over-twice g p LH = refl
over-twice g p HH = refl

over-band : (W H : Side) (x g : Grid) (b : Band) → over x (over g (band_in W H x)) b ≡ band_in W H x b
unfolding band_in placed across down
over-band W H x g = over-twice g (band_in W H x)

-- what holds of the bands holds of the low-low one
pub low-all : (P : ℤ → Type 0) (W H : Side) (p : Band → Grid) → OnBands P W H p → OnCells P (next W) (next H) (p LL)
unfolding across down next
low-all P W H p f = f LL

pub same_low : (W H : Side) (p q : Band → Grid) → SameBands W H p q → Same (next W) (next H) (p LL) (q LL)
unfolding across down next
same_low W H p q e = e LL

-- planes are the same where their bands are
pub same-bands : (W H : Side) (x y : Grid) → SameBands W H (band_in W H x) (band_in W H y) → Same W H x y
unfolding band_in
same-bands W H x y = by-band W H (λ r c. x r c ≡ y r c)

-- ---- 14: each row of the bands is a line's, and then each column
pub record Has (F : Filter) (keep : ℤ → ℤ) (W H : Side) (p : Band → Grid) : Type 0 where
  pub rows : (h : Half) (r : ℕ) → r < count h H → has_line W (λ a. p (band_of a h) r) ≡ true
  pub columns : (c : ℕ) → c < W.length → has_line H (λ h i. rows_unlifted F keep W p h i c) ≡ true

module _ (F : Filter) (W H : Side) (p : Band → Grid) where
  abbrev row_has : Half → ℕ → Bool
  row_has h r = has_line W (λ a. p (band_of a h) r)

  abbrev column-has : ℕ → Bool
  column-has c = has_line H (λ h i. rows_unlifted F wrap32 W p h i c)

  pub level-has : level_has F W H p ≡ true ↔ Has F wrap32 W H p
  unfolding level_has rows_have columns_have
  level-has = (
    λ e.
        let a = both (rows_have W H p) (columns_have F W H p) e in
        let b = both (every (count lo H) (row_has lo)) (every (count hi H) (row_has hi)) a.0 in
        record {
          rows = λ h. elim h as (λ k. (r : ℕ) → r < count k H → has_line W (λ a. p (band_of a k) r) ≡ true) [ lo ↦ every-each (count lo H) (row_has lo) b.0 | hi ↦ every-each (count hi H) (row_has hi) b.1 ];
          columns = every-each W.length column-has a.1;
        },
    λ h.
        simp (
          each-every (count lo H) (row_has lo) (h.rows lo),
          each-every (count hi H) (row_has hi) (h.rows hi),
          each-every W.length column-has h.columns,
        ),
  )

-- ---- what is doubled stays good: the samples of a single row, and what the lifted columns leave of a single column
pub record Doubles (F : Filter) {keep : ℤ → ℤ} (K : Keeping keep) (W H : Side) (g : Grid) : Type 0 where
  pub columns : single_high H ≡ true → (c : ℕ) → c < W.length → K.Good (pos 2 *ℤ g 0 c)
  pub rows : single_high W ≡ true → (h : Half) (r : ℕ) → r < count h H → K.Good (pos 2 *ℤ columns_lifted F keep H g h r 0)

-- ---- the same of all levels
-- at each level what is doubled stays good
pub data AllDouble (F : Filter) {keep : ℤ → ℤ} (K : Keeping keep) : ℕ → Side → Side → Grid → Type 0 where
  none : {W H : Side} {g : Grid} → AllDouble F K zero W H g
  more : {L : ℕ} {W H : Side} {g : Grid} → Doubles F K W H g → AllDouble F K L (next W) (next H) (subband F keep W H g LL) → AllDouble F K (suc L) W H g

-- the bands of level 1 in the plane x, with the low-low part that the levels left give
abbrev pub bands_back : Filter → (ℤ → ℤ) → ℕ → Side → Side → Grid → Band → Grid
bands_back F keep L W H x = over (map_back F keep L (next W) (next H) x) (band_in W H x)

-- at each level each value that is halved is even
pub data AllHave (F : Filter) (keep : ℤ → ℤ) : ℕ → Side → Side → Grid → Type 0 where
  none : {W H : Side} {x : Grid} → AllHave F keep zero W H x
  more : {L : ℕ} {W H : Side} {x : Grid} → AllHave F keep L (next W) (next H) x → Has F keep W H (bands_back F keep L W H x) → AllHave F keep (suc L) W H x

-- ---- what no law of the filter is needed for
module _ (F : Filter) where
  -- row r of half h of a grid's bands is the lifted columns' row, lifted
  row-of-bands : (keep : ℤ → ℤ) (W H : Side) (g : Grid) (h : Half) (r : ℕ) → ◌≡◌ {A = Half → ℕ → ℤ} (λ a. subband F keep W H g (band_of a h) r)
      (F.forward keep W (columns_lifted F keep H g h r))
  unfolding subband
  row-of-bands keep W H g h r =
      fun_ext λ a. ap₂ (λ (d e : Half). F.forward keep W (columns_lifted F keep H g d r) e) (down-of a h) (across-of a h)

  -- in whole numbers a double is a number
  pub whole-doubles : (W H : Side) (g : Grid) → Doubles F wholes W H g
  whole-doubles W H g = record { columns = λ _ _ _. tt; rows = λ _ _ _ _. tt }

  pub whole-all-double : (L : ℕ) (W H : Side) (g : Grid) → AllDouble F wholes L W H g
  whole-all-double zero W H g = none
  whole-all-double (suc L) W H g = more (whole-doubles W H g) (whole-all-double L (next W) (next H) _)

  module _ (keep : ℤ → ℤ) (L : ℕ) (W H : Side) where
    -- level 1 of the plane: its three bands, and in the low-low corner the plane of the low-low part
    pub plane-at : (g : Grid) → SameBands W H (band_in W H (plane_cell F keep (suc L) W H g))
        (over (plane_cell F keep L (next W) (next H) (subband F keep W H g LL)) (subband F keep W H g))
    unfolding band_in plane_cell in_corner over placed half_at place_in across down band_of
    plane-at g LL r c p q = simp (lt-ltb r (count lo H) p, lt-ltb c (count lo W) q)
    plane-at g HL r c p q =
        let e : count lo W + c - count lo W ≡ c = omega arith in
        simp (lt-ltb r (count lo H) p, le-ltb (count lo W + c) (count lo W) (omega arith), e)
    plane-at g LH r c p q =
        let e : count lo H + r - count lo H ≡ r = omega arith in
        simp (lt-ltb c (count lo W) q, le-ltb (count lo H + r) (count lo H) (omega arith), e)
    plane-at g HH r c p q =
        let e : count lo H + r - count lo H ≡ r = omega arith in
        let d : count lo W + c - count lo W ≡ c = omega arith in
        simp (le-ltb (count lo H + r) (count lo H) (omega arith), le-ltb (count lo W + c) (count lo W) (omega arith), e, d)

    pub map-back-at : (x : Grid) → map_back F keep (suc L) W H x ≡ level_back F keep W H (over (map_back F keep L (next W) (next H) x) (band_in W H x))
    unfolding map_back
    map-back-at x = ap (level_back F keep W H) (plane-bands W H (map_back F keep L (next W) (next H) x) x)

  pub plane-corner : (keep : ℤ → ℤ) (L : ℕ) (W H : Side) (g : Grid) →
      Same (next W) (next H) (plane_cell F keep (suc L) W H g) (plane_cell F keep L (next W) (next H) (subband F keep W H g LL))
  unfolding band_in over placed across down next
  plane-corner keep L W H g = plane-at keep L W H g LL

-- ---- what is proved over the laws of the filter
module _ (F : Filter) (laws : FilterLaws F) where
  open laws use {forward-good, back-good, line-back-forward, line-forward-back, forward-has, forward-reads, back-reads, forward-inner}

  -- ---- what one level reads: cells that are there, of rows up to that of low row r + ahead
  pub columns-reads : (keep : ℤ → ℤ) (W H : Side) (g g' : Grid) (h : Half) (r c : ℕ) → r < count h H → c < W.length →
      ((i j : ℕ) → i < H.length → i ≤ place H lo (r + F.ahead) → j < W.length → g i j ≡ g' i j)
      → columns_lifted F keep H g h r c ≡ columns_lifted F keep H g' h r c
  unfolding columns_lifted
  columns-reads keep W H g g' h r c p q e = forward-reads keep H (λ i. g i c) (λ i. g' i c) h r p (λ i u v. e i c u v q)

  pub subband-reads : (keep : ℤ → ℤ) (W H : Side) (g g' : Grid) (b : Band) (r c : ℕ) → r < count (down b) H → c < count (across b) W →
      ((i j : ℕ) → i < H.length → i ≤ place H lo (r + F.ahead) → j < W.length → g i j ≡ g' i j) → subband F keep W H g b r c ≡ subband F keep W H g' b r c
  unfolding subband
  subband-reads keep W H g g' b r c p q e =
      forward-reads keep W (columns_lifted F keep H g (down b) r) (columns_lifted F keep H g' (down b) r) (across b) c q
      (λ j u _. columns-reads keep W H g g' (down b) r j p u e)

  pub subband-same : (keep : ℤ → ℤ) (W H : Side) (g g' : Grid) → Same W H g g' → SameBands W H (subband F keep W H g) (subband F keep W H g')
  subband-same keep W H g g' e b r c p q = subband-reads keep W H g g' b r c p q (λ i j u _ v. e i j u v)

  -- away from the end of the columns it does not see the height
  pub subband-inner : (keep : ℤ → ℤ) (W : Side) (s N N' : ℕ) (g : Grid) (b : Band) (r : ℕ) → place (side s N) lo (r + F.ahead) < N
      → place (side s N') lo (r + F.ahead) < N' →
      subband F keep W (side s N) g b r ≡ subband F keep W (side s N') g b r
  unfolding subband columns_lifted
  subband-inner keep W s N N' g b r p q =
      ap (λ (x : ℕ → ℤ). F.forward keep W x (across b)) (fun_ext λ c. forward-inner keep s N N' (λ i. g i c) (down b) r p q)

  -- the way back reads the bands' own cells
  pub rows-reads : (keep : ℤ → ℤ) (W H : Side) (p q : Band → Grid) → SameBands W H p q → (h : Half) (r c : ℕ) → r < count h H → c < W.length →
      rows_unlifted F keep W p h r c ≡ rows_unlifted F keep W q h r c
  unfolding rows_unlifted
  rows-reads keep W H p q e h r c s v =
      back-reads keep W (λ a. p (band_of a h) r) (λ a. q (band_of a h) r) (λ a j t. e (band_of a h) r j (rw (down-of a h) s) (rw (across-of a h) t)) c v

  pub level-back-reads : (keep : ℤ → ℤ) (W H : Side) (p q : Band → Grid) → SameBands W H p q → Same W H (level_back F keep W H p) (level_back F keep W H q)
  unfolding level_back
  level-back-reads keep W H p q e r c u v =
      back-reads keep H (λ h i. rows_unlifted F keep W p h i c) (λ h i. rows_unlifted F keep W q h i c) (λ h i s. rows-reads keep W H p q e h i c s v) r u

  -- and so does the question of 14
  pub level-has-reads : (W H : Side) (p q : Band → Grid) → SameBands W H p q → level_has F W H p ≡ level_has F W H q
  unfolding level_has rows_have columns_have
  level-has-reads W H p q e =
      let rows : (h : Half) (r : ℕ) → r < count h H → row_has F W H p h r ≡ row_has F W H q h r =
      λ h r s. has-reads W _ _ (λ a j t. e (band_of a h) r j (rw (down-of a h) s) (rw (across-of a h) t)) in
      rw (
        every-same (count lo H) (row_has F W H p lo) (row_has F W H q lo) (rows lo),
        every-same (count hi H) (row_has F W H p hi) (row_has F W H q hi) (rows hi),
        every-same W.length (column-has F W H p) (column-has F W H q)
            (λ c v. has-reads H _ _ (λ h i s. rows-reads wrap32 W H p q e h i c s v)),
      ) refl

  -- ---- one level and its way back
  module _ {keep : ℤ → ℤ} (K : Keeping keep) where
    open K use {Good}

    columns-good : (W H : Side) (g : Grid) → OnCells Good W H g → (h : Half) (r c : ℕ) → r < count h H → c < W.length → Good (columns_lifted F keep H g h r c)
    unfolding columns_lifted
    columns-good W H g good h r c p q = forward-good K H (λ i. g i c) (λ i u. good i c u q) h r p

    rows-good : (W H : Side) (p : Band → Grid) → OnBands Good W H p → (h : Half) (r c : ℕ) → r < count h H → c < W.length
        → Good (rows_unlifted F keep W p h r c)
    unfolding rows_unlifted
    rows-good W H p good h r c u v =
        back-good K W (λ a. p (band_of a h) r) (λ a n t. good (band_of a h) r n (rw (down-of a h) u) (rw (across-of a h) t)) c v

    pub subband-good : (W H : Side) (g : Grid) → OnCells Good W H g → OnBands Good W H (subband F keep W H g)
    unfolding subband
    subband-good W H g good b r c p q =
        forward-good K W (columns_lifted F keep H g (down b) r) (λ j u. columns-good W H g good (down b) r j p u) (across b) c q

    pub level-back-good : (W H : Side) (p : Band → Grid) → OnBands Good W H p → OnCells Good W H (level_back F keep W H p)
    unfolding level_back
    level-back-good W H p good r c u v =
        back-good K H (λ h i. rows_unlifted F keep W p h i c) (λ h i s. rows-good W H p good h i c s v) r u

    -- the rows of the bands, lifted back, are the lifted columns
    pub rows-columns : (W H : Side) (g : Grid) → OnCells Good W H g → Doubles F K W H g → (h : Half) (r c : ℕ) → r < count h H → c < W.length →
        rows_unlifted F keep W (subband F keep W H g) h r c ≡ columns_lifted F keep H g h r c
    unfolding rows_unlifted
    rows-columns W H g good twice h r c p q =
        ap (λ (x : Half → ℕ → ℤ). line_back_by F keep W x c) (row-of-bands F keep W H g h r)
        ∙ line-back-forward K W (columns_lifted F keep H g h r) (λ j u. columns-good W H g good h r j p u) (λ e. twice.rows e h r p) c q

    columns-rows : (W H : Side) (p : Band → Grid) → OnBands Good W H p → Has F keep W H p → (h : Half) (r c : ℕ) → r < count h H → c < W.length →
        columns_lifted F keep H (level_back F keep W H p) h r c ≡ rows_unlifted F keep W p h r c
    unfolding columns_lifted level_back
    columns-rows W H p good has h r c u v =
        line-forward-back K H (λ y i. rows_unlifted F keep W p y i c) (λ y i s. rows-good W H p good y i c s v) (has.columns c v) h r u

    pub level-back-forward : (W H : Side) (g : Grid) → OnCells Good W H g → Doubles F K W H g → Same W H (level_back F keep W H (subband F keep W H g)) g
    unfolding level_back columns_lifted
    level-back-forward W H g good twice r c u v =
        back-reads keep H (λ h i. rows_unlifted F keep W (subband F keep W H g) h i c) (F.forward keep H (λ i. g i c))
        (λ h i s. rows-columns W H g good twice h i c s v) r u
        ∙ line-back-forward K H (λ i. g i c) (λ i t. good i c t v) (λ e. twice.columns e c v) r u

    pub level-forward-back : (W H : Side) (p : Band → Grid) → OnBands Good W H p → Has F keep W H p
        → SameBands W H (subband F keep W H (level_back F keep W H p)) p
    unfolding subband rows_unlifted
    level-forward-back W H p good has b r c u v =
        forward-reads keep W (columns_lifted F keep H (level_back F keep W H p) (down b) r) (rows_unlifted F keep W p (down b) r) (across b) c v
        (λ j s _. columns-rows W H p good has (down b) r j u s)
        ∙ line-forward-back K W (λ a. p (band_of a (down b)) r)
        (λ a n t. good (band_of a (down b)) r n (rw (down-of a (down b)) u) (rw (across-of a (down b)) t)) (has.rows (down b) r u) (across b) c v
        ∙ ap (λ (d : Band). p d r c) (band-of b)

  -- the same for words
  pub level-back-fits : (W H : Side) (p : Band → Grid) → OnBands (SFits w32) W H p → OnCells (SFits w32) W H (level_back F wrap32 W H p)
  level-back-fits = level-back-good words

  pub words-back-forward : (W H : Side) (g : Grid) → OnCells (SFits w32) W H g → Doubles F words W H g → (r c : ℕ) → r < H.length → c < W.length →
      level_back F wrap32 W H (subband F wrap32 W H g) r c ≡ g r c
  words-back-forward = level-back-forward words

  pub words-forward-back : (W H : Side) (p : Band → Grid) → OnBands (SFits w32) W H p → level_has F W H p ≡ true → (b : Band) (r c : ℕ) →
      r < count (down b) H → c < count (across b) W → subband F wrap32 W H (level_back F wrap32 W H p) b r c ≡ p b r c
  words-forward-back W H p fits has = level-forward-back words W H p fits ((level-has F W H p).0 has)

  -- the bands of a grid never give 14
  pub subband-has : (W H : Side) (g : Grid) → OnCells (SFits w32) W H g → Doubles F words W H g → level_has F W H (subband F wrap32 W H g) ≡ true
  unfolding columns_lifted
  subband-has W H g fits twice =
      (level-has F W H (subband F wrap32 W H g)).1
      record {
        rows = λ h r p. ap (has_line W) (row-of-bands F wrap32 W H g h r) ∙ forward-has W (columns_lifted F wrap32 H g h r);
        columns = λ c v.
            has-reads H _ (F.forward wrap32 H (λ i. g i c)) (λ h i s. rows-columns words W H g fits twice h i c s v) ∙ forward-has H (λ i. g i c);
      }

  pub whole-back-forward : (W H : Side) (g : Grid) → Same W H (level_back F whole W H (subband F whole W H g)) g
  whole-back-forward W H g = level-back-forward wholes W H g (λ _ _ _ _. tt) (whole-doubles F W H g)

  -- ---- what all levels read: the cells that are there
  pub plane-reads : (keep : ℤ → ℤ) (L : ℕ) (W H : Side) (g g' : Grid) → Same W H g g' → Same W H (plane_cell F keep L W H g) (plane_cell F keep L W H g')
  unfolding plane_cell
  plane-reads keep zero W H g g' e = e
  plane-reads keep (suc L) W H g g' e =
      let one = subband-same keep W H g g' e in
      let rest = plane-reads keep L (next W) (next H) _ _ (same_low W H _ _ one) in
      let both = over-same W H _ _ _ _ rest one in
      same-bands W H _ _ (λ b r c p q. plane-at F keep L W H g b r c p q ∙ both b r c p q ∙ sym (plane-at F keep L W H g' b r c p q))

  pub map-back-reads : (keep : ℤ → ℤ) (L : ℕ) (W H : Side) (x y : Grid) → Same W H x y → Same W H (map_back F keep L W H x) (map_back F keep L W H y)
  unfolding map_back
  map-back-reads keep zero W H x y e = e
  map-back-reads keep (suc L) W H x y e =
      let rest = map-back-reads keep L (next W) (next H) x y (same-corner W H x y e) in
      λ r c p q.
      ap (λ (g : Grid). g r c) (map-back-at F keep L W H x)
      ∙ level-back-reads keep W H _ _ (over-same W H _ _ _ _ rest (same-in-bands W H x y e)) r c p q
      ∙ ap (λ (g : Grid). g r c) (sym (map-back-at F keep L W H y))

  -- ---- all levels and their way back
  module _ {keep : ℤ → ℤ} (K : Keeping keep) where
    open K use {Good}

    pub map-back-good : (L : ℕ) (W H : Side) (x : Grid) → OnCells Good W H x → OnCells Good W H (map_back F keep L W H x)
    unfolding map_back
    map-back-good zero W H x good = good
    map-back-good (suc L) W H x good =
        let rest = map-back-good L (next W) (next H) x (corner Good W H x good) in
        rw (map-back-at F keep L W H x) (level-back-good K W H _ (over-all Good W H _ _ rest (in-bands Good W H x good)))

    pub bands-back-good : (L : ℕ) (W H : Side) (x : Grid) → OnCells Good W H x → OnBands Good W H (bands_back F keep L W H x)
    bands-back-good L W H x good = over-all Good W H _ _ (map-back-good L (next W) (next H) x (corner Good W H x good)) (in-bands Good W H x good)

    -- the bands in the plane of a grid are the grid's, if the plane of its low-low part gives that part back
    bands-in-plane : (L : ℕ) (W H : Side) (g : Grid) →
        Same (next W) (next H) (map_back F keep L (next W) (next H) (plane_cell F keep L (next W) (next H) (subband F keep W H g LL))) (subband F keep W H g LL) →
        SameBands W H (bands_back F keep L W H (plane_cell F keep (suc L) W H g)) (subband F keep W H g)
    bands-in-plane L W H g back b r c p q =
        let x = plane_cell F keep (suc L) W H g in
        let ll = subband F keep W H g LL in
        let low : Same (next W) (next H) (map_back F keep L (next W) (next H) x) ll =
        λ r c p q. map-back-reads keep L (next W) (next H) x (plane_cell F keep L (next W) (next H) ll) (plane-corner F keep L W H g) r c p q ∙ back r c p q in
        over-same W H _ _ _ _ low (plane-at F keep L W H g) b r c p q
        ∙ ap (λ (f : Grid). f r c) (over-twice _ (subband F keep W H g) b)

    pub map-back-plane : (L : ℕ) (W H : Side) (g : Grid) → OnCells Good W H g → AllDouble F K L W H g
        → Same W H (map_back F keep L W H (plane_cell F keep L W H g)) g
    unfolding map_back plane_cell
    map-back-plane zero W H g good none = λ r c p q. refl
    map-back-plane (suc L) W H g good (more twice left) =
        let ih = map-back-plane L (next W) (next H) (subband F keep W H g LL) (low-all Good W H (subband F keep W H g) (subband-good K W H g good)) left in
        λ r c p q.
        ap (λ (f : Grid). f r c) (map-back-at F keep L W H (plane_cell F keep (suc L) W H g))
        ∙ level-back-reads keep W H _ _ (bands-in-plane L W H g ih) r c p q
        ∙ level-back-forward K W H g good twice r c p q

    pub bands-plane : (L : ℕ) (W H : Side) (g : Grid) → OnCells Good W H g → AllDouble F K L (next W) (next H) (subband F keep W H g LL) →
        SameBands W H (bands_back F keep L W H (plane_cell F keep (suc L) W H g)) (subband F keep W H g)
    bands-plane L W H g good left =
        bands-in-plane L W H g (map-back-plane L (next W) (next H) _ (low-all Good W H (subband F keep W H g) (subband-good K W H g good)) left)

    -- the bands of the grid that a plane gives: those that stand in it
    pub bands-map-back : (L : ℕ) (W H : Side) (x : Grid) → OnCells Good W H x → Has F keep W H (bands_back F keep L W H x) →
        SameBands W H (subband F keep W H (map_back F keep (suc L) W H x)) (bands_back F keep L W H x)
    bands-map-back L W H x good has =
        rw (map-back-at F keep L W H x) (level-forward-back K W H _ (bands-back-good L W H x good) has)

    pub low-map-back : (L : ℕ) (W H : Side) (x : Grid) → OnCells Good W H x → Has F keep W H (bands_back F keep L W H x) →
        Same (next W) (next H) (subband F keep W H (map_back F keep (suc L) W H x) LL) (map_back F keep L (next W) (next H) x)
    unfolding over
    low-map-back L W H x good has = same_low W H (subband F keep W H (map_back F keep (suc L) W H x)) _ (bands-map-back L W H x good has)

    pub plane-map-back : (L : ℕ) (W H : Side) (x : Grid) → OnCells Good W H x → AllHave F keep L W H x
        → Same W H (plane_cell F keep L W H (map_back F keep L W H x)) x
    unfolding map_back plane_cell
    plane-map-back zero W H x good none = λ r c p q. refl
    plane-map-back (suc L) W H x good (more left has) =
        let m = map_back F keep (suc L) W H x in
        let one = bands-map-back L W H x good has in
        let ih = plane-map-back L (next W) (next H) x (corner Good W H x good) left in
        let low : Same (next W) (next H) (plane_cell F keep L (next W) (next H) (subband F keep W H m LL)) x =
        λ r c p q.
        plane-reads keep L (next W) (next H) (subband F keep W H m LL) (map_back F keep L (next W) (next H) x) (low-map-back L W H x good has) r c p q
        ∙ ih r c p q in
        same-bands W H (plane_cell F keep (suc L) W H m) x
        (λ b r c p q.
        plane-at F keep L W H m b r c p q
        ∙ over-same W H _ _ _ _ low one b r c p q
        ∙ ap (λ (f : Grid). f r c) (over-band W H x (map_back F keep L (next W) (next H) x) b))

    -- so grids with the same plane are the same
    pub plane-unique : (L : ℕ) (W H : Side) (g g' : Grid) → OnCells Good W H g → OnCells Good W H g' → AllDouble F K L W H g → AllDouble F K L W H g' →
        Same W H (plane_cell F keep L W H g) (plane_cell F keep L W H g') → Same W H g g'
    plane-unique L W H g g' good good' twice twice' e r c p q =
        sym (map-back-plane L W H g good twice r c p q)
        ∙ map-back-reads keep L W H _ _ e r c p q
        ∙ map-back-plane L W H g' good' twice' r c p q

  -- ---- the same for words
  pub words-map-back-plane : (L : ℕ) (W H : Side) (g : Grid) → OnCells (SFits w32) W H g → AllDouble F words L W H g → (r c : ℕ) → r < H.length
      → c < W.length →
      map_back F wrap32 L W H (plane_cell F wrap32 L W H g) r c ≡ g r c
  words-map-back-plane = map-back-plane words

  pub words-plane-map-back : (L : ℕ) (W H : Side) (x : Grid) → OnCells (SFits w32) W H x → AllHave F wrap32 L W H x → (r c : ℕ) → r < H.length
      → c < W.length →
      plane_cell F wrap32 L W H (map_back F wrap32 L W H x) r c ≡ x r c
  words-plane-map-back = plane-map-back words

  -- and for whole numbers: the plane of any grid gives it back
  pub whole-map-back-plane : (L : ℕ) (W H : Side) (g : Grid) → Same W H (map_back F whole L W H (plane_cell F whole L W H g)) g
  whole-map-back-plane L W H g = map-back-plane wholes L W H g (λ _ _ _ _. tt) (whole-all-double F L W H g)
