-- The way back from band rows by their names, over words, level by level: from the rows of a map it is the map; and what it makes has the rows, where no number
-- that is halved is odd. Assumes nothing.
use mathlib.Core.Bool.{Bool, true, false}
use mathlib.Core.Path.{◌≡◌, refl, sym, ap, subst, ◌∙◌}
use mathlib.Core.List.{List, [], ◌∷◌}
use Prim.Native.Nat.{ℕ, zero, suc, ◌+◌, ◌-◌, ◌≤◌, ◌<◌}
use native.Mathlib.Omega.{arith}
use lib.IntN.{ℤ, pos}
use lib.Dec.{eqb}
use mir.Syntax.{w32}
use mir.Val.{SFits}
use borrow.Author.Tests.{eq-eqb, eqb-true}
use Rattle.numbers.specs.Signal.{pick}
use Rattle.numbers.specs.Word.{wrap32}
use Rattle.numbers.proofs.Words.{abs-fits}
use Rattle.numbers.proofs.Sweep.{both}
use Rattle.lifting.specs.Line.{Half, lo, hi}
use Rattle.lifting.specs.Grid.{Side, count}
use Rattle.wavelet.specs.Limits.{range}
use Rattle.wavelet.specs.Bands.{Grid, Band, LL, HL, LH, HH, code, across, down, subband, level_back, level_has}
use Rattle.wavelet.specs.Order.{RowName, row_name, same_name, times}
use Rattle.wavelet.proofs.Bridge.{range_small}
use Rattle.wavelet.specs.Levels.{next, side_at, approximation, level_band}
use Rattle.wavelet.specs.View.{band_columns}
use Rattle.wavelet.proofs.LevelTheory.{OnCells, OnBands, Same, SameBands, level-back-fits, level-back-reads, level-has-reads, words-back-forward}
use Rattle.wavelet.proofs.LevelTheory.{words-forward-back, subband-same, same_low}
use Rattle.calls.specs.Lists.{All, all_none, all_more}
use Rattle.calls.proofs.AllLaws.{In, first, later}
use Rattle.filters.specs.Filters.{filter_of}
use Rattle.filters.proofs.Filters.{filter-laws}
use Rattle.reader_steps.specs.Asked.{named}
use Rattle.reader.specs.Rebuilt.{Rows, bands_by, rebuilt, bands_at, part_at}
use Rattle.reader_steps.specs.Places.{has_cells}
use Rattle.reader.specs.Demand3.{IsPart, FedRow}
use Rattle.reader_steps.proofs.Looks.{named-code}
use Rattle.reader_steps.proofs.CellLaws.{Empty, wide, high, cells-not}
use Rattle.reader.proofs.BaseLaws.{part-words, part-doubles, part-level-has}
use Rattle.reader.proofs.Reached.{names_of, Good}

-- ---- the rows of a map
module _ (f base : ℕ) (W H : Side) (g : Grid) (m : IsPart (filter_of f) base W.length H.length g) (l : ℕ) (few : base + suc l ≤ (filter_of f).levels) where
  -- the rows of its plane, over words
  abbrev pub rows_of : Rows
  rows_of x i = level_band (filter_of f) wrap32 W H g x.level x.band x.row i

  abbrev part : ℕ → Grid
  part k = approximation (filter_of f) wrap32 W H g k

  bands-same : (k : ℕ) (a : Grid) → Same (side_at (suc k) W) (side_at (suc k) H) a (part (suc k)) →
      SameBands (side_at k W) (side_at k H) (bands_by rows_of (suc k) a) (subband (filter_of f) wrap32 (side_at k W) (side_at k H) (part k))
  unfolding bands_by level_band approximation side_at next across down
  bands-same k a e LL r c p q = e r c p q
  bands-same k a e HL r c p q = refl
  bands-same k a e LH r c p q = refl
  bands-same k a e HH r c p q = refl

  level-same : (k : ℕ) (a : Grid) → base + suc k ≤ (filter_of f).levels → Same (side_at (suc k) W) (side_at (suc k) H) a (part (suc k)) →
      Same (side_at k W) (side_at k H) (level_back (filter_of f) wrap32 (side_at k W) (side_at k H) (bands_by rows_of (suc k) a)) (part k)
  level-same k a h e r c p q =
      level-back-reads (filter_of f) (filter-laws f) wrap32 (side_at k W) (side_at k H) _ _ (bands-same k a e) r c p q
      ∙ words-back-forward (filter_of f) (filter-laws f) (side_at k W) (side_at k H) (part k) (part-words f base W H g m k
      (omega arith)) (part-doubles f base W H g m k h) r c p q

  back-same : (i k : ℕ) → k + i ≡ suc l → Same (side_at k W) (side_at k H) (rebuilt 0 f base W H rows_of i k) (part k)
  unfolding rebuilt
  back-same zero k e = let z : k ≡ suc l = omega arith in rw z (unfold level_band approximation in λ r c p q. refl)
  back-same (suc i) k e = level-same k (rebuilt 0 f base W H rows_of i (suc k)) (omega arith) (back-same i (suc k) (omega arith))

  pub part_same : (k : ℕ) → k ≤ l → Same (side_at k W) (side_at k H) (part_at 0 f base W H rows_of (suc l) k) (part k)
  part_same k h = level-same k (rebuilt 0 f base W H rows_of (suc l - suc k) (suc k)) (omega arith) (back-same (suc l - suc k) (suc k) (omega arith))

  pub bands-have : (k : ℕ) → k ≤ l → level_has (filter_of f) (side_at k W) (side_at k H) (bands_at 0 f base W H rows_of (suc l) k) ≡ true
  bands-have k h =
      level-has-reads (filter_of f) (filter-laws f) (side_at k W) (side_at k H) _ _ (bands-same k _ (back-same (suc l - suc k) (suc k) (omega arith)))
      ∙ unfold level_band in part-level-has f base W H g m k (omega arith)

no_cell : (h : Half) (S : Side) → S.length ≡ 0 → (i : ℕ) → i < count h S → ⊥
unfolding count
no_cell lo S e i p = omega arith
no_cell hi S e i p = omega arith

-- ---- from rows P that are words
module _ (f base : ℕ) (W H : Side) (l : ℕ) (P : Rows)
    (words : (k : ℕ) (b : Band) (r c : ℕ) → k ≤ l → r < count (down b) (side_at k H) → c < count (across b) (side_at k W) → SFits w32 (P (row_name (suc k) b r) c))
    (has : (k : ℕ) → k ≤ l → has_cells (side_at k W) (side_at k H) ≡ true
    → level_has (filter_of f) (side_at k W) (side_at k H) (bands_at 0 f base W H P (suc l) k) ≡ true) where
  bands-words : (m k : ℕ) → k ≤ l → OnCells (SFits w32) (side_at (suc k) W) (side_at (suc k) H) (rebuilt 0 f base W H P m (suc k)) →
      OnBands (SFits w32) (side_at k W) (side_at k H) (bands_by P (suc k) (rebuilt 0 f base W H P m (suc k)))
  unfolding bands_by side_at next across down
  bands-words m k h w LL r c p q = w r c p q
  bands-words m k h w HL r c p q = words k HL r c h p q
  bands-words m k h w LH r c p q = words k LH r c h p q
  bands-words m k h w HH r c p q = words k HH r c h p q

  rebuilt-words : (m k : ℕ) → k + m ≡ suc l → OnCells (SFits w32) (side_at k W) (side_at k H) (rebuilt 0 f base W H P m k)
  unfolding rebuilt
  rebuilt-words zero k e = let z : k ≡ suc l = omega arith in rw z (unfold side_at next across down in λ r c p q. words l LL r c (omega arith) p q)
  rebuilt-words (suc m) k e = level-back-fits (filter_of f) (filter-laws f) (side_at k W) (side_at k H) _
      (bands-words m k (omega arith) (rebuilt-words m (suc k) (omega arith)))

  abbrev pub back : Grid
  back = rebuilt 0 f base W H P (suc l) 0

  -- the bands of an empty level have no cell
  none-same : (k : ℕ) (p q : Band → Grid) → Empty (side_at k W) (side_at k H) → SameBands (side_at k W) (side_at k H) p q
  none-same k p q (wide e) b r c u v = absurd (no_cell (across b) (side_at k W) e c v)
  none-same k p q (high e) b r c u v = absurd (no_cell (down b) (side_at k H) e r u)

  bands-of : (k m : ℕ) → k + suc m ≡ suc l → Same (side_at k W) (side_at k H) (approximation (filter_of f) wrap32 W H back k) (rebuilt 0 f base W H P (suc m) k) →
      SameBands (side_at k W) (side_at k H) (subband (filter_of f) wrap32 (side_at k W) (side_at k H) (approximation (filter_of f) wrap32 W H back k))
      (bands_by P (suc k) (rebuilt 0 f base W H P m (suc k)))
  bands-of k m e a = go (has_cells (side_at k W) (side_at k H)) refl
    where
      left : suc l - suc k ≡ m
      left = omega arith

      lines : has_cells (side_at k W) (side_at k H) ≡ true
          → level_has (filter_of f) (side_at k W) (side_at k H) (bands_by P (suc k) (rebuilt 0 f base W H P m (suc k))) ≡ true
      lines c = subst (λ i. level_has (filter_of f) (side_at k W) (side_at k H) (bands_by P (suc k) (rebuilt 0 f base W H P i (suc k))) ≡ true) left
          (has k (omega arith) c)

      go : (c : Bool) → has_cells (side_at k W) (side_at k H) ≡ c →
          SameBands (side_at k W) (side_at k H) (subband (filter_of f) wrap32 (side_at k W) (side_at k H) (approximation (filter_of f) wrap32 W H back k))
          (bands_by P (suc k) (rebuilt 0 f base W H P m (suc k)))
      go false c = none-same k _ _ (cells-not (side_at k W) (side_at k H) c)
      go true c = λ b r i p q.
          subband-same (filter_of f) (filter-laws f) wrap32 (side_at k W) (side_at k H) _ _ a b r i p q ∙ unfold rebuilt in
          words-forward-back (filter_of f) (filter-laws f) (side_at k W) (side_at k H) _
          (bands-words m k (omega arith) (rebuilt-words m (suc k) (omega arith))) (lines c) b r i p q

  approximation-is : (k m : ℕ) → k + m ≡ suc l → Same (side_at k W) (side_at k H) (approximation (filter_of f) wrap32 W H back k) (rebuilt 0 f base W H P m k)
  unfolding approximation side_at bands_by
  approximation-is zero m e = let z : m ≡ suc l = omega arith in rw z (λ r c p q. refl)
  approximation-is (suc k) m e =
      same_low (side_at k W) (side_at k H) _ _ (bands-of k m (omega arith) (approximation-is k (suc m) (omega arith)))

  -- ---- its plane has them
  pub back-has : (k : ℕ) (b : Band) → k ≤ l → (b ≡ LL → k ≡ l) → (r c : ℕ) → r < count (down b) (side_at k H) → c < count (across b) (side_at k W) →
      level_band (filter_of f) wrap32 W H back (suc k) b r c ≡ P (row_name (suc k) b r) c
  unfolding bands_by rebuilt level_band
  back-has k LL h last r c p q = bands-of k 0 (omega (arith, last refl)) (approximation-is k 1 (omega (arith, last refl))) LL r c p q
  back-has k HL h last r c p q = bands-of k (l - k) (omega arith) (approximation-is k (suc (l - k)) (omega arith)) HL r c p q
  back-has k LH h last r c p q = bands-of k (l - k) (omega arith) (approximation-is k (suc (l - k)) (omega arith)) LH r c p q
  back-has k HH h last r c p q = bands-of k (l - k) (omega arith) (approximation-is k (suc (l - k)) (omega arith)) HH r c p q

-- ---- rows fed, by name
pub same-name : (x y : RowName) → same_name x y ≡ true → x ≡ y
unfolding same_name
same-name x y e =
    let a = both (eqb x.level y.level) _ e in
    let b = both (eqb (code x.band) (code y.band)) _ a.1 in
    let p = eqb-true _ _ a.0 in
    let q : x.band ≡ y.band = sym (named-code x.band) ∙ ap named (eqb-true _ _ b.0) ∙ named-code y.band in
    let r = eqb-true _ _ b.1 in
    λ i. record { level = p i; band = q i; row = r i }

pub same_self : (x : RowName) → same_name x x ≡ true
unfolding same_name
same_self x = rw (eq-eqb x.level x.level refl, eq-eqb (code x.band) (code x.band) refl, eq-eqb x.row x.row refl) refl

unfoldable pub lookup : List FedRow → RowName → ℕ → ℤ
lookup [] x = λ _. pos 0
lookup (f ∷ fs) x = pick (same_name x f.row) f.run.numbers (lookup fs x)

occurs : (f : FedRow) (fs : List FedRow) → In f fs → 1 ≤ times f.row (names_of fs)
unfolding times
occurs f [] i = elim i [ ]
occurs f (g ∷ fs) first = rw (same_self f.row) (omega arith)
occurs f (g ∷ fs) (later i) = let a = occurs f fs i in omega arith

-- a row that stands once is found
pub found : (f : FedRow) (fs : List FedRow) → In f fs → times f.row (names_of fs) ≤ 1 → lookup fs f.row ≡ f.run.numbers
unfolding times lookup
found f [] i h = elim i [ ]
found f (g ∷ fs) first h = rw (same_self f.row) refl
found f (g ∷ fs) (later i) h = go (same_name f.row g.row) h (found f fs i)
  where
    go : (t : Bool) → pick t 1 0 + times f.row (names_of fs) ≤ 1 → (times f.row (names_of fs) ≤ 1 → lookup fs f.row ≡ f.run.numbers) →
        pick t g.run.numbers (lookup fs f.row) ≡ f.run.numbers
    go true q ih = absurd (omega (arith, occurs f fs i))
    go false q ih = ih (omega arith)

zero-fits : SFits w32 (pos 0)
zero-fits = abs-fits (pos 0) 0 (omega arith) (omega arith)

pub lookup-words : (ad f base spare : ℕ) (W H : Side) (l : ℕ) → base + suc l ≤ (filter_of f).levels → (fs : List FedRow) → All (Good ad f base spare W H l) fs →
    (x : RowName) (i : ℕ) →
    i < band_columns W x.level x.band →
    SFits w32 (lookup fs x i)
unfolding lookup
lookup-words ad f base spare W H l few [] all_none x i p = zero-fits
lookup-words ad f base spare W H l few (u ∷ fs) (all_more g gs) x i p = go (same_name x u.row) refl (lookup-words ad f base spare W H l few fs gs x i p)
  where
    go : (t : Bool) → same_name x u.row ≡ t → SFits w32 (lookup fs x i) → SFits w32 (pick t u.run.numbers (lookup fs x) i)
    go true e ih =
        let z = same-name x u.row e in
        let q : i < u.run.size = rw g.size (subst (λ y. i < band_columns W y.level y.band) z p) in
        abs-fits _ (range (filter_of f) (base + u.row.level))
        (range_small (filter_of f) (filter-laws f) (base + u.row.level) (omega (arith, g.level, g.inside))) (g.range-of i q)
    go false e ih = ih
