-- A level by what its filter does to the columns meets what is asked of a level on the way back: `level-laws`. Assumes nothing.
use mathlib.Core.Path.{◌≡◌, refl}
use mathlib.Core.Bool.{true, false}
use Prim.Native.Nat.{ℕ, suc, ◌+◌, ◌-◌, ◌*◌, ◌≤◌, ◌<◌}
use native.Mathlib.Decide.{dec_lt}
use native.Mathlib.Omega.{arith}
use lib.IntN.{ℤ}
use lib.Dec.{leb}
use borrow.Author.Tests.{le-leb, lt-leb}
use Rattle.numbers.specs.Signal.{pick}
use Rattle.lifting.specs.Line.{Half, lo, hi}
use Rattle.lifting.specs.Grid.{Side, count, joined}
use Rattle.lifting.specs.GridHalves.{halves_of}
use Rattle.wavelet.specs.Bands.{Grid, Band, LL, down}
use Rattle.wavelet.specs.Levels.{next}
use Rattle.wavelet.specs.Order.{first_set, last_set, set_has}
use Rattle.level.specs.Stretch as stretch
use Rattle.level.specs.Stretch.{slot, local, row_of_set, end_of, has_low, row_in, band_fed, low_row_taken, BandStands}
use Rattle.level.proofs.RowsIn.{apart, Only, is-old, only-fed, only-taken, row-halves, joined-reads}
use Rattle.level.proofs.BandsIn.{SameMem, is_same, got_same, got-old, got-new, low-bands, high-bands, no-low, got-taken, no_true}
use Rattle.level.proofs.RebuildingLaws.{set-row}
use Rattle.level.proofs.TriedRows.{Outcome}
use Rattle.level.proofs.ReaderLaws.{ReaderLawsBy}
use Rattle.synthesis.specs.Columns.{Columns}
use Rattle.synthesis.specs.Work.{set_worked, set_made}
use Rattle.synthesis.specs.Stands.{SetLeaves, SetBefore}
use Rattle.synthesis.specs.Back.{level_by, stands_by}
use Rattle.synthesis.proofs.ColumnLaws.{ColumnLaws}
use Rattle.synthesis.proofs.SetMade.{FitSet, Needs, set-made}

-- ---- the rows of a set are among the level's
set_there : (H : Side) (n : ℕ) → 0 < H.length → n ≤ last_set H → 2 * n < end_of H
unfolding end_of
set_there H n g l = set-row H n g l

module _ (C : Columns) (L : ColumnLaws C) (one : 1 ≤ C.filter.ahead) (four : C.filter.rows ≡ 4 * C.filter.ahead) where
  some : 0 < C.filter.rows
  some = omega arith

  many : 1 < C.filter.rows
  many = omega arith

  -- ---- the slots of a set's rows
  set-old : (h : Half) (n q : ℕ) → q < 2 * n → 2 * n + 1 < q + 4 * C.filter.ahead → slot C.filter.rows (row_of_set h n) ≡ slot C.filter.rows q → ⊥
  unfolding row_of_set
  set-old lo n q l b z = apart C.filter.rows (2 * n) q (λ e. omega arith) (omega arith) (omega arith) z
  set-old hi n q l b z = apart C.filter.rows (2 * n + 1) q (λ e. omega arith) (omega arith) (omega arith) z

  module _ (k : ℕ) (W H : Side) (p : Band → Grid) (n : ℕ) where
    abbrev Before : (ℕ → ℤ) → Type 0
    Before x = SetBefore C k W H p n x

    abbrev Got : (ℕ → ℤ) → Band → Type 0
    Got x c = BandStands C.filter.rows W H p n x c

    -- ---- memories that agree hold the same
    before_same : (i : ℕ) (x y : ℕ → ℤ) → SameMem many W x y → SetBefore C k W H p i x → SetBefore C k W H p i y
    before_same i x y e s = record {
      even = λ j a b c. is_same many W x y (2 * j) _ e (s.even j a b c);
      high = λ j a b. is_same many W x y (2 * j + 1) _ e (s.high j a b);
    }

    leaves-same : (x y : ℕ → ℤ) → SameMem many W x y → SetLeaves C k W H p n x → SetLeaves C k W H p n y
    leaves-same x y e s = record {
      made = λ r b q. is_same many W x y (local H.start r) _ e (s.made r b q);
      fit = s.fit;
      more = λ l. before_same (suc n) x y e (s.more l);
      has = s.has;
    }

    -- ---- a row of the set changed
    before-only : (h : Half) (x y : ℕ → ℤ) → Only C.filter.rows W.length (row_of_set h n) x y → Before x → Before y
    before-only h x y o s = record {
      even = λ i u v c. is-old some W (row_of_set h n) x y (2 * i) _ o (set-old h n (2 * i) (omega arith) (omega arith)) (s.even i u v c);
      high = λ i u v. is-old some W (row_of_set h n) x y (2 * i + 1) _ o (set-old h n (2 * i + 1) (omega arith) (omega arith)) (s.high i u v);
    }

    -- ---- a set worked out
    module _ (x : ℕ → ℤ) (tall : 0 < H.length) (there : n ≤ last_set H) (before : Before x) where
      -- the bands of the set, and what is needed of them
      needs-of : (y : ℕ → ℤ) → Before y → ((c : Band) → Got y c) → Needs C L one four k W H p n y
      needs-of y b got = record {
        low = low-bands many W H p n tall there y got;
        high = high-bands many W H p n y got;
        before = b;
      }

      abbrev Fits : Type 0
      Fits = FitSet C L one four k W H p n

      abbrev Done : (ℕ → ℤ) → Type 0
      Done y = SetLeaves C k W H p n y × ((j : ℕ) → C.filter.rows * W.length ≤ j → y j ≡ x j)

      -- at the last level all bands are fed
      last-done : ((c : Band) → Got x c) → Outcome Fits Done (set_worked C true k W H n x)
      unfolding set_worked stretch.low_taken
      last-done got = set-made C L one four k W H p x n x tall (set_there H n tall there) (λ j _. refl) (needs-of x before got)

      -- else the low-low row, if there is one, comes from the next level
      abbrev taken : ℕ → ℤ
      taken = low_row_taken C.filter.rows W H n x

      abbrev LowRow : Type 0
      LowRow = (i : ℕ) → i < count lo W →
          joined (next W) (halves_of (next W) (row_in C.filter.rows (next W).length (local (next H).start (n - first_set H lo))
          (λ j. x (C.filter.rows * W.length + j)))) i ≡ p LL (n - first_set H lo) i

      module _ (got : (c : Band) → (c ≡ LL → ⊥) → Got x c) where
        module _ (low : LowRow) where
          before-taken : Before taken
          unfolding row_of_set
          before-taken = before-only lo x taken (only-taken some W H n x) before

          taken-done : Outcome Fits Done (set_made C k W H n taken)
          taken-done = set-made C L one four k W H p x n taken tall (set_there H n tall there) (only-taken some W H n x).past
              (needs-of taken before-taken (got-taken many W H p n x got low))

        on-done : (first_set H lo ≤ n → LowRow) → Outcome Fits Done (set_worked C false k W H n x)
        unfolding set_worked stretch.low_taken has_low
        on-done low = go (dec_lt n (first_set H lo))
          where
            go : Dec (n < first_set H lo) → Outcome Fits Done (set_made C k W H n (pick (leb (first_set H lo) n) taken x))
            go (yes b) = rw (lt-leb (first_set H lo) n b)
                (set-made C L one four k W H p x n x tall (set_there H n tall there) (λ j _. refl) (needs-of x before (no-low many W H p n x got b)))
            go (no b) = rw (le-leb (first_set H lo) n (omega arith)) (taken-done (low (omega arith)))

  pub laws : ReaderLawsBy C.filter (level_by C) (stands_by C)
  laws = record {
    leaves-reads = leaves-same;
    before-reads = λ k W H p n x y e s. before_same k W H p n n x y e s;
    got-reads = λ W H p n c x y e s. got_same many W H p n c x y e s;
    feed-past = λ W s c n v x j b. (only-fed some W c n v x).past j b;
    feed-before = λ k W H p n c v x s. before-only k W H p n (down c) x (band_fed C.filter.rows W c n v x) (only-fed some W c n v x) s;
    feed-old = λ W H p n c e v x d s. got-old many W H p n c e v x d s;
    feed-new = λ W H p n c v x e. got-new many W H p n c v x e;
    got-none = λ W H p n c x none t i q. absurd (no_true (set_has W H c n) none t);
    looks = one;
    before-first = λ k W H p x. record { even = λ m a b c. absurd (omega arith); high = λ m a b. absurd (omega arith) };
    before-next = λ k W H p n x l s. s.more l;
    work-last = last-done;
    work-on = on-done;
    made-is = λ k W H p n x s r b q c t.
        joined-reads W _ (C.back k W H p r) (row-halves some W x (local H.start r) _ (s.made r b q)) c t;
    made-fits = λ k W H p n x s r b q c t. s.fit r b q c t;
    made-has = λ k W H p n x s. s.has;
  }

pub level-laws : (C : Columns) → ColumnLaws C → ReaderLawsBy C.filter (level_by C) (stands_by C)
level-laws C L = laws C L L.looks L.keeps
