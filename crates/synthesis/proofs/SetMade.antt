-- Working out a set, whatever the filter. If the level's memory holds the set's rows, and of the sets before it the rebuilt even rows and the high rows of
-- the columns that it needs, then what is made are the rows of the way back; and if a number is refused, a row that this set makes does not fit, or a number
-- that it halves is odd. Over words, for any bands: nothing is asked of their numbers. Assumes nothing.
use mathlib.Core.Bool.{Bool, true, false}
use mathlib.Core.Path.{◌≡◌, refl, sym, ap, subst, ◌∙◌}
use Prim.Native.Nat.{ℕ, zero, suc, ◌+◌, ◌-◌, ◌*◌, ◌/◌, ◌%◌, ◌≤◌, ◌<◌}
use native.Mathlib.Decide.{ℕ_discrete, dec_lt}
use native.Mathlib.Omega.{arith}
use lib.IntN.{ℤ}
use lib.Signed.{shr_z}
use lib.Dec.{ltb, leb}
use borrow.Author.Tests.{lt-ltb, le-ltb, le-leb, lt-leb, leb-true, ltb-true}
use Rattle.numbers.specs.Signal.{pick}
use Rattle.numbers.proofs.Sweep.{both as both_hold}
use Rattle.numbers.proofs.TestLaws.{every-each, each-every}
use Rattle.lifting.specs.Line.{Half, lo, hi}
use Rattle.lifting.specs.Grid.{Side, place, count, deinterleaved, single_high, is_even, has_line}
use Rattle.lifting.proofs.GridLaws.{place-in}
use Rattle.lifting.proofs.SingleLaws.{single-high, has-single, has_other}
use Rattle.wavelet.specs.Bands.{Grid, Band, band_of, rows_unlifted}
use Rattle.wavelet.specs.Order.{first_set, last_set}
use Rattle.wavelet.specs.Steps.{set_of}
use Rattle.level.specs.Tried.{Tried, failed, passed, bind}
use Rattle.level.specs.Stretch as stretch
use Rattle.level.specs.Stretch.{local, end_of, has_low, slot, RowStands, row_unlifted, row_has_line, row_halved, row_is_even, line_tried, low_tried, high_tried}
use Rattle.level.specs.Stands.{SetHasBy, SetFitsBy}
use Rattle.level.proofs.RowsIn.{apart, Only, is-old, only-unlifted, line-is, only-halved, halved_is}
use Rattle.level.proofs.TriedRows.{Outcome, stops, goes, bind-outcome, not-false, each_stands, stands-each, admit}
use Rattle.synthesis.specs.Columns.{Columns}
use Rattle.synthesis.specs.Work.{even_done, admitted, pair_made, own_even, first_made, pair_of}
use Rattle.synthesis.specs.Work.{pair_before, pairs_made, earlier_made, most_made, own_made, single_made}
use Rattle.synthesis.specs.Work.{last_made, rest_made, rows_made, set_unlifted, set_made}
use Rattle.synthesis.specs.Stands.{SetBefore, SetLeaves}
use Rattle.synthesis.proofs.ColumnLaws.{cols_of, Near, ColumnLaws}
use Rattle.synthesis.proofs.SetRows.{set-low, set-high, set_first, set-start, set_pair}
use Rattle.synthesis.proofs.WorkLaws.{others}

module _ (C : Columns) (L : ColumnLaws C) (one : 1 ≤ C.filter.ahead) (four : C.filter.rows ≡ 4 * C.filter.ahead) where
  abbrev a : ℕ
  a = C.filter.ahead

  abbrev m : ℕ
  m = C.filter.rows

  some : 0 < C.filter.rows
  some = omega arith

  -- two rows less than 4a apart have two slots
  far : (t q : ℕ) → (t ≡ q → ⊥) → t < q + 4 * C.filter.ahead → q < t + 4 * C.filter.ahead → slot C.filter.rows t ≡ slot C.filter.rows q → ⊥
  far t q d u v = apart C.filter.rows t q d (omega arith) (omega arith)

  -- ---- one level: the bands p of the columns W and the rows H, whose rows are low-low values of level k
  module _ (k : ℕ) (W H : Side) (p : Band → Grid) where
    -- the grid, and row n of a half of its columns
    abbrev G : Grid
    G = C.back k W H p

    abbrev cols : Half → ℕ → ℕ → ℤ
    cols = cols_of C W p

    abbrev Is : (ℕ → ℤ) → ℕ → (Half → ℕ → ℤ) → Type 0
    Is = RowStands C.filter.rows W

    abbrev SetHas : ℕ → Type 0
    SetHas = SetHasBy C.filter C.filter.ahead W H p

    abbrev pub FitSet : ℕ → Type 0
    FitSet = SetFitsBy C.filter C.filter.ahead (C.fits k) (C.back k W H p) W H p

    abbrev FitRow : ℕ → Type 0
    FitRow r = (c : ℕ) → c < W.length → C.fits k (C.back k W H p r c) ≡ true

    abbrev b₀ : ℕ
    b₀ = first_set H lo

    -- the row of the grid that is at q
    abbrev row : ℕ → ℕ
    row q = q - b₀

    -- rows of the level, told by their columns
    by_row : (f : ℤ → ℤ) (r₁ r₂ : ℕ → ℤ) → ((c : ℕ) → c < W.length → f (r₁ c) ≡ r₂ c) → (h : Half) (i : ℕ) → i < count h W →
        f (deinterleaved W r₁ h i) ≡ deinterleaved W r₂ h i
    unfolding deinterleaved
    by_row f r₁ r₂ e h i b = e (place W h i) (place-in W h i b)

    -- ---- what a set needs
    pub record Needs (n : ℕ) (x : ℕ → ℤ) : Type 0 where
      pub low : b₀ ≤ n → Is x (2 * n) (λ h. p (band_of h lo) (n - b₀))
      pub high : n < count hi H → Is x (2 * n + 1) (λ h. p (band_of h hi) n)
      pub before : SetBefore C k W H p n x

    -- the rows of the set are lines'
    record Lines (n : ℕ) : Type 0 where
      low : b₀ ≤ n → has_line W (λ h. p (band_of h lo) (n - b₀)) ≡ true
      high : n < count hi H → has_line W (λ h. p (band_of h hi) n) ≡ true

    -- ---- numbers
    in-highs : (n : ℕ) → 2 * n + 1 < end_of H → n < count hi H
    unfolding end_of count
    in-highs n l = omega arith

    past-highs : (n : ℕ) → end_of H ≤ 2 * n + 1 → count hi H ≤ n
    unfolding end_of count
    past-highs n l = omega arith

    row_in : (q : ℕ) → q < end_of H → b₀ ≤ q → row q < H.length
    unfolding end_of first_set
    row_in q l b = omega arith

    few : b₀ < 2
    unfolding first_set
    few = omega arith

    module _ (x₀ : ℕ → ℤ) where
      -- nothing past the level's rows has changed
      abbrev Past : (ℕ → ℤ) → Type 0
      Past y = (j : ℕ) → C.filter.rows * W.length ≤ j → y j ≡ x₀ j

      -- ---- along the rows
      -- a row tried: what stands in the other slots still does
      line-tried : (P : (ℕ → ℤ) → Type 0) (n : ℕ) (h : Half) (r q : ℕ) (x : ℕ → ℤ) → (SetHas n → has_line W (λ b. p (band_of b h) r) ≡ true) →
          Is x q (λ b. p (band_of b h) r) →
          (has_line W (λ b. p (band_of b h) r) ≡ true → Is (row_unlifted m C.along W q x) q (deinterleaved W (cols h r)) → P (row_unlifted m C.along W q x)) →
          Outcome (FitSet n) P (line_tried m C.along W q x)
      unfolding line_tried rows_unlifted
      line-tried P n h r q x has s f = go (row_has_line m W q x) refl
        where
          go : (t : Bool) → row_has_line m W q x ≡ t → Outcome (FitSet n) P (pick t (passed (row_unlifted m C.along W q x)) failed)
          go true e = goes (row_unlifted m C.along W q x) (f (sym (line-is some W q x _ s) ∙ e) (L.along-is W q x _ s))
          go false e = stops (λ all. not-false (row_has_line m W q x) (line-is some W q x _ s ∙ has all.has) e)

      -- the low row lifted back
      record Low (n : ℕ) (x : ℕ → ℤ) : Type 0 where
        line : b₀ ≤ n → has_line W (λ h. p (band_of h lo) (n - b₀)) ≡ true
        low : b₀ ≤ n → Is x (2 * n) (deinterleaved W (cols lo (n - b₀)))
        high : n < count hi H → Is x (2 * n + 1) (λ h. p (band_of h hi) n)
        before : SetBefore C k W H p n x
        past : Past x

      before-old : (n t : ℕ) (x y : ℕ → ℤ) → 2 * n ≤ t → t < 2 * n + 2 → Only m W.length t x y → SetBefore C k W H p n x → SetBefore C k W H p n y
      before-old n t x y u v o s = record {
        even = λ i c d e. is-old some W t x y (2 * i) _ o (far t (2 * i) (λ z. omega arith) (omega arith) (omega arith)) (s.even i c d e);
        high = λ i c d. is-old some W t x y (2 * i + 1) _ o (far t (2 * i + 1) (λ z. omega arith) (omega arith) (omega arith)) (s.high i c d);
      }

      low-tried : (n : ℕ) (x : ℕ → ℤ) → Past x → Needs n x → Outcome (FitSet n) (Low n) (low_tried m C.along W H n x)
      unfolding low_tried has_low
      low-tried n x z s = go (dec_lt n b₀)
        where
          go : Dec (n < b₀) → Outcome (FitSet n) (Low n) (pick (leb b₀ n) (line_tried m C.along W (2 * n) x) (passed x))
          go (yes u) = rw (lt-leb b₀ n u) (goes x (record {
            line = λ v. absurd (omega arith);
            low = λ v. absurd (omega arith);
            high = s.high;
            before = s.before;
            past = z;
          }))
          go (no u) =
              let o = only-unlifted some C.along W (2 * n) x in
              rw (le-leb b₀ n (omega arith))
              (line-tried (Low n) n lo (n - b₀) (2 * n) x (λ h. h.low (omega arith)) (s.low (omega arith)) (λ e l. record {
                line = λ _. e;
                low = λ _. l;
                high = λ v. is-old some W (2 * n) x _ (2 * n + 1) _ o (far (2 * n) (2 * n + 1) (λ y. omega arith) (omega arith) (omega arith)) (s.high v);
                before = before-old n (2 * n) x _ (omega arith) (omega arith) o s.before;
                past = λ j v. o.past j v ∙ z j v;
              }))

      -- both
      record Rows (n : ℕ) (x : ℕ → ℤ) : Type 0 where
        lines : Lines n
        low : b₀ ≤ n → Is x (2 * n) (deinterleaved W (cols lo (n - b₀)))
        high : (i : ℕ) → i < count hi H → i ≤ n → n ≤ i + a → Is x (2 * i + 1) (deinterleaved W (cols hi i))
        even : (i : ℕ) → i < n → n < i + 2 * a → b₀ ≤ i → Is x (2 * i) (deinterleaved W (G (row (2 * i))))
        past : Past x

      high-tried : (n : ℕ) (x : ℕ → ℤ) → Low n x → Outcome (FitSet n) (Rows n) (high_tried m C.along W H n x)
      unfolding high_tried
      high-tried n x s = go (dec_lt (2 * n + 1) (end_of H))
        where
          go : Dec (2 * n + 1 < end_of H) → Outcome (FitSet n) (Rows n) (pick (ltb (2 * n + 1) (end_of H)) (line_tried m C.along W (2 * n + 1) x) (passed x))
          go (yes u) =
              let o = only-unlifted some C.along W (2 * n + 1) x in
              let v = in-highs n u in
              let t = before-old n (2 * n + 1) x _ (omega arith) (omega arith) o s.before in
              rw (lt-ltb (2 * n + 1) (end_of H) u)
              (line-tried (Rows n) n hi n (2 * n + 1) x (λ h. h.high v) (s.high v) (λ e l. record {
                lines = record { low = s.line; high = λ _. e };
                low = λ b. is-old some W (2 * n + 1) x _ (2 * n) _ o (far (2 * n + 1) (2 * n) (λ y. omega arith) (omega arith) (omega arith)) (s.low b);
                high = λ i b c d. elim (ℕ_discrete i n) [
                  | yes y ↦ rw y l
                  | no y ↦ t.high i (omega (arith, y)) d
                ];
                even = t.even;
                past = λ j b. o.past j b ∙ s.past j b;
              }))
          go (no u) = rw (le-ltb (2 * n + 1) (end_of H) (omega arith)) (goes x (record {
            lines = record { low = s.line; high = λ b. absurd (omega (arith, past-highs n (omega arith))) };
            low = s.low;
            high = λ i b c d. s.before.high i (omega (arith, past-highs n (omega arith))) d;
            even = s.before.even;
            past = s.past;
          }))

      unlifted : (n : ℕ) (x : ℕ → ℤ) → Past x → Needs n x → Outcome (FitSet n) (Rows n) (set_unlifted C W H n x)
      unfolding stretch.set_unlifted
      unlifted n x z s = bind-outcome (low_tried m C.along W H n x) _ (low-tried n x z s) (high-tried n)

      -- ---- the columns: even rows to 2n are rebuilt, of the odd ones those before 2d + 1
      record Held (n d : ℕ) (x : ℕ → ℤ) : Type 0 where
        lines : Lines n
        even : (i : ℕ) → b₀ ≤ i → i ≤ n → n < i + 2 * a → Is x (2 * i) (deinterleaved W (G (row (2 * i))))
        odd : (i : ℕ) → i < count hi H → i < d → n ≤ i + a → Is x (2 * i + 1) (deinterleaved W (G (row (2 * i + 1))))
        high : (i : ℕ) → i < count hi H → d ≤ i → i ≤ n → n ≤ i + a → Is x (2 * i + 1) (deinterleaved W (cols hi i))
        past : Past x

      evened : (n : ℕ) (x : ℕ → ℤ) → 2 * n < end_of H → b₀ ≤ n → Rows n x → Held n (n - a) (C.even k W.length H (2 * n) x)
      evened n x l b s =
          let o = L.only-even k W.length H (2 * n) x in
          record {
            lines = s.lines;
            even = λ i e q r. elim (ℕ_discrete i n) [
              | yes z ↦ rw z (L.even_is k W H p n x l b (s.low b) (λ j c d g. s.high j c d (omega arith)))
              | no z ↦ is-old some W (2 * n) x _ (2 * i) _ o (far (2 * n) (2 * i) (λ y. omega (arith, z)) (omega arith) (omega arith))
                  (s.even i (omega (arith, z)) r e)
            ];
            odd = λ i e q r. absurd (omega arith);
            high = λ i e q r t. is-old some W (2 * n) x _ (2 * i + 1) _ o (far (2 * n) (2 * i + 1) (λ y. omega arith) (omega arith) (omega arith))
                (s.high i e r t);
            past = λ j e. o.past j e ∙ s.past j e;
          }

      even-done : (n : ℕ) (x : ℕ → ℤ) → 2 * n < end_of H → Rows n x → Held n (n - a) (even_done C k W.length H n x)
      unfolding even_done has_low
      even-done n x l s = go (dec_lt n b₀)
        where
          go : Dec (n < b₀) → Held n (n - a) (pick (leb b₀ n) (C.even k W.length H (2 * n) x) x)
          go (yes u) = rw (lt-leb b₀ n u) (record {
            lines = s.lines;
            even = λ i b c d. absurd (omega arith);
            odd = λ i e q r. absurd (omega arith);
            high = λ i e q r t. s.high i e r t;
            past = s.past;
          })
          go (no u) = rw (le-leb b₀ n (omega arith)) (evened n x l (omega arith) s)

      -- ---- an odd row, from even rows
      odd-held : (n i : ℕ) (x : ℕ → ℤ) → Near a H n i → Held n i x → Held n (suc i) (C.odd k W.length H (2 * i + 1) x)
      odd-held n i x g s =
          let o = L.only-odd k W.length H (2 * i + 1) x in
          record {
            lines = s.lines;
            even = λ j b c d. is-old some W (2 * i + 1) x _ (2 * j) _ o
                (far (2 * i + 1) (2 * j) (λ z. omega arith) (omega (arith, g.2)) (omega (arith, g.4))) (s.even j b c d);
            odd = λ j b c d. elim (ℕ_discrete j i) [
              | yes z ↦ rw z (L.odd_is k W H p n i x g (s.high i g.0 (omega arith) g.2 g.4) s.even)
              | no z ↦ is-old some W (2 * i + 1) x _ (2 * j + 1) _ o
                  (far (2 * i + 1) (2 * j + 1) (λ y. omega (arith, z)) (omega (arith, g.2)) (omega arith)) (s.odd j b (omega (arith, z)) d)
            ];
            high = λ j b c d e. is-old some W (2 * i + 1) x _ (2 * j + 1) _ o
                (far (2 * i + 1) (2 * j + 1) (λ y. omega arith) (omega arith) (omega (arith, g.4))) (s.high j b (omega arith) d e);
            past = λ j b. o.past j b ∙ s.past j b;
          }

      -- ---- the rows of a set that have passed the test: those before the one at f
      abbrev Fit : ℕ → ℕ → Type 0
      Fit n f = (r : ℕ) → r < H.length → set_of a H r ≡ n → local H.start r < f → FitRow r

      record Stage (n d f : ℕ) (x : ℕ → ℤ) : Type 0 where
        held : Held n d x
        fit : Fit n f

      -- row r, which set n makes, tested
      tested : (P : (ℕ → ℤ) → Type 0) (n q r : ℕ) (x : ℕ → ℤ) → r < H.length → set_of a H r ≡ n → Is x q (deinterleaved W (G r)) → (FitRow r → P x) →
          Outcome (FitSet n) P (admitted C k W.length q x)
      tested P n q r x b o s f = admit C.fits m k W (FitSet n) P q (G r) x (λ all c u. all.fit r c b o u) s f

      at-row : (q r : ℕ) → local H.start r ≡ q → row q ≡ r
      unfolding local first_set
      at-row q r e = omega arith

      fit-pair : (n f i : ℕ) → Fit n f → ((r : ℕ) → r < H.length → set_of a H r ≡ n → local H.start r < 2 * i + 1 → local H.start r < f) →
          FitRow (row (2 * i + 1)) → FitRow (row (2 * i + 2)) → Fit n (2 * i + 3)
      fit-pair n f i old more first second r b s l = elim (dec_lt (local H.start r) (2 * i + 1)) [
        | yes u ↦ old r b s (more r b s u)
        | no u ↦ elim (ℕ_discrete (local H.start r) (2 * i + 1)) [
          | yes v ↦ subst FitRow (at-row (2 * i + 1) r v) first
          | no v ↦ subst FitRow (at-row (2 * i + 2) r (omega (arith, v))) second
        ]
      ]

      -- the row at 2i + 1, and that at 2i + 2, is made by set n
      made_in : (n i q : ℕ) → 2 * i < q → q ≤ 2 * i + 2 → 2 * n < end_of H → n ≤ i + a → ((n ≡ i + a → ⊥) → end_of H ≤ 2 * n + 2) → set_of a H (row q) ≡ n
      unfolding first_set
      made_in n i q u v = set_pair a one H n (row q) i (omega arith) (omega arith)

      -- two rows made
      twice : (i : ℕ) → 2 * i + 2 ≡ 2 * suc i
      twice i = omega arith

      pair-made : (n f i : ℕ) (x : ℕ → ℤ) → Near a H n i → suc i ≤ n →
          ((r : ℕ) → r < H.length → set_of a H r ≡ n → local H.start r < 2 * i + 1 → local H.start r < f) → Stage n i f x →
          Outcome (FitSet n) (Stage n (suc i) (2 * i + 3)) (pair_made C k W.length H i x)
      unfolding pair_made
      pair-made n f i x g u more s =
          bind-outcome (admitted C k W.length (2 * i + 1) (C.odd k W.length H (2 * i + 1) x)) _
          (tested (λ y. Held n (suc i) y × FitRow (row (2 * i + 1))) n (2 * i + 1) (row (2 * i + 1)) _
          (row_in (2 * i + 1) (omega (arith, g.3)) (omega (arith, few))) (made_in n i (2 * i + 1) (omega arith) (omega arith) g.3 g.4 g.5)
          (h.odd i g.0 (omega arith) g.4) (λ t. (h, t)))
          (λ y e. tested (Stage n (suc i) (2 * i + 3)) n (2 * i + 2) (row (2 * i + 2)) y
          (row_in (2 * i + 2) (omega (arith, g.3)) (omega (arith, few)))
          (made_in n i (2 * i + 2) (omega arith) (omega arith) g.3 g.4 g.5)
          (rw twice (e.0.even (suc i) (omega (arith, few)) u (omega (arith, g.4))))
          (λ t. record { held = e.0; fit = fit-pair n f i s.fit more e.1 t }))
        where
          h : Held n (suc i) (C.odd k W.length H (2 * i + 1) x)
          h = odd-held n i x g s.held

      -- ---- the first row
      -- an even row that its own set makes
      own-low : (n : ℕ) → own_even H n ≡ true → b₀ ≤ n
      unfolding own_even has_low
      own-low n e = leb-true b₀ n (both_hold (leb b₀ n) _ e).0

      own-set : (n : ℕ) → own_even H n ≡ true → set_of a H (row (2 * n)) ≡ n
      unfolding own_even has_low first_set
      own-set n e =
          let t = both_hold (leb b₀ n) _ e in
          let u = leb-true b₀ n t.0 in
          let v = ltb-true n _ t.1 in
          ap (set_of a H) (omega arith) ∙ set-start a H n (omega arith)

      own-there : (n : ℕ) → H.start % 2 + n ≡ 0 → own_even H n ≡ true
      unfolding own_even has_low first_set
      own-there n e = let z : n ≡ 0 = omega arith in rw z (rw (le-leb (H.start % 2) 0 (omega arith)) refl)

      first-made : (n : ℕ) (x : ℕ → ℤ) → 2 * n < end_of H → Held n (n - a) x → Outcome (FitSet n) (Stage n (n - a) 1) (first_made C k W.length H n x)
      unfolding first_made
      first-made n x l s = go (own_even H n) refl
        where
          go : (t : Bool) → own_even H n ≡ t → Outcome (FitSet n) (Stage n (n - a) 1) (pick t (admitted C k W.length (2 * n) x) (passed x))
          go true e =
              let b = own-low n e in
              tested (Stage n (n - a) 1) n (2 * n) (row (2 * n)) x (row_in (2 * n) l (omega arith)) (own-set n e)
              (s.even n b (omega arith) (omega arith)) (λ t. record {
                held = s;
                fit = λ r _ q u. let z = set_first a one H n r q u in subst FitRow (at-row (2 * n) r (omega arith)) t;
              })
          go false e = goes x (record { held = s; fit = λ r b q u. absurd (not-false (own_even H n) (own-there n (set_first a one H n r q u).0) e) })

      -- ---- the pair of j sets before
      stage_is : (n d e f g : ℕ) (x : ℕ → ℤ) → d ≡ e → g ≤ f → Stage n d f x → Stage n e g x
      stage_is n d e f g x z b s = record { held = subst (λ (i : ℕ). Held n i x) z s.held; fit = λ r u q v. s.fit r u q (omega arith) }

      weaken : {N : Type 0} {P Q : (ℕ → ℤ) → Type 0} (t : Tried) → ((y : ℕ → ℤ) → P y → Q y) → Outcome N P t → Outcome N Q t
      weaken _ f (stops n) = stops n
      weaken _ f (goes y q) = goes y (f y q)

      near_before : (n j : ℕ) → 2 * n < end_of H → 0 < j → j ≤ n → j ≤ a → ((j ≡ a → ⊥) → end_of H ≤ 2 * n + 2) → Near a H n (pair_of n j)
      unfolding end_of count pair_of
      near_before n j l u v w f = (omega arith, omega arith, omega arith, l, omega arith, λ z. f (λ q. z (omega (arith, q))))

      before-made : (n j f : ℕ) (x : ℕ → ℤ) → 2 * n < end_of H → 0 < j → j ≤ a → ((j ≡ a → ⊥) → end_of H ≤ 2 * n + 2) → 1 ≤ f →
          ((r : ℕ) → r < H.length → set_of a H r ≡ n → j ≤ n → local H.start r < 2 * pair_of n j + 1 → local H.start r < f) → Stage n (pair_of n j) f x →
          Outcome (FitSet n) (Stage n (n + 1 - j) (suc (2 * n + 2 - 2 * j))) (pair_before C j k W.length H n x)
      unfolding pair_before pair_of
      before-made n j f x l u v last low more s = go (dec_lt n j)
        where
          go : Dec (n < j) → Outcome (FitSet n) (Stage n (n + 1 - j) (suc (2 * n + 2 - 2 * j)))
              (pick (ltb n j) (passed x) (pair_made C k W.length H (pair_of n j) x))
          go (yes w) = rw (lt-ltb n j w) (goes x (stage_is n (pair_of n j) (n + 1 - j) f (suc (2 * n + 2 - 2 * j)) x (omega arith) (omega arith) s))
          go (no w) = rw (le-ltb n j (omega arith))
              (weaken _ (λ y t. stage_is n (suc (pair_of n j)) (n + 1 - j) (2 * pair_of n j + 3) (suc (2 * n + 2 - 2 * j)) y (omega arith) (omega arith) t)
              (pair-made n f (pair_of n j) x (near_before n j l u (omega arith) v last) (omega arith) (λ r b q z. more r b q (omega arith) z) s))

      earlier-made : (n : ℕ) (x : ℕ → ℤ) → 2 * n < end_of H → Stage n (n - a) 1 x →
          Outcome (FitSet n) (Stage n (n + 1 - a) (suc (2 * n + 2 - 2 * a))) (earlier_made C k W.length H n x)
      unfolding pair_of
      earlier-made n x l s =
          before-made n a 1 x l (omega arith) (omega arith) (λ z. absurd (z refl)) (omega arith)
          (λ r b q u z. let w = set-low a one H n r b q in absurd (omega arith)) s

      most-made : (n : ℕ) (x : ℕ → ℤ) → 2 * n < end_of H → Held n (n - a) x →
          Outcome (FitSet n) (Stage n (n + 1 - a) (suc (2 * n + 2 - 2 * a))) (most_made C k W.length H n x)
      unfolding most_made
      most-made n x l s = bind-outcome (first_made C k W.length H n x) _ (first-made n x l s) (λ y t. earlier-made n y l t)

      -- ---- all that is left
      pairs-made : (j n : ℕ) (x : ℕ → ℤ) → 2 * n < end_of H → end_of H ≤ 2 * n + 2 → suc j ≤ a → Stage n (n - j) (suc (2 * n - 2 * j)) x →
          Outcome (FitSet n) (Stage n n (2 * n + 1)) (pairs_made C j k W.length H n x)
      unfolding pairs_made pair_of
      pairs-made zero n x l e v s = goes x (stage_is n (n - 0) n (suc (2 * n - 2 * 0)) (2 * n + 1) x (omega arith) (omega arith) s)
      pairs-made (suc j) n x l e v s =
          bind-outcome (pair_before C (suc j) k W.length H n x) _
          (before-made n (suc j) (suc (2 * n - 2 * suc j)) x l (omega arith) (omega arith) (λ _. e) (omega arith) (λ r b q u z. omega arith) s)
          (λ y t. pairs-made j n y l e (omega arith)
          (stage_is n (n + 1 - suc j) (n - j) (suc (2 * n + 2 - 2 * suc j)) (suc (2 * n - 2 * j)) y (omega arith) (omega arith) t))

      abbrev pub Worked : ℕ → (ℕ → ℤ) → Type 0
      Worked n y = SetLeaves C k W H p n y × Past y

      own-made : (n : ℕ) (x : ℕ → ℤ) → 2 * n < end_of H → end_of H ≤ 2 * n + 2 → Stage n (n + 1 - a) (suc (2 * n + 2 - 2 * a)) x →
          Outcome (FitSet n) (Stage n n (2 * n + 1)) (own_made C k W.length H n x)
      own-made n x l e s =
          pairs-made (a - 1) n x l e (omega arith)
          (stage_is n (n + 1 - a) (n - (a - 1)) (suc (2 * n + 2 - 2 * a)) (suc (2 * n - 2 * (a - 1))) x (omega arith) (omega arith) s)

      -- where the rows of the set stand
      halved : (q : ℕ) → q % 2 ≡ 0 → q ≡ 2 * (q / 2)
      halved q e = omega arith

      odd-halved : (q : ℕ) → (q % 2 ≡ 0 → ⊥) → q ≡ 2 * (q / 2) + 1
      odd-halved q e = omega (arith, e)

      local-in : (r : ℕ) → r < H.length → (local H.start r < end_of H) × (b₀ ≤ local H.start r)
      unfolding local end_of first_set
      local-in r b = (omega arith, omega arith)

      even-set : (q i : ℕ) → q ≡ 2 * i → b₀ ≤ q → b₀ ≤ i
      unfolding first_set
      even-set q i e b = omega arith

      made-by : (n d : ℕ) (x : ℕ → ℤ) → Held n d x → (r : ℕ) → r < H.length → 2 * n < local H.start r + 2 * a → local H.start r < 2 * d + 1 →
          local H.start r ≤ 2 * n + 1 → Is x (local H.start r) (deinterleaved W (G r))
      made-by n d x s r b l u v = go (ℕ_discrete (q % 2) 0)
        where
          q : ℕ
          q = local H.start r

          go : Dec (q % 2 ≡ 0) → Is x q (deinterleaved W (G r))
          go (yes e) =
              let i = q / 2 in
              let z = halved q e in
              let w = even-set q i z (local-in r b).1 in
              subst (λ (j : ℕ). Is x j (deinterleaved W (G r))) (sym z)
              (subst (λ (j : ℕ). Is x (2 * i) (deinterleaved W (G j))) (at-row (2 * i) r z) (s.even i w (omega arith) (omega arith)))
          go (no e) =
              let i = q / 2 in
              let z = odd-halved q e in
              let c = in-highs i (omega (arith, (local-in r b).0)) in
              subst (λ (j : ℕ). Is x j (deinterleaved W (G r))) (sym z)
              (subst (λ (j : ℕ). Is x (2 * i + 1) (deinterleaved W (G j))) (at-row (2 * i + 1) r z) (s.odd i c (omega arith) (omega arith)))

      -- the columns are lines' where there is more than an only row at an odd coordinate
      has_of : (n : ℕ) → Lines n → ((c : ℕ) → c < W.length → has_line H (λ h i. cols h i c) ≡ true) → SetHas n
      has_of n s f = record { low = s.low; high = s.high; columns = λ r b q c v. f c v }

      no_more : (n : ℕ) → end_of H ≤ 2 * n + 2 → suc n ≤ last_set H → 0 < H.length → ⊥
      unfolding end_of last_set
      no_more n e l g = omega arith

      -- the last set, its rows made to the end
      last-leaves : (n : ℕ) (x : ℕ → ℤ) → 0 < H.length → end_of H ≤ 2 * n + 2 → Stage n (suc n) (2 * n + 2) x →
          ((c : ℕ) → c < W.length → has_line H (λ h i. cols h i c) ≡ true) → Worked n x
      last-leaves n x g e s f = (
        record {
          made = λ r b q. made-by n (suc n) x s.held r b (set-low a one H n r b q) (omega (arith, (local-in r b).0)) (omega (arith, (local-in r b).0));
          fit = λ r b q. s.fit r b q (omega (arith, (local-in r b).0));
          more = λ l. absurd (no_more n e l g);
          has = has_of n s.held.lines f;
        },
        s.held.past,
      )

      -- a row beside others
      fit-last : (n : ℕ) → Fit n (2 * n + 1) → FitRow (row (2 * n + 1)) → Fit n (2 * n + 2)
      fit-last n old new r b s l = elim (dec_lt (local H.start r) (2 * n + 1)) [
        | yes u ↦ old r b s u
        | no u ↦ subst FitRow (at-row (2 * n + 1) r (omega arith)) new
      ]

      last-by : (n : ℕ) → 2 * n + 1 < end_of H → end_of H ≤ 2 * n + 2 → set_of a H (row (2 * n + 1)) ≡ n
      last-by n l e = made_in n n (2 * n + 1) (omega arith) (omega arith) (omega arith) (omega arith) (λ _. e)

      beside-made : (n : ℕ) (x : ℕ → ℤ) → 0 < H.length → 2 * n + 1 < end_of H → end_of H ≤ 2 * n + 2 → single_high H ≡ false → Stage n n (2 * n + 1) x →
          Outcome (FitSet n) (Worked n) (admitted C k W.length (2 * n + 1) (C.odd k W.length H (2 * n + 1) x))
      unfolding end_of
      beside-made n x g l e f s =
          tested (Worked n) n (2 * n + 1) (row (2 * n + 1)) _ (row_in (2 * n + 1) l (omega (arith, few))) (last-by n l e)
          (h.odd n (in-highs n l) (omega arith) (omega arith))
          (λ t. last-leaves n _ g e (record { held = h; fit = fit-last n s.fit t }) (λ c _. has_other H _ f))
        where
          near : Near a H n n
          near = (in-highs n l, others H n l f, omega arith, omega arith, omega arith, λ _. e)

          h : Held n (suc n) (C.odd k W.length H (2 * n + 1) x)
          h = odd-held n n x near s.held

      -- an only row, at an odd coordinate
      only-first : (n : ℕ) → 2 * n + 1 < end_of H → H.length ≡ 1 → n ≡ 0
      unfolding end_of
      only-first n l e = omega arith

      single-made : (n : ℕ) (x : ℕ → ℤ) → 0 < H.length → 2 * n + 1 < end_of H → end_of H ≤ 2 * n + 2 → single_high H ≡ true → Stage n n (2 * n + 1) x →
          Outcome (FitSet n) (Worked n) (single_made C k W.length (2 * n + 1) x)
      unfolding stretch.single_made row_is_even
      single-made n x g l e f s = go (row_is_even m W.length (2 * n + 1) x) refl
        where
          y : ℕ → ℤ
          y = row_halved m W.length (2 * n + 1) x

          only : H.length ≡ 1
          only = (single-high H f).0

          first : n ≡ 0
          first = only-first n l only

          high : Is x (2 * n + 1) (deinterleaved W (cols hi n))
          high = s.held.high n (in-highs n l) (omega arith) (omega arith) (omega arith)

          o : Only m W.length (2 * n + 1) x y
          o = only-halved some W (2 * n + 1) x

          last : Is y (2 * n + 1) (deinterleaved W (G (row (2 * n + 1))))
          last h i b =
              halved_is some W (2 * n + 1) x _ high h i b
              ∙ by_row (λ v. shr_z v 2) (cols hi n) (G (row (2 * n + 1))) (λ c _. L.single-is k W H p n c (omega (arith, only)) f) h i b

          column : (c : ℕ) → has_line H (λ h i. cols h i c) ≡ is_even (cols hi n c)
          column c = has-single H _ f ∙ ap (λ (i : ℕ). is_even (cols hi i c)) (sym first)

          held : Held n (suc n) y
          held = record {
            lines = s.held.lines;
            even = λ i b c d. is-old some W (2 * n + 1) x y (2 * i) _ o (far (2 * n + 1) (2 * i) (λ z. omega arith) (omega arith) (omega arith))
                (s.held.even i b c d);
            odd = λ i b c d. let z : i ≡ n = omega (arith, first) in rw z last;
            high = λ i b c d _. absurd (omega arith);
            past = λ j b. o.past j b ∙ s.held.past j b;
          }

          go : (t : Bool) → row_is_even m W.length (2 * n + 1) x ≡ t →
              Outcome (FitSet n) (Worked n) (pick t (admitted C k W.length (2 * n + 1) y) failed)
          go true even =
              tested (Worked n) n (2 * n + 1) (row (2 * n + 1)) y (row_in (2 * n + 1) l (omega (arith, few))) (last-by n l e) last
              (λ t. last-leaves n y g e (record { held = held; fit = fit-last n s.fit t })
              (λ c v. column c ∙ each_stands m W is_even (2 * n + 1) x (cols hi n) high (every-each W.length _ even) c v))
          go false odd = stops (λ all. not-false (row_is_even m W.length (2 * n + 1) x)
              (each-every W.length _ (stands-each m W is_even (2 * n + 1) x (cols hi n) high (λ c v.
              sym (column c) ∙ all.has.columns (row (2 * n + 1)) (row_in (2 * n + 1) l (omega (arith, few))) (last-by n l e) c v))) odd)

      -- no last row: the level ends with an even one
      no-single : (n : ℕ) → end_of H ≤ 2 * n + 1 → 2 * n < end_of H → single_high H ≡ true → ⊥
      unfolding end_of count
      no-single n e l f = let t = single-high H f in omega (arith, t.0, t.2)

      none_made : (n : ℕ) (x : ℕ → ℤ) → Held n n x → end_of H ≤ 2 * n + 1 → Held n (suc n) x
      none_made n x s e = record {
        lines = s.lines;
        even = s.even;
        odd = λ i b c d. s.odd i b (omega (arith, past-highs n e)) d;
        high = λ i b c d z. absurd (omega arith);
        past = s.past;
      }

      last-made : (n : ℕ) (x : ℕ → ℤ) → 0 < H.length → 2 * n < end_of H → end_of H ≤ 2 * n + 2 → Stage n n (2 * n + 1) x →
          Outcome (FitSet n) (Worked n) (last_made C k W.length H n x)
      unfolding last_made
      last-made n x g l e s = go (dec_lt (2 * n + 1) (end_of H))
        where
          single : (t : Bool) → single_high H ≡ t → 2 * n + 1 < end_of H → Outcome (FitSet n) (Worked n)
              (pick t (single_made C k W.length (2 * n + 1) x) (admitted C k W.length (2 * n + 1) (C.odd k W.length H (2 * n + 1) x)))
          single true f u = single-made n x g u e f s
          single false f u = beside-made n x g u e f s

          none : (t : Bool) → single_high H ≡ t → end_of H ≤ 2 * n + 1 → (c : ℕ) → c < W.length → has_line H (λ h i. cols h i c) ≡ true
          none true f u c b = absurd (no-single n u l f)
          none false f u c b = has_other H _ f

          go : Dec (2 * n + 1 < end_of H) → Outcome (FitSet n) (Worked n)
              (pick (ltb (2 * n + 1) (end_of H))
              (pick (single_high H) (single_made C k W.length (2 * n + 1) x) (admitted C k W.length (2 * n + 1) (C.odd k W.length H (2 * n + 1) x)))
              (passed x))
          go (yes u) = rw (lt-ltb (2 * n + 1) (end_of H) u) (single (single_high H) refl u)
          go (no u) = rw (le-ltb (2 * n + 1) (end_of H) (omega arith)) (goes x (last-leaves n x g e (record {
            held = none_made n x s.held (omega arith);
            fit = λ r b q v. s.fit r b q (omega (arith, (local-in r b).0));
          }) (none (single_high H) refl (omega arith))))

      -- a set that is not the last
      not-only : (n : ℕ) → 2 * n + 2 < end_of H → single_high H ≡ true → ⊥
      unfolding end_of count
      not-only n l f = let t = single-high H f in omega (arith, t.0, t.2)

      not_last : (n : ℕ) → 2 * n + 2 < end_of H → suc n ≤ last_set H
      unfolding end_of last_set
      not_last n l = omega arith

      inner-leaves : (n : ℕ) (x : ℕ → ℤ) → 2 * n + 2 < end_of H → Stage n (n + 1 - a) (suc (2 * n + 2 - 2 * a)) x → Worked n x
      inner-leaves n x l s = (
        record {
          made = λ r b q. let t = set-high a one H n r b q (not_last n l) in
              made-by n (n + 1 - a) x s.held r b (set-low a one H n r b q) (omega arith) (omega arith);
          fit = λ r b q. s.fit r b q (set-high a one H n r b q (not_last n l));
          more = λ _. record {
            even = λ i u v c. s.held.even i c (omega arith) (omega arith);
            high = λ i u v. s.held.high i (in-highs i (omega arith)) (omega arith) (omega arith) (omega arith);
          };
          has = has_of n s.held.lines (λ c _. has (single_high H) refl c);
        },
        s.held.past,
      )
        where
          has : (t : Bool) → single_high H ≡ t → (c : ℕ) → has_line H (λ h i. cols h i c) ≡ true
          has true f c = absurd (not-only n l f)
          has false f c = has_other H _ f

      rest-made : (n : ℕ) (x : ℕ → ℤ) → 0 < H.length → 2 * n < end_of H → Stage n (n + 1 - a) (suc (2 * n + 2 - 2 * a)) x →
          Outcome (FitSet n) (Worked n) (rest_made C k W.length H n x)
      unfolding rest_made
      rest-made n x g l s = go (dec_lt (2 * n + 2) (end_of H))
        where
          go : Dec (2 * n + 2 < end_of H) → Outcome (FitSet n) (Worked n)
              (pick (leb (end_of H) (2 * n + 2)) (bind (own_made C k W.length H n x) (last_made C k W.length H n)) (passed x))
          go (yes u) = rw (lt-leb (end_of H) (2 * n + 2) u) (goes x (inner-leaves n x u s))
          go (no u) = rw (le-leb (end_of H) (2 * n + 2) (omega arith))
              (bind-outcome (own_made C k W.length H n x) _ (own-made n x l (omega arith) s) (λ y t. last-made n y g l (omega arith) t))

      -- ---- a set worked out makes rows of the way back
      rows-made : (n : ℕ) (x : ℕ → ℤ) → 0 < H.length → 2 * n < end_of H → Held n (n - a) x →
          Outcome (FitSet n) (Worked n) (rows_made C k W.length H n x)
      unfolding rows_made
      rows-made n x g l s = bind-outcome (most_made C k W.length H n x) _ (most-made n x l s) (λ y t. rest-made n y g l t)

      pub set-made : (n : ℕ) (x : ℕ → ℤ) → 0 < H.length → 2 * n < end_of H → Past x → Needs n x → Outcome (FitSet n) (Worked n) (set_made C k W H n x)
      unfolding set_made
      set-made n x g l z s = bind-outcome (set_unlifted C W H n x) _ (unlifted n x z s) (λ y r. rows-made n _ g l (even-done n y l r))
