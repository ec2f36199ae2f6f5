-- What the reader's demand 3 says of 14 (FeedFits, SetsFit) is what 01's sentence says. Assumes nothing.
use mathlib.Core.Path.{◌≡◌, refl, sym, ap, ◌∙◌, subst}
use mathlib.Core.Logic.{◌↔◌, ◌⊎◌, inl, inr, ⊎_elim}
use mathlib.Core.Bool.{Bool, true, false, not}
use mathlib.Core.List.{List, [], ◌∷◌}
use Prim.Native.Nat.{ℕ, zero, suc, ◌+◌, ◌-◌, ◌*◌, ◌/◌, ◌%◌, ◌≤◌, ◌<◌}
use native.Mathlib.Decide.{ℕ_discrete}
use native.Mathlib.Omega.{arith}
use lib.Dec.{leb, ltb, eqb}
use borrow.Author.Tests.{lt-ltb, ltb-true, le-leb, leb-true, eq-eqb, ne_eqb}
use Rattle.numbers.specs.Signal.{both}
use Rattle.lifting.specs.Line.{Half, lo, hi}
use Rattle.lifting.specs.Grid.{Side}
use Rattle.wavelet.specs.Bands.{Band, down}
use Rattle.wavelet.specs.Levels.{next, side_at}
use Rattle.wavelet.specs.Order.{RowName, row_name, first_set}
use Rattle.wavelet.specs.Order as order
use Rattle.wavelet.specs.Steps.{Step, feed, draw, set_to, set_of}
use Rattle.wavelet.proofs.OrderLaws.{last-set, first-low, low-sets}
use Rattle.wavelet.proofs.SideLaws.{count-lo, next-length, size-falls}
use Rattle.wavelet.proofs.StepLaws.{to-later, set-of, set_there}
use Rattle.reader_steps.specs.Sets.{ahead, has_row, row_of, needed}
use Rattle.reader_steps.specs.Places.{has_cells}
use Rattle.reader_steps.proofs.OpenedSets.{needed-from, needed-next}
use Rattle.reader.specs.Rebuilt.{Rows}
use Rattle.reader.specs.Demand3.{goes_on_set, set_number}
use Rattle.standard.specs.Line.{Interval, over, half_of}
use Rattle.standard.specs.Transform.{level_of, size}
use Rattle.standard.specs.WriterOrder.{waiting}
use Rattle.standard.specs.ReaderSteps.{made_with}
use Rattle.standard.specs.Fourteen.{needed_set, set_of_row, completes, Some, Unfed, Fed, NeededFit, FeedDue, FeedPast, DrawDue, DrawPast}
use Rattle.standard.proofs.LevelTheorems.{level-over, length-is}
use Rattle.standard.proofs.OrderTheorems.{ahead-some}
use Rattle.standard.proofs.StepTheorems.{made-is, row-of}
use Rattle.standard.proofs.UnfedSets.{no-list}
use Rattle.standard.proofs.ReaderWords.{SetFits, SetsFit, FeedFits}

-- ---- a set that makes a row has an LL row, where the next level has rows
takes-row : (f : ℕ) (S : Side) (r : ℕ) → 0 < (next S).length → S.start % 2 ≤ set_of (ahead f) S r
takes-row f S r b = go (S.start % 2 + r) refl
  where
    go : (q : ℕ) → S.start % 2 + r ≡ q → S.start % 2 ≤ set_of (ahead f) S r
    go zero z = omega arith
    go (suc q) z =
        let t : set_to (ahead f) (S.start % 2 + r) ≡ q / 2 + ahead f = ap (set_to (ahead f)) z ∙ to-later (ahead f) q in
        let a = ahead-some f in
        let l : 0 < S.length = omega (arith, next-length S, count-lo S) in
        omega (arith, set-of (ahead f) S r, last-set S, low-sets S l, first-low S, next-length S)

-- ---- the sets needed are those of the reader
module _ (f : ℕ) (H : Side) where
  made_at : (k r : ℕ) → r < (side_at k H).length
      → made_with f (level_of k (over H)) ((side_at k H).start + r) ≡ (side_at k H).start / 2 + set_of (ahead f) (side_at k H) r
  made_at k r b = ap (λ (I : Interval). made_with f I ((side_at k H).start + r)) (sym (level-over k H)) ∙ made-is f (side_at k H) r b

  -- one level further
  made-next : (i n : ℕ) → 0 < (side_at (suc i) H).length → (side_at i H).start % 2 ≤ n → n ≤ order.last_set (side_at i H)
      → made_with f (level_of (suc i) (over H)) ((side_at i H).start / 2 + n) ≡ (side_at (suc i) H).start / 2 + set_of (ahead f) (side_at (suc i) H) (row_of H (suc i) n)
  unfolding row_of side_at first_set
  made-next i n b c d =
      let l : 0 < (side_at i H).length = omega (arith, next-length (side_at i H), size-falls i H) in
      ap (made_with f (level_of (suc i) (over H))) (sym (row-of (side_at i H) n c))
      ∙ made_at (suc i) (n - (side_at i H).start % 2) (omega (arith, low-sets (side_at i H) l, first-low (side_at i H), next-length (side_at i H)))

  -- and are sets of their level, with an LL row where the next level has rows
  pub needed-set : (k m j : ℕ) → (0 < (side_at (suc (k + j)) H).length → (side_at (k + j) H).start % 2 ≤ needed f H k m (suc (k + j)))
      × (needed f H k m (suc (k + j)) ≤ order.last_set (side_at (k + j) H))
  unfolding side_at
  needed-set k m j =
      let e = needed-next f H k m (k + j) (omega arith) in
      (λ b. rw e (takes-row f (side_at (k + j) H) _ b), rw e (set_there (ahead f) (side_at (k + j) H) _))

  pub needed-is : (k m : ℕ) → row_of H k m < (side_at k H).length → (j : ℕ) → 0 < (side_at (k + j) H).length
      → needed_set f (over H) k ((side_at k H).start + row_of H k m) j ≡ (side_at (k + j) H).start / 2 + needed f H k m (suc (k + j))
  unfolding needed_set
  needed-is k m b zero c =
      let e : k + 0 ≡ k = omega arith in
      rw e (made_at k (row_of H k m) b ∙ ap (λ (n : ℕ). (side_at k H).start / 2 + n) (sym (needed-from f H k m)))
  needed-is k m b (suc j) c =
      let e : k + suc j ≡ suc (k + j) = omega arith in
      let n = needed f H k m (suc (k + j)) in
      let some : 0 < (side_at (suc (k + j)) H).length = rw e at c in
      let fall = size-falls (k + j) H in
      let is = needed-set k m j in
      rw e
      (ap (made_with f (level_of (suc (k + j)) (over H))) (needed-is k m b j (omega arith))
      ∙ made-next (k + j) n some (is.0 some) is.1
      ∙ ap (λ (i : ℕ). (side_at (suc (k + j)) H).start / 2 + i) (sym (needed-next f H k m (suc (k + j)) (omega arith))))

-- ---- what is due
empty-or-not : {A : Type 0} (l : List A) → (l ≡ []) ⊎ (l ≡ [] → ⊥)
empty-or-not [] = inl refl
empty-or-not (x ∷ l) = inr (λ e. no-list x l e)

both_true : (a b : Bool) → both a b ≡ true → (a ≡ true) × (b ≡ true)
both_true true b e = (refl, e)
both_true false b e = absurd (let z : ◌≡◌ {A = ℕ} 0 1 = cc in omega arith)

module _ (f : ℕ) (W H : Side) (L : ℕ) (P : Rows) where
  -- set n of level k + 1 fits: the sets of the grid are counted from the level's first
  abbrev pub Fits : ℕ → ℕ → Type 0
  Fits k n = SetFits f W H L P k (n - (side_at k H).start / 2)

  cells : (k : ℕ) → Some f (over W) (over H) L k → has_cells (side_at k W) (side_at k H) ≡ true
  unfolding has_cells
  cells k s =
      let a = length-is k W in
      let b = length-is k H in
      rw (lt-ltb 0 (side_at k W).length (omega arith), lt-ltb 0 (side_at k H).length (omega arith)) refl

  some : (k : ℕ) → has_cells (side_at k W) (side_at k H) ≡ true → Some f (over W) (over H) L k
  unfolding has_cells
  some k e =
      let t = both_true _ _ e in
      let a = length-is k W in
      let b = length-is k H in
      let p = ltb-true 0 (side_at k W).length t.0 in
      let q = ltb-true 0 (side_at k H).length t.1 in
      (omega arith, omega arith)

  module _ (k m : ℕ) (b : row_of H k m < (side_at k H).length) where
    abbrev row : ℕ
    row = (side_at k H).start + row_of H k m

    set_at : (j : ℕ) → 0 < (side_at (k + j) H).length → needed_set f (over H) k row j - (side_at (k + j) H).start / 2 ≡ needed f H k m (suc (k + j))
    set_at j c = let e = needed-is f H k m b j c in omega arith

    of-kind : (Kind : ℕ → ℕ → Type 0) → SetsFit f W H L P k m → NeededFit f (over W) (over H) L Fits k row Kind
    of-kind Kind s = record {
      fit = λ j l c _.
          let e = length-is (k + j) H in
          subst (SetFits f W H L P (k + j)) (sym (set_at j (omega arith))) (s.fit (k + j) (omega arith) l (cells (k + j) c));
    }

    all_kinds : NeededFit f (over W) (over H) L Fits k row (Unfed f (over W) (over H) L)
        → NeededFit f (over W) (over H) L Fits k row (Fed f (over W) (over H) L)
        → SetsFit f W H L P k m
    all_kinds u v = record {
      fit = λ i h l c.
          let e : k + (i - k) ≡ i = omega arith in
          subst (λ (n : ℕ). n < L → has_cells (side_at n W) (side_at n H) ≡ true → SetFits f W H L P n (needed f H k m (suc n))) e (at (i - k)) l c;
    }
      where
        at : (j : ℕ) → k + j < L → has_cells (side_at (k + j) W) (side_at (k + j) H) ≡ true → SetFits f W H L P (k + j) (needed f H k m (suc (k + j)))
        at j l c =
            let s = some (k + j) c in
            let e = length-is (k + j) H in
            subst (SetFits f W H L P (k + j)) (set_at j (omega arith))
            (⊎_elim (λ x. u.fit j l s x) (λ x. v.fit j l s x)
            (empty-or-not (waiting (L - suc (k + j)) (suc (k + j)) (level_of (k + j) (over W)) (level_of (k + j) (over H)) (needed_set f (over H) k row j))))

  -- a draw of height row r
  pub draw-due : (r : ℕ) → r < H.length
      → SetsFit f W H L P 0 r ↔ (DrawDue f (over W) (over H) L Fits (H.start + r) × DrawPast f (over W) (over H) L Fits (H.start + r))
  unfolding row_of side_at
  draw-due r b = (
    λ s. (of-kind 0 r b (Unfed f (over W) (over H) L) s, of-kind 0 r b (Fed f (over W) (over H) L) s),
    λ s. all_kinds 0 r b s.0 s.1,
  )

-- ---- the set of a fed row, and whether the row completes it
first-half : (S : Side) (h : Half) → (half_of h (over S)).i0 ≡ S.start / 2 + first_set S h
unfolding half_of first_set
first-half S lo = omega arith
first-half S hi = omega arith

module _ (H : Side) where
  pub set-row : (x : RowName) → set_of_row (over H) x ≡ (side_at (x.level - 1) H).start / 2 + set_number H x
  unfolding set_of_row set_number
  set-row x =
      let h = down x.band in
      let e = ap (λ (I : Interval). (half_of h I).i0) (sym (level-over (x.level - 1) H)) ∙ first-half (side_at (x.level - 1) H) h in
      omega arith

  same_set : (x y : RowName) → y.level ≡ x.level → eqb (set_of_row (over H) y) (set_of_row (over H) x) ≡ eqb (set_number H y) (set_number H x)
  same_set x y l =
      let a = set-row x in
      let b = set-row y in
      let c = ap (λ (k : ℕ). (side_at (k - 1) H).start / 2) l in
      elim (ℕ_discrete (set_number H y) (set_number H x)) [
        | yes e ↦ eq-eqb (set_of_row (over H) y) (set_of_row (over H) x) (omega arith) ∙ sym (eq-eqb _ _ e)
        | no d ↦ ne_eqb (set_of_row (over H) y) (set_of_row (over H) x) (λ z. d (omega arith)) ∙ sym (ne_eqb _ _ d)
      ]

  pub completes-is : (x : RowName) (t : List Step) → completes (over H) x t ≡ not (goes_on_set H x t)
  unfolding completes goes_on_set
  completes-is x [] = refl
  completes-is x (draw r ∷ t) = refl
  completes-is x (feed y ∷ t) =
      elim (ℕ_discrete y.level x.level) [
        | yes e ↦ ap (λ (b : Bool). not (both (eqb y.level x.level) b)) (same_set x y e)
        | no d ↦ rw (ne_eqb y.level x.level d) refl
      ]

-- ---- a feed of a row x of level k + 1, with the steps t after it
not-false : (b c : Bool) → c ≡ not b → (b ≡ false → c ≡ true) × (c ≡ true → b ≡ false)
not-false true c e = (λ d. absurd (let z : ◌≡◌ {A = ℕ} 0 1 = cc in omega arith), λ d. absurd (let z : ◌≡◌ {A = ℕ} 0 1 = cc in omega arith))
not-false false c e = (λ _. e, λ _. refl)

module _ (f : ℕ) (W H : Side) (L : ℕ) (P : Rows) (k : ℕ) (b : Band) (r : ℕ) (t : List Step) (some : 0 < (side_at k H).length) where
  abbrev x : RowName
  x = row_name (suc k) b r

  abbrev m : ℕ
  m = set_number H x

  abbrev n : ℕ
  n = set_of_row (over H) x

  back_one : suc k - 1 ≡ k
  back_one = omega arith

  set_is : n ≡ (side_at k H).start / 2 + m
  set_is = set-row H x ∙ ap (λ (i : ℕ). (side_at i H).start / 2 + m) back_one

  starts : (level_of k (over H)).i0 ≡ (side_at k H).start
  starts = ap (λ (I : Interval). I.i0) (sym (level-over k H))

  -- its set has an LL row
  has : (level_of k (over H)).i0 ≤ 2 * n → has_row H (suc k) m ≡ true
  unfolding has_row first_set
  has h = let e = set_is in let d = starts in le-leb ((side_at k H).start % 2) m (omega arith)

  had : has_row H (suc k) m ≡ true → (level_of k (over H)).i0 ≤ 2 * n
  unfolding has_row first_set
  had h = let e = set_is in let d = starts in let l = leb-true ((side_at k H).start % 2) m h in omega arith

  row_is : (level_of k (over H)).i0 ≤ 2 * n → (side_at (suc k) H).start + row_of H (suc k) m ≡ n
  unfolding row_of side_at first_set
  row_is h = let e = set_is in let d = starts in row-of (side_at k H) m (omega arith) ∙ sym set_is

  module _ (c : m ≤ order.last_set (side_at k H)) where
    there : has_row H (suc k) m ≡ true → row_of H (suc k) m < (side_at (suc k) H).length
    unfolding row_of side_at first_set has_row
    there h =
        let l = leb-true ((side_at k H).start % 2) m h in
        omega (arith, low-sets (side_at k H) some, first-low (side_at k H), next-length (side_at k H))

    above : (Kind : ℕ → ℕ → Type 0) → FeedFits f W H L P x t → (level_of k (over H)).i0 ≤ 2 * n
        → NeededFit f (over W) (over H) L (Fits f W H L P) (suc k) n Kind
    above Kind s h =
        subst (λ (v : ℕ). NeededFit f (over W) (over H) L (Fits f W H L P) (suc k) v Kind) (row_is h)
        (of-kind f W H L P (suc k) m (there (has h)) Kind (s.above (has h)))

    whose : FeedFits f W H L P x t → completes (over H) x t ≡ true → Fits f W H L P k n
    whose s e =
        let d = set_is in
        let i : m ≡ n - (side_at k H).start / 2 = omega arith in
        subst (SetFits f W H L P k) i
        (subst (λ (i : ℕ). SetFits f W H L P i m) back_one (s.own ((not-false (goes_on_set H x t) (completes (over H) x t) (completes-is H x t)).1 e)))

    due : FeedDue f (over W) (over H) L (Fits f W H L P) k n (completes (over H) x t) → FeedPast f (over W) (over H) L (Fits f W H L P) k n
        → FeedFits f W H L P x t
    due u v = record {
      own = λ e.
          let d = set_is in
          let i : n - (side_at k H).start / 2 ≡ m = omega arith in
          subst (λ (i : ℕ). SetFits f W H L P i m) (sym back_one)
          (subst (SetFits f W H L P k) i (u.own ((not-false (goes_on_set H x t) (completes (over H) x t) (completes-is H x t)).0 e)));
      above = λ h.
          all_kinds f W H L P (suc k) m (there h)
          (subst (λ (v : ℕ). NeededFit f (over W) (over H) L (Fits f W H L P) (suc k) v (Unfed f (over W) (over H) L)) (sym (row_is (had h)))
          (u.unfed (had h)))
          (subst (λ (v : ℕ). NeededFit f (over W) (over H) L (Fits f W H L P) (suc k) v (Fed f (over W) (over H) L)) (sym (row_is (had h))) (v (had h)));
    }

  pub feed-due : set_number H x ≤ order.last_set (side_at k H)
      → FeedFits f W H L P x t
      ↔ (FeedDue f (over W) (over H) L (Fits f W H L P) k (set_of_row (over H) x) (completes (over H) x t)
      × FeedPast f (over W) (over H) L (Fits f W H L P) k (set_of_row (over H) x))
  feed-due c = (
    λ s. (
      record { unfed = above c (Unfed f (over W) (over H) L) s; own = whose c s },
      above c (Fed f (over W) (over H) L) s,
    ),
    λ s. due c s.0 s.1,
  )
