-- The sets that are worked out before a feed or a draw are those up to the ones that FeedFits and SetsFit ask for (`needed_set`), of each level in order; and
-- a set without a fed row is asked for by every call after it. Assumes nothing.
use mathlib.Core.Path.{◌≡◌, refl, sym, ap, ap₂, ◌∙◌, subst}
use mathlib.Core.List.{List, [], ◌∷◌, ◌++◌}
use Prim.Native.Nat.{ℕ, zero, suc, ◌+◌, ◌-◌, ◌*◌, ◌/◌, ◌%◌, ◌≤◌, ◌<◌}
use native.Mathlib.Decide.{dec_lt, ℕ_discrete}
use native.Mathlib.Omega.{arith}
use Rattle.lifting.specs.Line.{lo}
use Rattle.lifting.specs.Grid.{Side}
use Rattle.wavelet.specs.Levels.{next, side_at}
use Rattle.wavelet.specs.Order.{RowName, in_turn, first_set}
use Rattle.wavelet.specs.Order as order
use Rattle.wavelet.specs.Steps.{Step, feed, draw, feed_all, set_of, sets_before}
use Rattle.wavelet.proofs.OrderLaws.{turn-same, last-set, first-low, low-sets}
use Rattle.wavelet.proofs.SideLaws.{size-falls, next-length}
use Rattle.wavelet.proofs.StepLaws.{before-suc}
use Rattle.reader_steps.specs.Sets.{ahead, row_of, needed}
use Rattle.reader_steps.proofs.OpenedSets.{needed-from, needed-next}
use Rattle.reader.specs.Demand3.{set_number}
use Rattle.standard.specs.Line.{Interval, over, half_of}
use Rattle.standard.specs.Transform.{level_of}
use Rattle.standard.specs.WriterOrder.{between}
use Rattle.standard.specs.ReaderSteps.{row_steps}
use Rattle.standard.specs.Fourteen.{needed_set, set_of_row, Some, Unfed}
use Rattle.standard.specs.Schedule.{Action, call, works, calls, set_schedule, schedule, worked}
use Rattle.standard.proofs.LevelTheorems.{next-over, level-over, length-is}
use Rattle.standard.proofs.OrderTheorems.{set_is}
use Rattle.standard.proofs.StepTheorems.{low-steps, row-steps-is, row-of}
use Rattle.standard.proofs.UnfedSets.{unfed-last}
use Rattle.standard.proofs.FourteenTheorems.{needed-is, needed-set, set-row}
use Rattle.standard.proofs.ScheduleLaws.{Stand, last, more, stands, Above, none, some, Finds, feeds, draws, Runs, Cut, cut, span, worked-is, work-is}
use Rattle.standard.proofs.ScheduleLaws.{none-deeper, stand-none, set_w, draw_w, deeper, all-run}

-- ---- in grid coordinates it is the same list
module _ (f : ℕ) (W H : Side) (L : ℕ) where
  set_same : (l i : ℕ) → 0 < (side_at i H).length → (n : ℕ) → n ≤ order.last_set (side_at i H)
      → set_w f W H L l i n ≡ set_schedule f l (suc i) (over (side_at i W)) (over (side_at i H)) ((side_at i H).start / 2 + n)
  unfolding set_w set_schedule side_at
  set_same zero i b n c =
      ap (λ (t : List RowName). calls (feed_all t) ++ (works (suc i) ((side_at i H).start / 2 + n) ∷ [])) (set_is (side_at i H) n zero (suc i) (side_at i W))
  set_same (suc l) i b n c =
      ap₂ ◌++◌
      (low-steps f (side_at i H) b n c (set_w f W H L l (suc i))
      (set_schedule f l (suc (suc i)) (half_of lo (over (side_at i W))) (half_of lo (over (side_at i H))))
      (λ g m e.
      set_same l (suc i) g m e
      ∙ ap₂ (λ (I J : Interval). set_schedule f l (suc (suc i)) I J ((next (side_at i H)).start / 2 + m)) (next-over (side_at i W)) (next-over (side_at i H))))
      (ap (λ (t : List RowName). calls (feed_all t) ++ (works (suc i) ((side_at i H).start / 2 + n) ∷ [])) (set_is (side_at i H) n (suc l) (suc i) (side_at i W)))

  all_same : in_turn H.length (draw_w f W H L) ≡ schedule f (over W) (over H) L
  unfolding draw_w schedule between side_at
  all_same =
      let e : H.length ≡ H.start + H.length - H.start = omega arith in
      turn-same H.length _
      (λ r. row_steps f (over H) (set_schedule f (L - 1) 1 (over W) (over H)) (H.start + r) ++ (call (draw (H.start + r - H.start)) ∷ []))
      (λ r b.
      let d : r ≡ H.start + r - H.start = omega arith in
      ap₂ (λ (t : List Action) (i : ℕ). t ++ (call (draw i) ∷ []))
      (row-steps-is f H (set_w f W H L (L - 1) 0) (set_schedule f (L - 1) 1 (over W) (over H)) (λ n c. set_same (L - 1) 0 (omega arith) n c) r b) d)
      ∙ ap (λ (n : ℕ). in_turn n (λ i. row_steps f (over H) (set_schedule f (L - 1) 1 (over W) (over H)) (H.start + i)
      ++ (call (draw (H.start + i - H.start)) ∷ []))) e

  -- what a run stands at where one cuts the list at a call
  at_call : (p q : List Action) (x : Step) → schedule f (over W) (over H) L ≡ p ++ (call x ∷ q) → Cut f W H L (λ _. 0) p x
  at_call p q x e =
      let r = all-run f W H L H.length (omega arith) in
      cut f W H L p q (subst (λ (l : List Action). Runs f W H L (λ _. 0) l r.after) (all_same ∙ e) r.run)

  -- ---- each level has worked out what is needed, and no more
  falls : (i d : ℕ) → (side_at (i + d) H).length ≤ (side_at i H).length
  falls i zero = let e : i + 0 ≡ i = omega arith in rw e (omega arith)
  falls i (suc d) = let e : i + suc d ≡ suc (i + d) = omega arith in let h = falls i d in rw e (omega (arith, size-falls (i + d) H))

  some-before : (i j : ℕ) → i ≤ j → 0 < (side_at j H).length → 0 < (side_at i H).length
  some-before i j l b =
      let e : i + (j - i) ≡ j = omega arith in
      let h : (side_at j H).length ≤ (side_at i H).length = subst (λ (k : ℕ). (side_at k H).length ≤ (side_at i H).length) e (falls i (j - i)) in
      omega arith

  -- the sets of the next level for one row more
  deeper-is : (i c : ℕ) → (side_at i H).start % 2 ≤ c → deeper f W H L i (suc c) ≡ suc (set_of (ahead f) (side_at (suc i) H) (row_of H (suc i) c))
  unfolding row_of first_set
  deeper-is i c b =
      let e : suc c - (side_at i H).start % 2 ≡ suc (c - (side_at i H).start % 2) = omega arith in
      ap (sets_before (ahead f) (side_at (suc i) H)) e ∙ before-suc (ahead f) (side_at (suc i) H) (c - (side_at i H).start % 2) ∙ omega arith

  takes : (k n i : ℕ) → k ≤ i → 0 < (side_at (suc i) H).length → (side_at i H).start % 2 ≤ needed f H k n (suc i)
  takes k n i l b =
      let e : k + (i - k) ≡ i = omega arith in
      subst (λ (j : ℕ). 0 < (side_at (suc j) H).length → (side_at j H).start % 2 ≤ needed f H k n (suc j)) e (needed-set f H k n (i - k)).0 b

  chain-at : (k n : ℕ) {t : ℕ → ℕ} (m i : ℕ) → k ≤ i → Stand f W H L m i (suc (needed f H k n (suc i))) t → (j : ℕ) → i ≤ j → j ≤ i + m → 0 < (side_at j H).length
      → t j ≡ suc (needed f H k n (suc j))
  chain-at k n {t} zero i l s j a b c =
      let e : i ≡ j = omega arith in
      subst (λ (h : ℕ). t h ≡ suc (needed f H k n (suc h))) e (stands f W H L s)
  chain-at k n {t} (suc m) i l (more e d) j a b c =
      elim (ℕ_discrete i j) [
        | yes z ↦ subst (λ (h : ℕ). t h ≡ suc (needed f H k n (suc h))) z e
        | no z ↦
            let g : suc i ≤ j = omega (arith, z) in
            let next-is : deeper f W H L i (suc (needed f H k n (suc i))) ≡ suc (needed f H k n (suc (suc i))) =
            deeper-is i (needed f H k n (suc i)) (takes k n i l (some-before (suc i) j g c)) ∙ ap suc (sym (needed-next f H k n (suc i) (omega arith))) in
            chain-at k n m (suc i) (omega arith) (subst (λ (h : ℕ). Stand f W H L m (suc i) h t) next-is d) j g (omega arith) c
      ]

  -- the sets of a level from its first on, as a list
  first-at : (i : ℕ) → (level_of i (over H)).i0 ≡ (side_at i H).start
  first-at i = ap (λ (I : Interval). I.i0) (sym (level-over i H))

  listed : {p : List Action} {t : ℕ → ℕ} → Runs f W H L (λ _. 0) p t → (i b : ℕ) → b ≡ (side_at i H).start / 2 + t i
      → worked (suc i) p ≡ between ((level_of i (over H)).i0 / 2) b (λ g. g ∷ [])
  unfolding between
  listed {t = t} r i b e =
      let w = worked-is f W H L r i in
      let c : (side_at i H).start / 2 + 0 ≡ (level_of i (over H)).i0 / 2 = ap (λ (n : ℕ). n / 2 + 0) (sym (first-at i)) ∙ omega arith in
      let n : t i - 0 ≡ b - (level_of i (over H)).i0 / 2 = omega arith in
      w.1 ∙ ap₂ (span f W H L) c n

  -- a height row
  row-sets : (r : ℕ) → sets_before (ahead f) H (suc r) ≡ suc (needed f H 0 r 1)
  unfolding side_at row_of
  row-sets r = before-suc (ahead f) H r ∙ omega (arith, needed-from f H 0 r)

  row-needs : (r j : ℕ) → r < H.length → 0 < (side_at j H).length → needed_set f (over H) 0 (H.start + r) j ≡ (side_at j H).start / 2 + needed f H 0 r (suc j)
  unfolding side_at row_of
  row-needs r j b c =
      let z : 0 + j ≡ j = omega arith in
      subst (λ (h : ℕ). 0 < (side_at h H).length → needed_set f (over H) 0 (H.start + r) j ≡ (side_at h H).start / 2 + needed f H 0 r (suc h)) z
      (needed-is f H 0 r b j) c

  -- before a draw: of each level the sets up to the one that the height row needs
  pub draw-worked : (p q : List Action) (r : ℕ) → schedule f (over W) (over H) L ≡ p ++ (call (draw r) ∷ q)
      → (j : ℕ) → j < L → Some f (over W) (over H) L j
      → ((level_of j (over H)).i0 / 2 ≤ needed_set f (over H) 0 (H.start + r) j)
      × (worked (suc j) p ≡ between ((level_of j (over H)).i0 / 2) (needed_set f (over H) 0 (H.start + r) j + 1) (λ g. g ∷ []))
  draw-worked p q r e j l s = go (at_call p q (draw r) e).run (at_call p q (draw r) e).finds
    where
      there : 0 < (side_at j H).length
      there = let d = length-is j H in omega arith

      go : {t : ℕ → ℕ} → Runs f W H L (λ _. 0) p t → Finds f W H L (draw r) t
          → ((level_of j (over H)).i0 / 2 ≤ needed_set f (over H) 0 (H.start + r) j)
          × (worked (suc j) p ≡ between ((level_of j (over H)).i0 / 2) (needed_set f (over H) 0 (H.start + r) j + 1) (λ g. g ∷ []))
      go {t} run (draws b d) =
          let c = chain-at 0 r (L - 1) 0 (omega arith) (subst (λ (h : ℕ). Stand f W H L (L - 1) 0 h t) (row-sets r) d) j (omega arith) (omega arith) there in
          let i = row-needs r j b there in
          (omega (arith, first-at j), listed run j (needed_set f (over H) 0 (H.start + r) j + 1) (omega arith))

  -- before the feed of a row of level i + 1: of its own level the sets before its own, and of each coarser one those up to the one that its set's LL row needs
  above_at : {m i n : ℕ} {t : ℕ → ℕ} → Above f W H L m i n t → 0 < m → (h : ℕ) × (m ≡ suc h) × Stand f W H L h (suc i) (deeper f W H L i (suc n)) t
  above_at none b = absurd (omega arith)
  above_at (some {m} s) b = (m, refl, s)

  -- its set is one of the level's
  abbrev pub IsSet : ℕ → RowName → Type 0
  IsSet k x = (0 < (side_at k H).length) × (set_number H x ≤ order.last_set (side_at k H))

  pub record Worked (p : List Action) (x : RowName) (i : ℕ) : Type 0 where
    pub range : IsSet i x
    pub own : worked (suc i) p ≡ between ((level_of i (over H)).i0 / 2) (set_of_row (over H) x) (λ g. g ∷ [])
    pub coarser : (level_of i (over H)).i0 ≤ 2 * set_of_row (over H) x → (j : ℕ) → suc i + j < L → Some f (over W) (over H) L (suc i + j)
        → ((level_of (suc i + j) (over H)).i0 / 2 ≤ needed_set f (over H) (suc i) (set_of_row (over H) x) j)
        × (worked (suc (suc i + j)) p ≡ between ((level_of (suc i + j) (over H)).i0 / 2) (needed_set f (over H) (suc i) (set_of_row (over H) x) j + 1) (λ g. g ∷ []))

  module _ (p : List Action) (x : RowName) (k : ℕ) (l : x.level ≡ suc k) (range : IsSet k x) where
    abbrev n : ℕ
    n = set_number H x

    set_at : set_of_row (over H) x ≡ (side_at k H).start / 2 + n
    set_at = let h : x.level - 1 ≡ k = omega arith in set-row H x ∙ ap (λ (i : ℕ). (side_at i H).start / 2 + n) h

    -- its set's LL row
    row_in : (side_at k H).start % 2 ≤ n → row_of H (suc k) n < (side_at (suc k) H).length
    unfolding row_of side_at first_set
    row_in h = let b = range.0 in let c = range.1 in omega (arith, low-sets (side_at k H) b, first-low (side_at k H), next-length (side_at k H))

    row-at : (side_at k H).start % 2 ≤ n → (side_at (suc k) H).start + row_of H (suc k) n ≡ set_of_row (over H) x
    unfolding row_of side_at first_set
    row-at h = row-of (side_at k H) n h ∙ sym set_at

    found : {t : ℕ → ℕ} → Runs f W H L (λ _. 0) p t → t k ≡ n → Above f W H L (L - suc k) k n t → Worked p x k
    found {t} run e a = record {
      range = range;
      own = listed run k (set_of_row (over H) x) (set_at ∙ ap (λ (i : ℕ). (side_at k H).start / 2 + i) (sym e));
      coarser = λ h j b c.
          let low : (side_at k H).start % 2 ≤ n = omega (arith, set_at, first-at k) in
          let there : 0 < (side_at (suc k + j) H).length = omega (arith, length-is (suc k + j) H) in
          let y = above_at a (omega arith) in
          let d : deeper f W H L k (suc n) ≡ suc (needed f H (suc k) n (suc (suc k))) = deeper-is k n low ∙ ap suc (sym (needed-from f H (suc k) n)) in
          let z = chain-at (suc k) n y.0 (suc k) (omega arith) (subst (λ (i : ℕ). Stand f W H L y.0 (suc k) i t) d y.2) (suc k + j) (omega arith)
          (omega (arith, y.1)) there in
          let g : needed_set f (over H) (suc k) (set_of_row (over H) x) j ≡ (side_at (suc k + j) H).start / 2 + needed f H (suc k) n (suc (suc k + j)) =
          ap (λ (v : ℕ). needed_set f (over H) (suc k) v j) (sym (row-at low)) ∙ needed-is f H (suc k) n (row_in low) j there in
          (omega (arith, first-at (suc k + j)), listed run (suc k + j) (needed_set f (over H) (suc k) (set_of_row (over H) x) j + 1) (omega arith));
    }

  pub feed-worked : (p q : List Action) (x : RowName) → schedule f (over W) (over H) L ≡ p ++ (call (feed x) ∷ q)
      → (i : ℕ) → x.level ≡ suc i → Worked p x i
  feed-worked p q x e i l = go (at_call p q (feed x) e).run (at_call p q (feed x) e).finds
    where
      go : {t : ℕ → ℕ} → Runs f W H L (λ _. 0) p t → Finds f W H L (feed x) t → Worked p x i
      go run (feeds k d range still own above) = let z : k ≡ i = omega arith in subst (Worked p x) z (found p x k d range run own above)

  -- ---- a set without a fed row is needed by every call that comes after it, so by the next
  module _ (k g : ℕ) (deep : k < L) (cells : Some f (over W) (over H) L k) (unfed : Unfed f (over W) (over H) L k g) where
    -- it is its level's last
    unfed-is : (side_at k H).start / 2 ≤ g → g ≤ (side_at k H).start / 2 + order.last_set (side_at k H) → g ≡ (side_at k H).start / 2 + order.last_set (side_at k H)
    unfed-is a b =
        let s = first-at k in
        let e = ap (λ (I : Interval). I.i1) (sym (level-over k H)) in
        let n = length-is k H in
        let l = last-set (side_at k H) in
        let w = (unfed-last (suc k) (level_of k (over W)) (level_of k (over H)) g cells.0 (omega arith) (omega arith) (omega arith) (L - suc k) unfed).last in
        omega arith

  pub record NeededNext (x : RowName) (i k g : ℕ) : Type 0 where
    pub ahead-by : ℕ
    pub level-is : k ≡ suc i + ahead-by
    pub low-row : (level_of i (over H)).i0 ≤ 2 * set_of_row (over H) x
    pub needs : needed_set f (over H) (suc i) (set_of_row (over H) x) ahead-by ≡ g

  needs-last : (x : RowName) (h : ℕ) → x.level ≡ suc h → IsSet h x → {t : ℕ → ℕ}
      → Above f W H L (L - suc h) h (set_number H x) t → (k g : ℕ) → k < L → 0 < (side_at k H).length → order.last_set (side_at k H) < t k → h < k
      → g ≡ (side_at k H).start / 2 + order.last_set (side_at k H) → NeededNext x h k g
  needs-last x h l range {t} a k g deep there most c single =
      let n = set_number H x in
      let j = k - suc h in
      let e : suc h + j ≡ k = omega arith in
      let y = above_at a (omega arith) in
      elim (dec_lt n ((side_at h H).start % 2)) [
        | yes b ↦
            let first = first-low (side_at h H) in
            let none-there = none-deeper f W H L h (suc n) (omega arith) in
            let z = stand-none f W H L y.0 (suc h) (deeper f W H L h (suc n)) none-there y.2 k c (omega (arith, y.1)) in
            absurd (omega arith)
        | no b ↦
            let low : (side_at h H).start % 2 ≤ n = omega arith in
            let d : deeper f W H L h (suc n) ≡ suc (needed f H (suc h) n (suc (suc h))) = deeper-is h n low ∙ ap suc (sym (needed-from f H (suc h) n)) in
            let stand = subst (λ (i : ℕ). Stand f W H L y.0 (suc h) i t) d y.2 in
            let z = chain-at (suc h) n y.0 (suc h) (omega arith) stand k c (omega (arith, y.1)) there in
            let top : needed f H (suc h) n (suc k) ≤ order.last_set (side_at k H) =
            subst (λ (i : ℕ). needed f H (suc h) n (suc i) ≤ order.last_set (side_at i H)) e (needed-set f H (suc h) n j).1 in
            let is : needed_set f (over H) (suc h) (set_of_row (over H) x) j ≡ (side_at k H).start / 2 + needed f H (suc h) n (suc k) =
            ap (λ (v : ℕ). needed_set f (over H) (suc h) v j) (sym (row-at [] x h l range low))
            ∙ subst (λ (i : ℕ). 0 < (side_at i H).length → needed_set f (over H) (suc h) ((side_at (suc h) H).start + row_of H (suc h) n) j
            ≡ (side_at i H).start / 2 + needed f H (suc h) n (suc i)) e (needed-is f H (suc h) n (row_in [] x h l range low) j) there in
            record {
              ahead-by = j;
              level-is = sym e;
              low-row = omega (arith, set_at [] x h l range, first-at h);
              needs = omega arith;
            }
      ]

  -- in a feed
  pub unfed-feed : (p₁ p₂ q : List Action) (k g : ℕ) (x : RowName) → schedule f (over W) (over H) L ≡ (p₁ ++ (works (suc k) g ∷ p₂)) ++ (call (feed x) ∷ q)
      → k < L → Some f (over W) (over H) L k → Unfed f (over W) (over H) L k g → (i : ℕ) → x.level ≡ suc i → NeededNext x i k g
  unfed-feed p₁ p₂ q k g x e deep cells unfed i l =
      go (at_call (p₁ ++ (works (suc k) g ∷ p₂)) q (feed x) e).run (at_call (p₁ ++ (works (suc k) g ∷ p₂)) q (feed x) e).finds
    where
      go : {t : ℕ → ℕ} → Runs f W H L (λ _. 0) (p₁ ++ (works (suc k) g ∷ p₂)) t → Finds f W H L (feed x) t → NeededNext x i k g
      go {t} run (feeds h d range still own above) =
          let z : h ≡ i = omega arith in
          let w = work-is f W H L p₁ p₂ k g run in
          let single = unfed-is k g deep cells unfed w.1 w.2 in
          let most : order.last_set (side_at k H) < t k = omega arith in
          subst (λ (h : ℕ). NeededNext x h k g) z
          (elim (dec_lt h k) [
            | no c ↦
                elim (ℕ_discrete k h) [
                  | yes y ↦ absurd (let o = subst (λ (j : ℕ). t j ≤ order.last_set (side_at j H)) (sym y) (let r = range.1 in omega arith) in omega arith)
                  | no y ↦ absurd (let o = still k (omega (arith, y)) in omega arith)
                ]
            | yes c ↦ needs-last x h d range above k g deep (let o = length-is k H in omega arith) most c single
          ])

  -- in a draw
  pub unfed-draw : (p₁ p₂ q : List Action) (k g r : ℕ) → schedule f (over W) (over H) L ≡ (p₁ ++ (works (suc k) g ∷ p₂)) ++ (call (draw r) ∷ q)
      → k < L → Some f (over W) (over H) L k → Unfed f (over W) (over H) L k g → needed_set f (over H) 0 (H.start + r) k ≡ g
  unfed-draw p₁ p₂ q k g r e deep cells unfed =
      go (at_call (p₁ ++ (works (suc k) g ∷ p₂)) q (draw r) e).run (at_call (p₁ ++ (works (suc k) g ∷ p₂)) q (draw r) e).finds
    where
      there : 0 < (side_at k H).length
      there = let d = length-is k H in omega arith

      go : {t : ℕ → ℕ} → Runs f W H L (λ _. 0) (p₁ ++ (works (suc k) g ∷ p₂)) t → Finds f W H L (draw r) t → needed_set f (over H) 0 (H.start + r) k ≡ g
      go {t} run (draws b d) =
          let w = work-is f W H L p₁ p₂ k g run in
          let single = unfed-is k g deep cells unfed w.1 w.2 in
          let c = chain-at 0 r (L - 1) 0 (omega arith) (subst (λ (h : ℕ). Stand f W H L (L - 1) 0 h t) (row-sets r) d) k (omega arith) (omega arith) there in
          let top : needed f H 0 r (suc k) ≤ order.last_set (side_at k H) =
          subst (λ (i : ℕ). needed f H 0 r (suc i) ≤ order.last_set (side_at i H)) (omega arith) (needed-set f H 0 r k).1 in
          let i = row-needs r k b there in
          omega arith

  pub draw-in : (p q : List Action) (r : ℕ) → schedule f (over W) (over H) L ≡ p ++ (call (draw r) ∷ q) → r < H.length
  draw-in p q r e = go (at_call p q (draw r) e).finds
    where
      go : {t : ℕ → ℕ} → Finds f W H L (draw r) t → r < H.length
      go (draws b d) = b
