-- The schedule of a reader, run through: where each call finds the levels. A run goes by the number of sets of each level that are worked out; level i + 1
-- parts the low-low part of level i, and its sets are counted from 0 here. Assumes nothing.
use mathlib.Core.Path.{◌≡◌, refl, sym, ap, ap₂, ◌∙◌, subst}
use mathlib.Core.Bool.{Bool, true, false}
use mathlib.Core.List.{List, [], ◌∷◌, ◌++◌}
use Prim.Native.Nat.{ℕ, zero, suc, ◌+◌, ◌-◌, ◌/◌, ◌≤◌, ◌<◌}
use native.Mathlib.Decide.{dec_lt, ℕ_discrete}
use native.Mathlib.Omega.{arith}
use lib.Dec.{leb, ltb, eqb}
use borrow.Author.Tests.{eq-eqb, ne_eqb, le-leb, lt-leb, leb-true, ltb-true}
use Rattle.numbers.specs.Signal.{pick, both}
use Rattle.lifting.specs.Line.{Half, lo, hi}
use Rattle.lifting.specs.Grid.{Side, count}
use Rattle.wavelet.specs.Bands.{Band, across, down}
use Rattle.wavelet.specs.Levels.{side_at}
use Rattle.wavelet.specs.Order.{RowName, row_name, in_turn, first_set, last_set, handed_out, set_row, set_has, rows_of, set_rows}
use Rattle.wavelet.specs.Steps.{Step, feed, draw, feed_all, sets_before}
use Rattle.wavelet.proofs.OrderLaws.{turn-zero, turn_suc}
use Rattle.wavelet.proofs.StepLaws.{set_there, before-zero, before-suc, before-rises}
use Rattle.reader_steps.specs.Sets.{ahead}
use Rattle.reader.specs.Demand3.{set_number}
use Rattle.standard.specs.Schedule.{Action, call, works, calls, worked}

-- one set more of level i + 1
unfoldable pub bump : ℕ → (ℕ → ℕ) → ℕ → ℕ
bump i s j = pick (eqb i j) (suc (s j)) (s j)

bump-own : (i : ℕ) (s : ℕ → ℕ) → bump i s i ≡ suc (s i)
unfolding bump
bump-own i s = rw (eq-eqb i i refl) refl

bump-other : (i : ℕ) (s : ℕ → ℕ) (j : ℕ) → (i ≡ j → ⊥) → bump i s j ≡ s j
unfolding bump
bump-other i s j d = rw (ne_eqb i j d) refl

module _ (f : ℕ) (W H : Side) (L : ℕ) where
  abbrev pub rows : ℕ → Side
  rows i = side_at i H

  -- the sets of level i + 2 that are worked out once n sets of level i + 1 are
  abbrev pub deeper : ℕ → ℕ → ℕ
  deeper i n = sets_before (ahead f) (rows (suc i)) (n - first_set (rows i) lo)

  -- n sets of level i + 1 are worked out, and of the m levels after it as many as they need
  pub data Stand : ℕ → ℕ → ℕ → (ℕ → ℕ) → Type 0 where
    last : {i n : ℕ} {s : ℕ → ℕ} → s i ≡ n → Stand zero i n s
    more : {m i n : ℕ} {s : ℕ → ℕ} → s i ≡ n → Stand m (suc i) (deeper i n) s → Stand (suc m) i n s

  pub stands : {m i n : ℕ} {s : ℕ → ℕ} → Stand m i n s → s i ≡ n
  stands (last e) = e
  stands (more e t) = e

  -- the levels after level i + 1 stand where its set n needs them
  pub data Above : ℕ → ℕ → ℕ → (ℕ → ℕ) → Type 0 where
    none : {i n : ℕ} {s : ℕ → ℕ} → Above zero i n s
    some : {m i n : ℕ} {s : ℕ → ℕ} → Stand m (suc i) (deeper i (suc n)) s → Above (suc m) i n s

  -- a set of each finer level is still to come
  abbrev pub Open : ℕ → (ℕ → ℕ) → Type 0
  Open i s = (j : ℕ) → j < i → s j ≤ last_set (rows j)

  -- a call finds the levels so: the feed of a row of set n of level i + 1; a draw of row r
  pub data Finds : Step → (ℕ → ℕ) → Type 0 where
    feeds : {x : RowName} {s : ℕ → ℕ} (i : ℕ) → x.level ≡ suc i → (0 < (rows i).length) × (set_number H x ≤ last_set (rows i)) → Open i s → s i ≡ set_number H x
        → Above (L - suc i) i (set_number H x) s → Finds (feed x) s
    draws : {r : ℕ} {s : ℕ → ℕ} → r < H.length → Stand (L - 1) 0 (sets_before (ahead f) H (suc r)) s → Finds (draw r) s

  -- ---- a run from s to t: each call finds the levels as it should, and the sets of a level are worked out one after the other
  pub data Runs : (ℕ → ℕ) → List Action → (ℕ → ℕ) → Type 0 where
    stop : {s : ℕ → ℕ} → Runs s [] s
    step : {s t : ℕ → ℕ} {x : Step} {l : List Action} → Finds x s → Runs s l t → Runs s (call x ∷ l) t
    work : {s t : ℕ → ℕ} {l : List Action} (i g : ℕ) → s i ≤ last_set (rows i) → g ≡ (rows i).start / 2 + s i → Runs (bump i s) l t
        → Runs s (works (suc i) g ∷ l) t

  join : {s t u : ℕ → ℕ} {l m : List Action} → Runs s l t → Runs t m u → Runs s (l ++ m) u
  join stop q = q
  join (step x p) q = step x (join p q)
  join (work i g b e p) q = work i g b e (join p q)

  -- ---- where a run stands at a call, and what is worked out by then
  pub record Cut (s : ℕ → ℕ) (p : List Action) (x : Step) : Type 0 where
    pub here : ℕ → ℕ
    pub run : Runs s p here
    pub finds : Finds x here

  pub cut : {s t : ℕ → ℕ} {x : Step} (p q : List Action) → Runs s (p ++ (call x ∷ q)) t → Cut s p x
  cut [] q (step y r) = record { here = _; run = stop; finds = y }
  cut (call z ∷ p) q (step y r) = let c = cut p q r in record { here = c.here; run = step y c.run; finds = c.finds }
  cut {s = s} (works k n ∷ p) q (work i g b e r) =
      let c = cut {s = bump i s} p q r in
      record { here = c.here; run = work i g b e c.run; finds = c.finds }

  -- the sets b, b + 1 and on, n of them
  abbrev pub span : ℕ → ℕ → List ℕ
  span b n = in_turn n (λ d. (b + d) ∷ [])

  span-cons : (b n : ℕ) → span b (suc n) ≡ b ∷ span (suc b) n
  span-cons b zero =
      let e : b + 0 ≡ b = omega arith in
      turn_suc 0 (λ d. (b + d) ∷ [])
      ∙ ap₂ ◌++◌ (turn-zero (λ d. (b + d) ∷ [])) (ap (λ (x : ℕ). x ∷ []) e)
      ∙ ap (λ (l : List ℕ). b ∷ l) (sym (turn-zero (λ d. (suc b + d) ∷ [])))
  span-cons b (suc n) =
      let e : b + suc n ≡ suc b + n = omega arith in
      turn_suc (suc n) (λ d. (b + d) ∷ [])
      ∙ ap₂ ◌++◌ (span-cons b n) (ap (λ (x : ℕ). x ∷ []) e)
      ∙ ap (λ (l : List ℕ). b ∷ l) (sym (turn_suc n (λ d. (suc b + d) ∷ [])))

  pub worked-is : {s t : ℕ → ℕ} {p : List Action} → Runs s p t → (i : ℕ) →
      (s i ≤ t i) × (worked (suc i) p ≡ span ((rows i).start / 2 + s i) (t i - s i))
  unfolding worked
  worked-is {s} stop i = let e : s i - s i ≡ 0 = omega arith in (omega arith, rw e (sym (turn-zero _)))
  worked-is (step x r) i = worked-is r i
  worked-is {s} {t} (work j g b e r) i =
      let h = worked-is r i in
      elim (ℕ_discrete j i) [
        | yes z ↦
            let own : bump j s i ≡ suc (s i) = subst (λ (k : ℕ). bump k s i ≡ suc (s i)) (sym z) (bump-own i s) in
            let up : s i ≤ t i = omega arith in
            let n : t i - s i ≡ suc (t i - suc (s i)) = omega arith in
            let b : (rows i).start / 2 + suc (s i) ≡ suc ((rows i).start / 2 + s i) = omega arith in (
              up,
              rw (eq-eqb (suc j) (suc i) (omega arith), h.1, own, n, b)
                  (sym (span-cons ((rows i).start / 2 + s i) (t i - suc (s i))
                  ∙ ap (λ (x : ℕ). x ∷ span (suc ((rows i).start / 2 + s i)) (t i - suc (s i))) (sym (subst (λ (k : ℕ). g ≡ (rows k).start / 2 + s k) z e)))),
            )
        | no z ↦
            let own = bump-other j s i z in
            (omega arith, rw (ne_eqb (suc j) (suc i) (λ y. z (omega arith)), h.1, own) refl)
      ]

  -- a set that is worked out is one of its level's, and counted from then on
  pub work-is : {s t : ℕ → ℕ} (p q : List Action) (k g : ℕ) → Runs s (p ++ (works (suc k) g ∷ q)) t →
      (g < (rows k).start / 2 + t k) × ((rows k).start / 2 ≤ g) × (g ≤ (rows k).start / 2 + last_set (rows k))
  work-is {s} [] q k g (work i h₀ b e r) = let h = (worked-is r k).0 in let o = bump-own k s in (omega arith, omega arith, omega arith)
  work-is (call x ∷ p) q k g (step y r) = work-is p q k g r
  work-is {s} (works j n ∷ p) q k g (work i m b e r) = work-is {s = bump i s} p q k g r

  -- ---- a set, its LL row first
  unfoldable pub set_w : ℕ → ℕ → ℕ → List Action
  set_w zero i n = calls (feed_all (set_rows zero (suc i) (side_at i W) (rows i) n)) ++ (works (suc i) ((rows i).start / 2 + n) ∷ [])
  set_w (suc m) i n =
      pick (leb (first_set (rows i) lo) n)
      (in_turn (sets_before (ahead f) (rows (suc i)) (suc (n - first_set (rows i) lo)) - deeper i n) (λ j. set_w m (suc i) (deeper i n + j))) []
      ++ (calls (feed_all (set_rows (suc m) (suc i) (side_at i W) (rows i) n)) ++ (works (suc i) ((rows i).start / 2 + n) ∷ []))

  -- a run that leaves the finer levels as they were
  pub record Ran (s : ℕ → ℕ) (l : List Action) (m i n : ℕ) : Type 0 where
    pub after : ℕ → ℕ
    pub run : Runs s l after
    pub stand : Stand m i n after
    pub kept : (j : ℕ) → j < i → after j ≡ s j

  -- sets one after the other
  open_kept : (i : ℕ) (s t : ℕ → ℕ) → ((j : ℕ) → j < i → t j ≡ s j) → Open i s → Open i t
  open_kept i s t e o j b = let h = e j b in let l = o j b in omega arith

  -- what runs one set of level i + 1
  abbrev SetRuns : ℕ → ℕ → (ℕ → List Action) → Type 0
  SetRuns m i set = (n : ℕ) (s : ℕ → ℕ) → n ≤ last_set (rows i) → Open i s → Stand m i n s → Ran s (set n) m i (suc n)

  turns-run : (m i : ℕ) (set : ℕ → List Action) → SetRuns m i set →
      (c k : ℕ) (s : ℕ → ℕ) → c + k ≤ suc (last_set (rows i)) → Open i s → Stand m i c s → Ran s (in_turn k (λ j. set (c + j))) m i (c + k)
  turns-run m i set one c zero s b o d =
      let e : c + 0 ≡ c = omega arith in
      rw (turn-zero, e) (record { after = s; run = stop; stand = d; kept = λ j _. refl })
  turns-run m i set one c (suc k) s b o d =
      let e : c + suc k ≡ suc (c + k) = omega arith in
      let p = turns-run m i set one c k s (omega arith) o d in
      let q = one (c + k) p.after (omega arith) (open_kept i s p.after p.kept o) p.stand in
      rw (turn_suc, e)
      (record { after = q.after; run = join p.run q.run; stand = q.stand; kept = λ j b. q.kept j b ∙ p.kept j b })

  -- the rows that a set is fed
  both_true : (a b : Bool) → both a b ≡ true → (a ≡ true) × (b ≡ true)
  both_true true b e = (refl, e)
  both_true false b e = absurd (let z : ◌≡◌ {A = ℕ} 0 1 = cc in omega arith)

  number_is : (i n : ℕ) (b : Band) → set_has (side_at i W) (rows i) b n ≡ true → set_number H (row_name (suc i) b (set_row (rows i) b n)) ≡ n
  unfolding set_has set_row set_number
  number_is i n b e =
      let first = first_set (rows i) (down b) in
      let here = both_true (ltb 0 (count (across b) (side_at i W))) (both (leb first n) (ltb (n - first) (count (down b) (rows i)))) e in
      let l = leb-true first n (both_true (leb first n) (ltb (n - first) (count (down b) (rows i))) here.1).0 in
      let k : suc i - 1 ≡ i = omega arith in
      let d = ap (λ (j : ℕ). first_set (side_at j H) (down b)) k in
      omega arith

  -- a set that has a row is one of its level's
  half-set : (S : Side) (h : Half) (n : ℕ) → first_set S h ≤ n → n - first_set S h < count h S → (0 < S.length) × (n ≤ last_set S)
  unfolding first_set count last_set
  half-set S lo n a b = (omega arith, omega arith)
  half-set S hi n a b = (omega arith, omega arith)

  is_set : (i n : ℕ) (b : Band) → set_has (side_at i W) (rows i) b n ≡ true → (0 < (rows i).length) × (n ≤ last_set (rows i))
  unfolding set_has set_row
  is_set i n b e =
      let first = first_set (rows i) (down b) in
      let here = both_true (ltb 0 (count (across b) (side_at i W))) (both (leb first n) (ltb (n - first) (count (down b) (rows i)))) e in
      let there = both_true (leb first n) (ltb (n - first) (count (down b) (rows i))) here.1 in
      half-set (rows i) (down b) n (leb-true first n there.0) (ltb-true (n - first) (count (down b) (rows i)) there.1)

  feeds-run : (m i n : ℕ) (s : ℕ → ℕ) → m ≡ L - suc i → Open i s → s i ≡ n → Above m i n s → (bs : List Band) →
      Runs s (calls (feed_all (rows_of (suc i) (side_at i W) (rows i) n bs))) s
  unfolding calls feed_all rows_of
  feeds-run m i n s l o e a [] = stop
  feeds-run m i n s l o e a (b ∷ bs) =
      let rest = feeds-run m i n s l o e a bs in
      elim (set_has (side_at i W) (rows i) b n) as (λ t. set_has (side_at i W) (rows i) b n ≡ t → Runs s (calls (feed_all (pick t
      (row_name (suc i) b (set_row (rows i) b n) ∷ rows_of (suc i) (side_at i W) (rows i) n bs) (rows_of (suc i) (side_at i W) (rows i) n bs)))) s) [
        | true ↦ λ t.
            let x = number_is i n b t in
            step (feeds i refl (subst (λ (k : ℕ). (0 < (rows i).length) × (k ≤ last_set (rows i))) (sym x) (is_set i n b t)) o (e ∙ sym x)
            (subst (λ (k : ℕ). Above (L - suc i) i k s) (sym x) (subst (λ (k : ℕ). Above k i n s) l a))) rest
        | false ↦ λ t. rest
      ] refl

  -- a set of level i + 1 more leaves the levels after it as they were
  stand-bump : {m i n : ℕ} {s : ℕ → ℕ} (j : ℕ) → j < i → Stand m i n s → Stand m i n (bump j s)
  stand-bump {i = i} {s = s} j b (last e) = last (bump-other j s i (λ z. omega arith) ∙ e)
  stand-bump {i = i} {s = s} j b (more e d) = more (bump-other j s i (λ z. omega arith) ∙ e) (stand-bump j (omega arith) d)

  -- the fed rows of set n, then the set
  own-run : (m l i n : ℕ) (s : ℕ → ℕ) → m ≡ L - suc i → n ≤ last_set (rows i) → Open i s → s i ≡ n → Above m i n s →
      Runs s (calls (feed_all (set_rows l (suc i) (side_at i W) (rows i) n)) ++ (works (suc i) ((rows i).start / 2 + n) ∷ [])) (bump i s)
  unfolding set_rows
  own-run m l i n s e b o d a =
      join (feeds-run m i n s e o d a (handed_out l)) (work i ((rows i).start / 2 + n) (omega arith) (ap (λ (k : ℕ). (rows i).start / 2 + k) (sym d)) stop)

  -- and before them its LL row
  low_run : (m i n : ℕ) (s : ℕ → ℕ) → SetRuns m (suc i) (set_w m (suc i)) → Open (suc i) s → Stand m (suc i) (deeper i n) s →
      Ran s (pick (leb (first_set (rows i) lo) n)
      (in_turn (sets_before (ahead f) (rows (suc i)) (suc (n - first_set (rows i) lo)) - deeper i n) (λ j. set_w m (suc i) (deeper i n + j))) [])
      m (suc i) (deeper i (suc n))
  low_run m i n s one o d =
      elim (dec_lt n (first_set (rows i) lo)) [
        | yes b ↦
            let e : suc n - first_set (rows i) lo ≡ n - first_set (rows i) lo = unfold first_set in omega arith in
            rw (lt-leb (first_set (rows i) lo) n b, e) (record { after = s; run = stop; stand = d; kept = λ j _. refl })
        | no b ↦
            let r = n - first_set (rows i) lo in
            let e : suc n - first_set (rows i) lo ≡ suc r = omega arith in
            let up = before-rises (ahead f) (rows (suc i)) r in
            let k = sets_before (ahead f) (rows (suc i)) (suc r) - deeper i n in
            let c : deeper i n + k ≡ sets_before (ahead f) (rows (suc i)) (suc r) = omega arith in
            let most = set_there (ahead f) (rows (suc i)) r in
            let all = before-suc (ahead f) (rows (suc i)) r in
            rw (le-leb (first_set (rows i) lo) n (omega arith), e)
            (subst (Ran s (in_turn k (λ j. set_w m (suc i) (deeper i n + j))) m (suc i)) c
            (turns-run m (suc i) (set_w m (suc i)) one (deeper i n) k s (omega arith) o d))
      ]

  open_more : (i : ℕ) (s : ℕ → ℕ) → Open i s → s i ≤ last_set (rows i) → Open (suc i) s
  open_more i s o b j c =
      elim (ℕ_discrete j i) [
        | yes e ↦ subst (λ (k : ℕ). s k ≤ last_set (rows k)) (sym e) b
        | no d ↦ o j (omega (arith, d))
      ]

  set-run : (m i : ℕ) → m ≡ L - suc i → SetRuns m i (set_w m i)
  unfolding set_w
  set-run zero i e n s b o (last d) = record {
    after = bump i s;
    run = own-run zero zero i n s e b o d none;
    stand = last (bump-own i s ∙ ap suc d);
    kept = λ j c. bump-other i s j (λ z. omega arith);
  }
  set-run (suc m) i e n s b o (more d t) =
      let p = low_run m i n s (set-run m (suc i) (omega arith)) (open_more i s o (omega arith)) t in
      let own : p.after i ≡ n = p.kept i (omega arith) ∙ d in
      record {
        after = bump i p.after;
        run = join p.run (own-run (suc m) (suc m) i n p.after e b (open_kept i s p.after (λ j c. p.kept j (omega arith)) o) own (some p.stand));
        stand = more (bump-own i p.after ∙ ap suc own) (stand-bump i (omega arith) p.stand);
        kept = λ j c. bump-other i p.after j (λ z. omega arith) ∙ p.kept j (omega arith);
      }

  -- ---- all of it
  unfoldable pub draw_w : ℕ → List Action
  draw_w r =
      in_turn (sets_before (ahead f) H (suc r) - sets_before (ahead f) H r) (λ j. set_w (L - 1) 0 (sets_before (ahead f) H r + j)) ++ (call (draw r) ∷ [])

  abbrev pub none_done : ℕ → ℕ
  none_done i = 0

  pub none-deeper : (i n : ℕ) → n ≤ first_set (rows i) lo → deeper i n ≡ 0
  none-deeper i n b =
      let e : n - first_set (rows i) lo ≡ 0 = omega arith in
      ap (sets_before (ahead f) (rows (suc i))) e ∙ before-zero (ahead f) (rows (suc i))

  start : (m i : ℕ) → Stand m i 0 none_done
  start zero i = last refl
  start (suc m) i = more refl (subst (λ (k : ℕ). Stand m (suc i) k none_done) (sym (none-deeper i 0 (omega arith))) (start m (suc i)))

  -- where nothing of a level is worked out, nothing of a coarser one is
  pub stand-none : {t : ℕ → ℕ} (m i n : ℕ) → n ≡ 0 → Stand m i n t → (j : ℕ) → i ≤ j → j ≤ i + m → t j ≡ 0
  stand-none {t} zero i n z s j a b = let e : i ≡ j = omega arith in subst (λ (h : ℕ). t h ≡ 0) e (stands s ∙ z)
  stand-none {t} (suc m) i n z (more e d) j a b =
      elim (ℕ_discrete i j) [
        | yes y ↦ subst (λ (h : ℕ). t h ≡ 0) y (e ∙ z)
        | no y ↦ stand-none m (suc i) (deeper i n) (none-deeper i n (omega arith)) d j (omega (arith, y)) (omega arith)
      ]

  draw-run : (r : ℕ) (s : ℕ → ℕ) → r < H.length → Stand (L - 1) 0 (sets_before (ahead f) H r) s → Ran s (draw_w r) (L - 1) 0 (sets_before (ahead f) H (suc r))
  unfolding draw_w side_at
  draw-run r s b d =
      let k = sets_before (ahead f) H (suc r) - sets_before (ahead f) H r in
      let up = before-rises (ahead f) H r in
      let c : sets_before (ahead f) H r + k ≡ sets_before (ahead f) H (suc r) = omega arith in
      let most = set_there (ahead f) H r in
      let all = before-suc (ahead f) H r in
      let p = turns-run (L - 1) 0 (set_w (L - 1) 0) (set-run (L - 1) 0 refl) (sets_before (ahead f) H r) k s (omega arith) (λ j z. absurd (omega arith)) d in
      let t = subst (λ (n : ℕ). Stand (L - 1) 0 n p.after) c p.stand in
      record { after = p.after; run = join p.run (step (draws b t) stop); stand = t; kept = p.kept }

  pub all-run : (n : ℕ) → n ≤ H.length → Ran none_done (in_turn n draw_w) (L - 1) 0 (sets_before (ahead f) H n)
  all-run zero b =
      rw (turn-zero, before-zero (ahead f) H) (record { after = none_done; run = stop; stand = start (L - 1) 0; kept = λ j _. refl })
  all-run (suc n) b =
      let p = all-run n (omega arith) in
      let q = draw-run n p.after (omega arith) p.stand in
      rw turn_suc (record { after = q.after; run = join p.run q.run; stand = q.stand; kept = λ j c. q.kept j c ∙ p.kept j c })
