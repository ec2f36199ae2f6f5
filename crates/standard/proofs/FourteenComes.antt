-- When 14 comes: in the first call by which a set that does not fit is worked out. Where all sets worked out before a feed fit, FeedFits asks no more than
-- the set that its row completes (`feed-fits`), SetsFit of a draw nothing more (`draw-fits`); and a set without a fed row that does not fit is found by the
-- very next feed or draw (`feed-finds`, `draw-finds`). Assumes nothing.
use mathlib.Core.Path.{◌≡◌, refl, sym, ap, ◌∙◌, subst}
use mathlib.Core.Logic.{◌↔◌}
use mathlib.Core.Bool.{true}
use mathlib.Core.List.{List, [], ◌∷◌, ◌++◌}
use Prim.Native.Nat.{ℕ, suc, ◌+◌, ◌-◌, ◌*◌, ◌/◌, ◌≤◌, ◌<◌}
use native.Mathlib.Omega.{arith}
use Rattle.lifting.specs.Grid.{Side}
use Rattle.calls.specs.Lists.{All, all_more}
use Rattle.wavelet.specs.Bands.{Band}
use Rattle.wavelet.specs.Order.{RowName, row_name, in_turn}
use Rattle.wavelet.specs.Steps.{feed, draw}
use Rattle.wavelet.proofs.OrderLaws.{turn_suc}
use Rattle.reader.specs.Rebuilt.{Rows}
use Rattle.standard.specs.Line.{over}
use Rattle.standard.specs.Transform.{level_of}
use Rattle.standard.specs.WriterOrder.{between}
use Rattle.standard.specs.Fourteen.{needed_set, set_of_row, completes, Some, Unfed, Fed, AllFit, NeededFit}
use Rattle.standard.specs.Schedule.{Action, call, works, schedule, calls_of}
use Rattle.standard.proofs.ReaderWords.{SetsFit, FeedFits}
use Rattle.standard.proofs.FourteenTheorems.{Fits, feed-due, draw-due}
use Rattle.standard.proofs.ScheduleTheorems.{Worked, feed-worked, draw-worked, draw-in, unfed-feed, unfed-draw}

-- the last of some sets in order
all-last : (P : ℕ → Type 0) (l : List ℕ) (b : ℕ) → All P (l ++ (b ∷ [])) → P b
all-last P [] b (all_more x r) = x
all-last P (c ∷ l) b (all_more x r) = all-last P l b r

last_of : (P : ℕ → Type 0) (a b : ℕ) → a ≤ b → All P (between a (b + 1) (λ g. g ∷ [])) → P b
unfolding between
last_of P a b h r =
    let e : b + 1 - a ≡ suc (b - a) = omega arith in
    let d : a + (b - a) ≡ b = omega arith in
    all-last P (in_turn (b - a) (λ i. (a + i) ∷ [])) b
    (subst (All P)
    (ap (λ (n : ℕ). in_turn n (λ i. (a + i) ∷ [])) e
    ∙ turn_suc (b - a) (λ i. (a + i) ∷ [])
    ∙ ap (λ (g : ℕ). in_turn (b - a) (λ i. (a + i) ∷ []) ++ (g ∷ [])) d) r)

module _ (f : ℕ) (W H : Side) (L : ℕ) (P : Rows) where
  abbrev pub AllFitting : List Action → Type 0
  AllFitting = AllFit f (over W) (over H) L (Fits f W H L P)

  pub feed-fits : (p q : List Action) (k : ℕ) (b : Band) (r : ℕ) → schedule f (over W) (over H) L ≡ p ++ (call (feed (row_name (suc k) b r)) ∷ q)
      → AllFitting p
      → FeedFits f W H L P (row_name (suc k) b r) (calls_of q)
      ↔ (completes (over H) (row_name (suc k) b r) (calls_of q) ≡ true → Fits f W H L P k (set_of_row (over H) (row_name (suc k) b r)))
  feed-fits p q k b r e all = (
    λ s. ((feed-due f W H L P k b r (calls_of q) w.range.0 w.range.1).0 s).0.own,
    λ s.
        (feed-due f W H L P k b r (calls_of q) w.range.0 w.range.1).1
        (record { unfed = kind (Unfed f (over W) (over H) L); own = s }, kind (Fed f (over W) (over H) L)),
  )
    where
      x : RowName
      x = row_name (suc k) b r

      w : Worked f W H L p x k
      w = feed-worked f W H L p q x e k refl

      kind : (Kind : ℕ → ℕ → Type 0) → (level_of k (over H)).i0 ≤ 2 * set_of_row (over H) x
          → NeededFit f (over W) (over H) L (Fits f W H L P) (suc k) (set_of_row (over H) x) Kind
      kind Kind h = record {
        fit = λ j l c _.
            let y = w.coarser h j l c in
            last_of (Fits f W H L P (suc k + j)) ((level_of (suc k + j) (over H)).i0 / 2) (needed_set f (over H) (suc k) (set_of_row (over H) x) j) y.0
            (subst (All (Fits f W H L P (suc k + j))) y.1 (all (suc k + j) l c));
      }

  pub draw-fits : (p q : List Action) (r : ℕ) → schedule f (over W) (over H) L ≡ p ++ (call (draw r) ∷ q) → AllFitting p → SetsFit f W H L P 0 r
  draw-fits p q r e all =
      (draw-due f W H L P r (draw-in f W H L p q r e)).1 (kind (Unfed f (over W) (over H) L), kind (Fed f (over W) (over H) L))
    where
      at : (j : ℕ) → j < L → Some f (over W) (over H) L j → Fits f W H L P j (needed_set f (over H) 0 (H.start + r) j)
      at j l c =
          let y = draw-worked f W H L p q r e j l c in
          last_of (Fits f W H L P j) ((level_of j (over H)).i0 / 2) (needed_set f (over H) 0 (H.start + r) j) y.0
          (subst (All (Fits f W H L P j)) y.1 (all j l c))

      kind : (Kind : ℕ → ℕ → Type 0) → NeededFit f (over W) (over H) L (Fits f W H L P) 0 (H.start + r) Kind
      kind Kind = record {
        fit = λ j l c _.
            let z : 0 + j ≡ j = omega arith in
            subst (λ (h : ℕ). Fits f W H L P h (needed_set f (over H) 0 (H.start + r) j)) (sym z)
            (at j (subst (λ (h : ℕ). h < L) z l) (subst (Some f (over W) (over H) L) z c));
      }

  -- a set without a fed row that was worked out before
  pub feed-finds : (p₁ p₂ q : List Action) (k g i : ℕ) (b : Band) (r : ℕ)
      → schedule f (over W) (over H) L ≡ (p₁ ++ (works (suc k) g ∷ p₂)) ++ (call (feed (row_name (suc i) b r)) ∷ q)
      → k < L → Some f (over W) (over H) L k → Unfed f (over W) (over H) L k g
      → FeedFits f W H L P (row_name (suc i) b r) (calls_of q) → Fits f W H L P k g
  feed-finds p₁ p₂ q k g i b r e deep cells unfed s =
      let x = row_name (suc i) b r in
      let n = unfed-feed f W H L p₁ p₂ q k g x e deep cells unfed i refl in
      let w = feed-worked f W H L (p₁ ++ (works (suc k) g ∷ p₂)) q x e i refl in
      let set = needed_set f (over H) (suc i) (set_of_row (over H) x) n.ahead-by in
      let due = ((feed-due f W H L P i b r (calls_of q) w.range.0 w.range.1).0 s).0.unfed n.low-row in
      subst (λ (h : ℕ). Fits f W H L P h g) (sym n.level-is)
      (subst (Fits f W H L P (suc i + n.ahead-by)) n.needs
      (due.fit n.ahead-by (subst (λ (h : ℕ). h < L) n.level-is deep) (subst (Some f (over W) (over H) L) n.level-is cells)
      (subst (λ (h : ℕ). Unfed f (over W) (over H) L h set) n.level-is (subst (Unfed f (over W) (over H) L k) (sym n.needs) unfed))))

  pub draw-finds : (p₁ p₂ q : List Action) (k g r : ℕ) → schedule f (over W) (over H) L ≡ (p₁ ++ (works (suc k) g ∷ p₂)) ++ (call (draw r) ∷ q)
      → k < L → Some f (over W) (over H) L k → Unfed f (over W) (over H) L k g → SetsFit f W H L P 0 r → Fits f W H L P k g
  draw-finds p₁ p₂ q k g r e deep cells unfed s =
      let n = unfed-draw f W H L p₁ p₂ q k g r e deep cells unfed in
      let z : k ≡ 0 + k = omega arith in
      let set = needed_set f (over H) 0 (H.start + r) k in
      let due = ((draw-due f W H L P r (draw-in f W H L (p₁ ++ (works (suc k) g ∷ p₂)) q r e)).0 s).0 in
      subst (λ (h : ℕ). Fits f W H L P h g) (sym z)
      (subst (Fits f W H L P (0 + k)) n
      (due.fit k (subst (λ (h : ℕ). h < L) z deep) (subst (Some f (over W) (over H) L) z cells)
      (subst (λ (h : ℕ). Unfed f (over W) (over H) L h set) z (subst (Unfed f (over W) (over H) L k) (sym n) unfed))))
