-- The tolerant reader (Q-10) meets what the turns ask of a reader, by what is said of every list of its calls (`tolerant-laws`). Fed at its turns from the
-- rounded plane of a map, it hands out no height that is off by more than the figure, whatever the others do (`near-in-turn`). Assumes nothing.
use mathlib.Core.Path.{◌≡◌, refl, sym, ap, ap₂, subst, ◌∙◌}
use mathlib.Core.Bool.{Bool, true, false}
use mathlib.Core.List.{List, [], ◌∷◌, ◌++◌, map, append-nil, append_assoc}
use Prim.Native.Nat.{ℕ, zero, suc, ◌≤◌, ◌<◌}
use native.Mathlib.Omega.{arith}
use lib.IntN.{ℤ, pos, nat_abs, ◌-ℤ◌}
use lib.Dec.{leb, eqb}
use lib.ListN.{length, take, drop, get_or}
use Rattle.numbers.specs.Signal.{pick}
use Rattle.lifting.specs.Grid.{Side, side}
use Rattle.lifting.specs.FiveThree.{five_three_filter}
use Rattle.wavelet.specs.Bands.{Grid}
use Rattle.wavelet.specs.Maps.{HasPlane}
use Rattle.wavelet.specs.Plane.{cells}
use Rattle.wavelet.specs.Order.{RowName}
use Rattle.wavelet.specs.Steps.{Step, band_rows_of}
use Rattle.wavelet.specs.Steps as step
use Rattle.calls.specs.Lists.{Reply, gives, refused, unless, Area, All, all_none, all_more, gathered}
use Rattle.calls.specs.Lists as lists
use Rattle.calls.proofs.AllLaws.{In, first, later}
use Rattle.calls.proofs.ListLaws.{events-snoc}
use Rattle.rounding.specs.Rounding.{rounded_plane}
use Rattle.rounding.specs.Figure.{error_bound}
use Rattle.reader.specs.Questions.{store_fits, tolerant_question}
use Rattle.reader.specs.Demand3.{Call, feed, draw, Given, heights, Event, wanted, fed, drew, World, event, events, final, left, ended_by, FedRow, fed_by}
use Rattle.reader.specs.Demand3.{fed_rows, drawn_rows, HasFedRow, feed_turned, draw_gives, draw_says, this, ends}
use Rattle.reader.specs.Demand3 as demand
use Rattle.reader.proofs.CallLists.{fed-append}
use Rattle.rounding_error.specs.Tolerant.{tolerant_world, HasRows, rows_in, steps_of, needed, FedFrom, Tolerant}
use Rattle.rounding_error.proofs.FedRounded.{row-exists}
use Rattle.rounding_error.proofs.TolerantLists.{set-up-in, tolerant-calls}
use Rattle.rounding_error.proofs.RoundedCalls.{rounded-calls}
use Rattle.fair_turns.specs.Reading.{Reading, ReadingLaws}
use Rattle.fair_turns.specs.Standing.{takes_run}
use Rattle.fair_turns.specs.Together as together
use Rattle.fair_turns.specs.FedInTurn.{moments, InTurn, FedInOrder}
use Rattle.fair_turns.specs.Tolerant.{tolerantly}
use Rattle.fair_turns.proofs.Fed.{fed-in-turn}
use Rattle.fair_turns.proofs.Projection.{reader-alone}
use Rattle.fair_turns.proofs.Standing.{neither, Walks, Effect, same, fed-on, drawn-on, fed-ends, drawn-ends, effect, ended-after, taken-after, counted}
use Rattle.fair_turns.proofs.Standing.{reading-laws}

-- ---- what the turns take of its claim
no-fourteen : (W : Side) (t : List Step) (p : Bool) (m : ℕ) → ◌≡◌ {A = Reply Given} (pick p (draw_gives W false t m) (refused 5)) (refused 14) → ⊥
unfolding draw_gives
no-fourteen W t false m e = let z : ◌≡◌ {A = ℕ} 5 14 = cc in omega arith
no-fourteen W [] true m e = let z : ◌≡◌ {A = ℕ} 0 1 = cc in omega arith
no-fourteen W (step.feed y ∷ t) true m e = let z : ◌≡◌ {A = ℕ} 0 1 = cc in omega arith
no-fourteen W (step.draw r ∷ t) true m e = go (leb W.length m) e
  where
    go : (q : Bool) → ◌≡◌ {A = Reply Given} (pick q (gives (heights W.length)) (refused 12)) (refused 14) → ⊥
    go true e = let z : ◌≡◌ {A = ℕ} 0 1 = cc in omega arith
    go false e = let z : ◌≡◌ {A = ℕ} 12 14 = cc in omega arith

walks : (W H L : ℕ) (es : List Event) (then : Call → Event) → Tolerant W H L es then → Walks 0 0 (needed W H L) (side 0 W) (side 0 H) L es then
unfolding draw_says
walks W H L es then c = record {
  wants = rw c.lives c.wants;
  feeds_turned = λ n a q z. c.feeds n a ∙ ap (λ v. fed a (unless v tt)) (turned n a ∙ z);
  feeds_on = λ n a z. this (c.feeds n a ∙ ap (λ v. fed a (unless v tt)) (turned n a ∙ z));
  draws = λ n a. let d = c.draws n a in rw c.lives (record {
    answer = draw_says (side 0 W) (needed W H L) false (left (steps_of W H L) es) n a.size;
    after = d.after;
    is = d.is;
    size = d.size;
    untouched = d.untouched;
    says = this refl;
    possible = λ e. absurd (no-fourteen (side 0 W) (left (steps_of W H L) es) (store_fits (needed W H L) n) a.size e);
  });
}
  where
    turned : (n : ℕ) (a : Area) → feed_turned 0 0 (side 0 W) (needed W H L) false (left (steps_of W H L) es) n a
        ≡ feed_turned 0 0 (side 0 W) (needed W H L) (ended_by es) (left (steps_of W H L) es) n a
    turned n a = ap (λ u. feed_turned 0 0 (side 0 W) (needed W H L) u (left (steps_of W H L) es) n a) (sym c.lives)

-- ---- the rows fed are the first of the steps, each with the run that was taken for it
abbrev fed_as : RowName → Area → FedRow
fed_as y a = record { row = y; run = a }

unfoldable paired : List RowName → List Area → List FedRow
paired [] bs = []
paired (y ∷ ys) [] = []
paired (y ∷ ys) (a ∷ bs) = fed_as y a ∷ paired ys bs

paired_none : (ys : List RowName) → paired ys [] ≡ []
unfolding paired
paired_none [] = refl
paired_none (y ∷ ys) = refl

paired-more : (ys : List RowName) (bs : List Area) (y : RowName) (t : List RowName) (a : Area) → drop (length bs) ys ≡ y ∷ t →
    paired ys (bs ++ (a ∷ [])) ≡ paired ys bs ++ (fed_as y a ∷ [])
unfolding paired
paired-more [] [] y t a e = absurd (let z : ◌≡◌ {A = ℕ} 0 1 = cc in omega arith)
paired-more [] (b ∷ bs) y t a e = absurd (let z : ◌≡◌ {A = ℕ} 0 1 = cc in omega arith)
paired-more (x ∷ ys) [] y t a e =
    let z : x ≡ y = cc in
    ap₂ (λ (v : RowName) l. fed_as v a ∷ l) z (paired_none ys)
paired-more (x ∷ ys) (b ∷ bs) y t a e = ap (λ l. fed_as x b ∷ l) (paired-more ys bs y t a e)

-- an event that takes a run feeds it as the row that is next; another feeds none
fed-one : (e : Event) (y : RowName) (u : List Step) (a : Area) → takes_run e ≡ a ∷ [] → fed_by (step.feed y ∷ u) e ≡ fed_as y a ∷ []
unfolding takes_run fed_by
fed-one (wanted v) y u a e = absurd (let z : ◌≡◌ {A = ℕ} 0 1 = cc in omega arith)
fed-one (fed b (gives v)) y u a e = let z : b ≡ a = cc in ap (λ v. fed_as y v ∷ []) z
fed-one (fed b (refused q)) y u a e = go (eqb q 14) e
  where
    go : (p : Bool) → pick p (b ∷ []) [] ≡ a ∷ [] → pick p (fed_as y b ∷ []) [] ≡ fed_as y a ∷ []
    go true e = let z : b ≡ a = cc in ap (λ v. fed_as y v ∷ []) z
    go false e = absurd (let z : ◌≡◌ {A = ℕ} 0 1 = cc in omega arith)
fed-one (drew b v d) y u a e = absurd (let z : ◌≡◌ {A = ℕ} 0 1 = cc in omega arith)

fed-none : (e : Event) (t : List Step) → takes_run e ≡ [] → fed_by t e ≡ []
unfolding takes_run fed_by
fed-none (wanted v) t e = refl
fed-none (fed b (gives v)) t e = absurd (let z : ◌≡◌ {A = ℕ} 0 1 = cc in omega arith)
fed-none (fed b (refused q)) t e = go (eqb q 14) e
  where
    go : (p : Bool) → pick p (b ∷ []) [] ≡ [] → pick p (demand.fed_as t b) [] ≡ []
    go true e = absurd (let z : ◌≡◌ {A = ℕ} 0 1 = cc in omega arith)
    go false e = refl
fed-none (drew b v d) t e = refl

module _ (W H L : ℕ) (m : ℕ) (w₀ : World) (claim : (cs : List Call) → Tolerant W H L (events cs w₀) (λ c. event c (final cs w₀)))
    (room : store_fits (needed W H L) m ≡ true) where
  abbrev T₀ : List Step
  T₀ = steps_of W H L

  abbrev taken : List Call → List Area
  taken cs = gathered takes_run (events cs w₀)

  walk : (cs : List Call) → Walks 0 0 (needed W H L) (side 0 W) (side 0 H) L (events cs w₀) (λ c. event c (final cs w₀))
  walk cs = walks W H L _ _ (claim cs)

  -- 14 never comes
  goes : (cs : List Call) (d : Call) → ends (event d (final cs w₀)) ≡ true → ⊥
  goes cs d n =
      let y = (neither (ended_by (events cs w₀)) (ends (event d (final cs w₀)))
      (sym (ended-after 0 0 (needed W H L) (side 0 W) (side 0 H) L m w₀ walk room cs d) ∙ (claim (cs ++ (d ∷ []))).lives)).1 in
      let z : true ≡ false = sym n ∙ y in
      let o : ◌≡◌ {A = ℕ} 0 1 = cc in
      omega arith

  abbrev Paired : List Call → Type 0
  Paired cs = fed_rows T₀ (events cs w₀) ≡ paired (band_rows_of T₀) (taken cs)

  paired_by : (cs : List Call) (d : Call) (t : List Step) → left T₀ (events cs w₀) ≡ t → Paired cs → Effect t (event d (final cs w₀)) →
      fed_rows T₀ (events cs w₀) ++ fed_by t (event d (final cs w₀)) ≡ paired (band_rows_of T₀) (taken cs ++ takes_run (event d (final cs w₀)))
  unfolding band_rows_of
  paired_by cs d t at h (same g n s) = rw (s, fed-none (event d (final cs w₀)) t s, append-nil (taken cs), append-nil (fed_rows T₀ (events cs w₀))) h
  paired_by cs d t at h (fed-on y u a i g s) =
      let here = counted 0 0 (needed W H L) (side 0 W) (side 0 H) L m w₀ walk room cs (claim cs).lives in
      ap (λ v. fed_rows T₀ (events cs w₀) ++ fed_by v (event d (final cs w₀))) i
      ∙ ap₂ (λ l v. l ++ v) h (fed-one (event d (final cs w₀)) y u a s)
      ∙ sym (paired-more (band_rows_of T₀) (taken cs) y (band_rows_of u) a (sym here ∙ ap band_rows_of (at ∙ i)))
      ∙ ap (λ v. paired (band_rows_of T₀) (taken cs ++ v)) (sym s)
  paired_by cs d t at h (drawn-on r u i g s) =
      rw (s, fed-none (event d (final cs w₀)) t s, append-nil (taken cs), append-nil (fed_rows T₀ (events cs w₀))) h
  paired_by cs d t at h (fed-ends a s n) = absurd (goes cs d n)
  paired_by cs d t at h (drawn-ends r u i n) = absurd (goes cs d n)

  paired-call : (cs : List Call) (d : Call) → Paired cs → Paired (cs ++ (d ∷ []))
  unfolding fed_rows
  paired-call cs d h =
      let seen = event d (final cs w₀) in
      ap (fed_rows T₀) (events-snoc event demand.next cs d w₀)
      ∙ fed-append T₀ (events cs w₀) (seen ∷ [])
      ∙ ap (λ l. fed_rows T₀ (events cs w₀) ++ l) (append-nil (fed_by (left T₀ (events cs w₀)) seen))
      ∙ paired_by cs d (left T₀ (events cs w₀)) refl h
      (effect 0 0 (needed W H L) (side 0 W) (side 0 H) L m w₀ walk room cs d (claim cs).lives)
      ∙ ap (paired (band_rows_of T₀)) (sym (taken-after 0 0 (needed W H L) (side 0 W) (side 0 H) L m w₀ walk room cs d))

  paired-list : (ds cs : List Call) → Paired cs → Paired (cs ++ ds)
  paired-list [] cs h = subst Paired (sym (append-nil cs)) h
  paired-list (d ∷ ds) cs h = subst Paired (append_assoc cs (d ∷ []) ds) (paired-list ds (cs ++ (d ∷ [])) (paired-call cs d h))

  paired_calls : (cs : List Call) → Paired cs
  unfolding lists.events lists.gathered fed_rows
  paired_calls cs = paired-list cs [] (sym (paired_none (band_rows_of T₀)))

  -- ---- fed the first rows of its steps as the disk has them, it was fed from the plane that the disk has
  module _ (some : 1 ≤ L) (disk : RowName → Area) (x : ℕ → ℤ) (are : HasRows W H L x disk) where
    disk-rows : (ys : List RowName) (k : ℕ) → ((y : RowName) → In y ys → In y (band_rows_of T₀)) →
        All (HasFedRow (side 0 W) (rows_in W H x)) (paired ys (map disk (take k ys)))
    unfolding paired
    disk-rows [] zero sub = all_none
    disk-rows [] (suc k) sub = all_none
    disk-rows (y ∷ ys) zero sub = all_none
    disk-rows (y ∷ ys) (suc k) sub =
        let is = are.are y (row-exists W H L some y (sub y first)) in
        all_more (λ i p. is.values i (rw is.size p)) (disk-rows ys k (λ z i. sub z (later i)))

    pub fed-from : (cs : List Call) → taken cs ≡ map disk (take (length (taken cs)) (band_rows_of T₀)) → FedFrom W H L x (events cs w₀)
    fed-from cs e = record {
      rows = subst (All (HasFedRow (side 0 W) (rows_in W H x))) (sym (paired_calls cs ∙ ap (paired (band_rows_of T₀)) e))
          (disk-rows (band_rows_of T₀) (length (taken cs)) (λ y i. i));
    }

-- ---- the laws, of a set-up that passed
pub tolerant-laws : (W H L m : ℕ) → tolerant_question W H L m ≡ 0 → (x : ℕ → ℤ) → ReadingLaws (tolerantly W H L m x)
tolerant-laws W H L m ok x =
    reading-laws 0 0 (needed W H L) (side 0 W) (side 0 H) L m (tolerant_world W H L x)
    (λ cs. walks W H L _ _ (tolerant-calls W H L m ok x cs)) (set-up-in W H L m ok).room

-- ---- sixteen of them, of which reader n was set up by a call that passed
module _ (W H L m : ℕ → ℕ) (x : ℕ → ℕ → ℤ) (n : ℕ) (ok : tolerant_question (W n) (H n) (L n) (m n) ≡ 0) (disk : RowName → Area) where
  abbrev R : ℕ → Reading
  R k = tolerantly (W k) (H k) (L k) (m k) (x k)

  abbrev w₁ : World
  w₁ = tolerant_world (W n) (H n) (L n) (x n)

  module _ (w : together.World R) (at : w.readers n ≡ w₁) (cs : List (together.Call R))
      (i : InTurn (R n) n disk false [] (moments R n (together.events R cs w))) where
    pub tolerant-in-turn : FedInOrder R n disk (together.events R cs w) (λ c. event c ((together.final R cs w).readers n))
    tolerant-in-turn = fed-in-turn R n (tolerant-laws (W n) (H n) (L n) (m n) ok (x n)) disk w at cs i

    -- its own calls, and what they show
    abbrev own : List Event
    own = together.own_events R n (together.events R cs w)

    shows : own ≡ events (together.calls_of R n cs) w₁
    shows = (reader-alone R n cs w).shows ∙ ap (events (together.calls_of R n cs)) at

    pub near-in-turn : (q : ℕ) (g : Grid) (y : ℕ → ℤ) → 1 ≤ q → HasPlane five_three_filter (L n) (side 0 (W n)) (side 0 (H n)) g (cells (W n) y) →
        HasRows (W n) (H n) (L n) (rounded_plane (L n) (W n) (H n) q y) disk → (r c : ℕ) → r < length (drawn_rows own) → c < W n →
        nat_abs (get_or (drawn_rows own) r (λ _. pos 0) c -ℤ g r c) ≤ error_bound (L n) q
    near-in-turn q g y some has are r c u v =
        let mine = together.calls_of R n cs in
        let P = rounded_plane (L n) (W n) (H n) q y in
        let set-up = set-up-in (W n) (H n) (L n) (m n) ok in
        let taken : gathered takes_run (events mine w₁) ≡ map disk
        (take (length (gathered takes_run (events mine w₁))) (band_rows_of (steps_of (W n) (H n) (L n)))) =
        subst (λ es. gathered takes_run es ≡ map disk (take (length (gathered takes_run es)) (band_rows_of (steps_of (W n) (H n) (L n))))) shows
        tolerant-in-turn.fed in
        let from = fed-from (W n) (H n) (L n) (m n) w₁ (tolerant-calls (W n) (H n) (L n) (m n) ok (x n)) set-up.room set-up.some disk P are mine taken in
        subst (λ es. r < length (drawn_rows es) → nat_abs (get_or (drawn_rows es) r (λ _. pos 0) c -ℤ g r c) ≤ error_bound (L n) q) (sym shows)
        (λ b. (rounded-calls (W n) (H n) (L n) (m n) q ok some g y has (x n) mine).near from r c b v) u
