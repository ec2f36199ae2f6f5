-- The reader that stands meets what the turns ask of a reader (`standing-laws`), by its demand 3 alone: nothing here looks at a state. So the theorem
-- holds of readers that stand, of whatever shapes (`standing-in-turn`). Assumes nothing.
use mathlib.Core.Path.{◌≡◌, refl, sym, ap, ap₂, subst, ◌∙◌}
use mathlib.Core.Bool.{Bool, true, false}
use mathlib.Core.List.{List, [], ◌∷◌, ◌++◌, append-nil, append_assoc}
use Prim.Native.Nat.{ℕ, zero, suc, ◌+◌, ◌≤◌}
use native.Mathlib.Omega.{arith}
use lib.IntN.{ℤ}
use lib.Dec.{eqb, leb}
use lib.ListN.{length, drop, length-append}
use borrow.Author.Tests.{eq-eqb}
use Rattle.numbers.specs.Signal.{pick}
use Rattle.lifting.specs.Grid.{Side}
use Rattle.wavelet.specs.Limits.{max_origin}
use Rattle.wavelet.specs.Order.{RowName, row_name}
use Rattle.wavelet.specs.Questions.{ask}
use Rattle.wavelet.specs.Steps.{steps, Step, band_rows_of}
use Rattle.wavelet.specs.Steps as step
use Rattle.wavelet.specs.View.{band_columns}
use Rattle.calls.specs.Lists.{Reply, gives, refused, Area, gathered}
use Rattle.calls.specs.Lists as lists
use Rattle.calls.proofs.ListLaws.{ever-snoc, events-snoc, gathered_snoc}
use Rattle.reader_steps.specs.Sets.{ahead}
use Rattle.reader_steps.proofs.Looks.{named-code}
use Rattle.filters.specs.Figures.{store_by}
use Rattle.reader.specs.Questions.{run_fits, store_fits, set_up_question}
use Rattle.reader.specs.Demand3.{Call, want, feed, draw, Given, heights, Event, wanted, fed, drew, World, event, events, final, fresh_world}
use Rattle.reader.specs.Demand3.{goes_on, rest, left_by, left, ends, ended_by, want_says, feed_away, feed_turned, draw_gives, draw_says, OneOf, this, that}
use Rattle.reader.specs.Demand3.{on_top, Draws, Demand3, OfCalls}
use Rattle.reader.specs.Demand3 as demand
use Rattle.reader.proofs.CallLists.{left-append}
use Rattle.reader.proofs.Demand3.{demand-3}
use Rattle.reader.proofs.Played.{set-up-room}
use Rattle.fair_turns.specs.Reading.{ReadingLaws}
use Rattle.fair_turns.specs.Together as together
use Rattle.fair_turns.specs.FedInTurn.{moments, InTurn, FedInOrder}
use Rattle.fair_turns.specs.Standing.{names_row, takes_run, of_map, all_of_map, names_of, from_stop, FitsRow, reading, over, standing}
use Rattle.fair_turns.proofs.Fed.{fed-in-turn}

-- one row less
drop-next : {A : Type 0} (k : ℕ) (l : List A) (y : A) (t : List A) → y ∷ t ≡ drop k l → t ≡ drop (suc k) l
drop-next zero [] y t e = absurd (let z : ◌≡◌ {A = ℕ} 0 1 = cc in omega arith)
drop-next zero (a ∷ l) y t e = cc
drop-next (suc k) [] y t e = absurd (let z : ◌≡◌ {A = ℕ} 0 1 = cc in omega arith)
drop-next (suc k) (a ∷ l) y t e = drop-next k l y t e

pub neither : (p q : Bool) → pick p true q ≡ false → (p ≡ false) × (q ≡ false)
neither true q e = absurd (let z : ◌≡◌ {A = ℕ} 0 1 = cc in omega arith)
neither false q e = (refl, e)

-- ---- names by the stop
from_on : (b k : ℕ) → from_stop b (on_top b k) ≡ k
from_on zero k = refl
from_on (suc b) k = omega arith

names_more : (b : ℕ) (y : RowName) (l : List RowName) → names_of b (y ∷ l) ≡ of_map b y ∷ names_of b l
unfolding all_of_map
names_more zero y l = refl
names_more (suc b) y l = refl

names-drop : (b k : ℕ) (l : List RowName) → drop k (names_of b l) ≡ names_of b (drop k l)
unfolding all_of_map
names-drop zero k l = refl
names-drop (suc b) k l = go k l
  where
    go : (k : ℕ) (l : List RowName) → drop k (all_of_map (suc b) l) ≡ all_of_map (suc b) (drop k l)
    go zero l = refl
    go (suc k) [] = refl
    go (suc k) (x ∷ l) = go k l

-- ---- what a want names, and what a feed is turned away by
module _ (f b : ℕ) (W : Side) where
  -- a row is named where it is the next step
  asks-row : (e : Bool) (t : List Step) (x : RowName) → names_row (wanted (gives (want_says b W e t))) ≡ x ∷ [] →
      (e ≡ false) × ((y : RowName) × ((u : List Step) × ((t ≡ step.feed y ∷ u) × (of_map b y ≡ x))))
  unfolding names_row want_says
  asks-row true t x e = absurd (let z : ◌≡◌ {A = ℕ} 0 1 = cc in omega arith)
  asks-row false [] x e = absurd (let z : ◌≡◌ {A = ℕ} 0 1 = cc in omega arith)
  asks-row false (step.feed y ∷ t) x e =
      let same : of_map b y ≡ x = let z : row_name (on_top b y.level) y.band y.row ∷ [] ≡ x ∷ [] =
      ap (λ c. row_name (on_top b y.level) c y.row ∷ []) (sym (named-code y.band)) ∙ e in cc in
      (refl, (y, (t, (refl, same))))
  asks-row false (step.draw r ∷ t) x e = absurd (let z : ◌≡◌ {A = ℕ} 0 1 = cc in omega arith)

  names-it : (x : RowName) (t : List Step) → names_row (wanted (gives (want_says b W false (step.feed x ∷ t)))) ≡ of_map b x ∷ []
  unfolding names_row want_says
  names-it x t = ap (λ c. row_name (on_top b x.level) c x.row ∷ []) (named-code x.band)

  -- by no 14, and by nothing only where a row is the next step; n numbers of the store are lent
  away-not-fourteen : (d : Bool) (t : List Step) (a : Area) → eqb (feed_away f b W d t a) 14 ≡ false
  unfolding feed_away
  away-not-fourteen true t a = refl
  away-not-fourteen false [] a = refl
  away-not-fourteen false (step.draw r ∷ t) a = refl
  away-not-fourteen false (step.feed y ∷ t) a = go (eqb a.size (band_columns W y.level y.band)) (run_fits f (on_top b y.level) a.size a.numbers)
    where
      go : (p q : Bool) → eqb (ask p 13 (ask q 7 0)) 14 ≡ false
      go true true = refl
      go true false = refl
      go false q = refl

  not-fourteen : (L : ℕ) (d : Bool) (t : List Step) (n : ℕ) (a : Area) → eqb (feed_turned f b W L d t n a) 14 ≡ false
  unfolding feed_turned
  not-fourteen L d t n a = go (store_fits L n)
    where
      go : (p : Bool) → eqb (ask p 5 (feed_away f b W d t a)) 14 ≡ false
      go true = away-not-fourteen d t a
      go false = refl

  away-step : (d : Bool) (t : List Step) (a : Area) → feed_away f b W d t a ≡ 0 → (y : RowName) × ((u : List Step) × (t ≡ step.feed y ∷ u))
  unfolding feed_away
  away-step true t a e = absurd (omega arith)
  away-step false [] a e = absurd (omega arith)
  away-step false (step.draw r ∷ t) a e = absurd (omega arith)
  away-step false (step.feed y ∷ t) a e = (y, (t, refl))

  taken_step : (L : ℕ) (d : Bool) (t : List Step) (n : ℕ) (a : Area) → feed_turned f b W L d t n a ≡ 0 → (y : RowName) ×
      ((u : List Step) × (t ≡ step.feed y ∷ u))
  unfolding feed_turned
  taken_step L d t n a = go (store_fits L n)
    where
      go : (p : Bool) → ask p 5 (feed_away f b W d t a) ≡ 0 → (y : RowName) × ((u : List Step) × (t ≡ step.feed y ∷ u))
      go true e = away-step d t a e
      go false e = absurd (omega arith)

  fits-taken : (L n : ℕ) → store_fits L n ≡ true → (x : RowName) (t : List Step) (a : Area) → FitsRow f b W (of_map b x) a →
      feed_turned f b W L false (step.feed x ∷ t) n a ≡ 0
  unfolding feed_turned feed_away
  fits-taken L n room x t a h = rw
      (room, eq-eqb a.size (band_columns W x.level x.band) (h.size ∙ ap (λ k. band_columns W k x.band) (from_on b x.level)), h.numbers) refl

-- ---- what an event does to the steps left, t
pub data Effect (t : List Step) (e : Event) : Type 0 where
  same : goes_on e ≡ false → ends e ≡ false → takes_run e ≡ [] → Effect t e
  fed-on : (y : RowName) (u : List Step) (a : Area) → t ≡ step.feed y ∷ u → goes_on e ≡ true → takes_run e ≡ a ∷ [] → Effect t e
  drawn-on : (r : ℕ) (u : List Step) → t ≡ step.draw r ∷ u → goes_on e ≡ true → takes_run e ≡ [] → Effect t e
  fed-ends : (a : Area) → takes_run e ≡ a ∷ [] → ends e ≡ true → Effect t e
  drawn-ends : (r : ℕ) (u : List Step) → t ≡ step.draw r ∷ u → ends e ≡ true → Effect t e

-- a draw; p says whether the store that it is lent is long enough
drawn-effect : (W : Side) (t : List Step) (p : Bool) (a b : Area) (v : Reply Given) → OneOf v (pick p (draw_gives W false t a.size) (refused 5))
    (refused 14) →
    (v ≡ refused 14 → pick p (draw_gives W false t a.size) (refused 5) ≡ gives (heights W.length)) → Effect t (drew a v b)
unfolding draw_gives goes_on ends takes_run
drawn-effect W t false a b v (this e) possible = rw e (same refl refl refl)
drawn-effect W t false a b v (that e) possible = absurd (let g = possible e in let z : ◌≡◌ {A = ℕ} 0 1 = cc in omega arith)
drawn-effect W [] true a b v (this e) possible = rw e (same refl refl refl)
drawn-effect W (step.feed y ∷ t) true a b v (this e) possible = rw e (same refl refl refl)
drawn-effect W (step.draw r ∷ t) true a b v (this e) possible = rw e (go (leb W.length a.size))
  where
    go : (q : Bool) → Effect (step.draw r ∷ t) (drew a (pick q (gives (heights W.length)) (refused 12)) b)
    go true = drawn-on r t refl refl refl
    go false = same refl refl refl
drawn-effect W [] true a b v (that e) possible = absurd (let g = possible e in let z : ◌≡◌ {A = ℕ} 0 1 = cc in omega arith)
drawn-effect W (step.feed y ∷ t) true a b v (that e) possible = absurd (let g = possible e in let z : ◌≡◌ {A = ℕ} 0 1 = cc in omega arith)
drawn-effect W (step.draw r ∷ t) true a b v (that e) possible = rw e (drawn-ends r t refl refl)

-- ---- what is taken of a claim over its lists: wants, feeds and draws, up to 14. M numbers of the store are needed
pub record Walks (f b M : ℕ) (W H : Side) (L : ℕ) (es : List Event) (then : Call → Event) : Type 0 where
  pub wants : then want ≡ wanted (gives (want_says b W (ended_by es) (left (steps (ahead f) W H L) es)))
  pub feeds_turned : (n : ℕ) (a : Area) (q : ℕ) → feed_turned f b W M (ended_by es) (left (steps (ahead f) W H L) es) n a ≡ suc q →
      then (feed n a) ≡ fed a (refused (suc q))
  pub feeds_on : (n : ℕ) (a : Area) → feed_turned f b W M (ended_by es) (left (steps (ahead f) W H L) es) n a ≡ 0 →
      OneOf (then (feed n a)) (fed a (gives tt)) (fed a (refused 14))
  pub draws : (n : ℕ) (a : Area) → Draws W M (ended_by es) (left (steps (ahead f) W H L) es) n a (then (draw n a))

-- ---- every list of calls on the fresh reader, in the world w₀
module _ (f b M : ℕ) (W H : Side) (L m : ℕ) (w₀ : World) (claim : (cs : List Call) → Walks f b M W H L (events cs w₀) (λ c. event c (final cs w₀)))
    (room : store_fits M m ≡ true) where
  abbrev T₀ : List Step
  T₀ = steps (ahead f) W H L

  pub effect : (cs : List Call) (c : Call) → ended_by (events cs w₀) ≡ false → Effect (left T₀ (events cs w₀)) (event c (final cs w₀))
  unfolding event goes_on ends takes_run draw_says
  effect cs want h = same refl refl refl
  effect cs (feed n a) h = go (feed_turned f b W M (ended_by (events cs w₀)) (left T₀ (events cs w₀)) n a) refl
    where
      on : feed_turned f b W M (ended_by (events cs w₀)) (left T₀ (events cs w₀)) n a ≡ 0 →
          OneOf (event (feed n a) (final cs w₀)) (fed a (gives tt)) (fed a (refused 14)) → Effect (left T₀ (events cs w₀)) (event (feed n a) (final cs w₀))
      on z (this e) = let s = taken_step f b W M _ _ n a z in subst (Effect (left T₀ (events cs w₀))) (sym e) (fed-on s.0 s.1.0 a s.1.1 refl refl)
      on z (that e) = subst (Effect (left T₀ (events cs w₀))) (sym e) (fed-ends a refl refl)

      go : (q : ℕ) → feed_turned f b W M (ended_by (events cs w₀)) (left T₀ (events cs w₀)) n a ≡ q →
          Effect (left T₀ (events cs w₀)) (event (feed n a) (final cs w₀))
      go zero z = on z ((claim cs).feeds_on n a z)
      go (suc q) z =
          let no : eqb (suc q) 14 ≡ false = ap (λ k. eqb k 14) (sym z) ∙ not-fourteen f b W M (ended_by (events cs w₀)) (left T₀ (events cs w₀)) n a in
          subst (Effect (left T₀ (events cs w₀))) (sym ((claim cs).feeds_turned n a q z)) (same refl no (ap (λ b. pick b (a ∷ []) []) no))
  effect cs (draw n a) h =
      let d = (claim cs).draws n a in
      subst (Effect (left T₀ (events cs w₀))) (sym d.is)
      (drawn-effect W (left T₀ (events cs w₀)) (store_fits M n) a d.after d.answer
      (subst (λ v. OneOf d.answer (pick (store_fits M n) (draw_gives W v (left T₀ (events cs w₀)) a.size) (refused 5)) (refused 14)) h d.says)
      (λ e. ap (λ v. pick (store_fits M n) (draw_gives W v (left T₀ (events cs w₀)) a.size) (refused 5)) (sym h) ∙ d.possible e))

  -- one call more
  module _ (cs : List Call) (d : Call) where
    abbrev es : List Event
    es = events cs w₀

    abbrev seen : Event
    seen = event d (final cs w₀)

    after : events (cs ++ (d ∷ [])) w₀ ≡ es ++ (seen ∷ [])
    after = events-snoc event demand.next cs d w₀

    left_after : left T₀ (events (cs ++ (d ∷ [])) w₀) ≡ pick (goes_on seen) (rest (left T₀ es)) (left T₀ es)
    unfolding left left_by
    left_after = ap (left T₀) after ∙ left-append T₀ es (seen ∷ [])

    pub ended-after : ended_by (events (cs ++ (d ∷ [])) w₀) ≡ pick (ended_by es) true (ends seen)
    ended-after = ap ended_by after ∙ ever-snoc ends es seen

    pub taken-after : gathered takes_run (events (cs ++ (d ∷ [])) w₀) ≡ gathered takes_run es ++ takes_run seen
    taken-after = ap (gathered takes_run) after ∙ gathered_snoc takes_run es seen

  -- ---- as many band rows are gone from the steps as runs were taken
  abbrev Counted : List Call → Type 0
  Counted cs = ended_by (events cs w₀) ≡ false → band_rows_of (left T₀ (events cs w₀)) ≡ drop (length (gathered takes_run (events cs w₀))) (band_rows_of T₀)

  -- v are the runs taken before, and t the steps left before
  counted-by : (t : List Step) (e : Event) (v : List Area) → band_rows_of t ≡ drop (length v) (band_rows_of T₀) → ends e ≡ false → Effect t e →
      band_rows_of (pick (goes_on e) (rest t) t) ≡ drop (length (v ++ takes_run e)) (band_rows_of T₀)
  unfolding band_rows_of
  counted-by t e v h k (same g n s) = rw (g, s, append-nil v) h
  counted-by t e v h k (fed-on y u a i g s) =
      let one : length (v ++ (a ∷ [])) ≡ suc (length v) = let l = length-append v (a ∷ []) in omega arith in
      rw (g, s, one, i) (drop-next (length v) (band_rows_of T₀) y (band_rows_of u) (sym (ap band_rows_of i) ∙ h))
  counted-by t e v h k (drawn-on r u i g s) = rw (g, s, append-nil v, i) (sym (ap band_rows_of i) ∙ h)
  counted-by t e v h k (fed-ends a s n) = absurd (let z : true ≡ false = sym n ∙ k in let y : ◌≡◌ {A = ℕ} 0 1 = cc in omega arith)
  counted-by t e v h k (drawn-ends r u i n) = absurd (let z : true ≡ false = sym n ∙ k in let y : ◌≡◌ {A = ℕ} 0 1 = cc in omega arith)

  counted-call : (cs : List Call) (d : Call) → Counted cs → Counted (cs ++ (d ∷ []))
  counted-call cs d h n =
      let b = neither (ended_by (events cs w₀)) (ends (event d (final cs w₀))) (sym (ended-after cs d) ∙ n) in
      ap band_rows_of (left_after cs d)
      ∙ counted-by (left T₀ (events cs w₀)) (event d (final cs w₀)) (gathered takes_run (events cs w₀)) (h b.0) b.1 (effect cs d b.0)
      ∙ ap (λ l. drop (length l) (band_rows_of T₀)) (sym (taken-after cs d))

  counted-list : (ds cs : List Call) → Counted cs → Counted (cs ++ ds)
  counted-list [] cs h = subst Counted (sym (append-nil cs)) h
  counted-list (d ∷ ds) cs h = subst Counted (append_assoc cs (d ∷ []) ds) (counted-list ds (cs ++ (d ∷ [])) (counted-call cs d h))

  pub counted : (cs : List Call) → Counted cs
  unfolding lists.events lists.gathered left
  counted cs = counted-list cs [] (λ n. refl)

  -- ---- a row that is named
  record Named (cs : List Call) (x : RowName) : Type 0 where
    live : ended_by (events cs w₀) ≡ false
    name : RowName
    is : of_map b name ≡ x
    later : List Step
    next : left T₀ (events cs w₀) ≡ step.feed name ∷ later

  is-named : (cs : List Call) (c : Call) (x : RowName) → names_row (event c (final cs w₀)) ≡ x ∷ [] → Named cs x
  unfolding event names_row
  is-named cs want x e =
      let a = asks-row f b W (ended_by (events cs w₀)) (left T₀ (events cs w₀)) x (ap names_row (sym (claim cs).wants) ∙ e) in
      record { live = a.0; name = a.1.0; is = a.1.1.1.1; later = a.1.1.0; next = a.1.1.1.0 }
  is-named cs (feed n a) x e = absurd (let z : ◌≡◌ {A = ℕ} 0 1 = cc in omega arith)
  is-named cs (draw n a) x e = absurd (let z : ◌≡◌ {A = ℕ} 0 1 = cc in omega arith)

  named-is : (cs : List Call) (x : RowName) → Named cs x → names_row (event want (final cs w₀)) ≡ x ∷ []
  named-is cs x n =
      ap names_row ((claim cs).wants ∙ ap₂ (λ d t. wanted (gives (want_says b W d t))) n.live n.next) ∙ names-it f b W n.name n.later
      ∙ ap (λ y. y ∷ []) n.is

  stays : (cs : List Call) (d : Call) (x : RowName) → Named cs x → takes_run (event d (final cs w₀)) ≡ [] →
      Effect (left T₀ (events cs w₀)) (event d (final cs w₀)) → Named (cs ++ (d ∷ [])) x
  stays cs d x n s (same g k t) = record {
    live = ended-after cs d ∙ ap₂ (λ p q. pick p true q) n.live k;
    name = n.name;
    is = n.is;
    later = n.later;
    next = left_after cs d ∙ ap (λ b. pick b (rest (left T₀ (events cs w₀))) (left T₀ (events cs w₀))) g ∙ n.next;
  }
  stays cs d x n s (fed-on y u a i g t) = absurd (let z : a ∷ [] ≡ [] = sym t ∙ s in let y : ◌≡◌ {A = ℕ} 0 1 = cc in omega arith)
  stays cs d x n s (drawn-on r u i g t) =
      absurd (let z : step.draw r ∷ u ≡ step.feed n.name ∷ n.later = sym i ∙ n.next in let y : ◌≡◌ {A = ℕ} 0 1 = cc in omega arith)
  stays cs d x n s (fed-ends a t k) = absurd (let z : a ∷ [] ≡ [] = sym t ∙ s in let y : ◌≡◌ {A = ℕ} 0 1 = cc in omega arith)
  stays cs d x n s (drawn-ends r u i k) =
      absurd (let z : step.draw r ∷ u ≡ step.feed n.name ∷ n.later = sym i ∙ n.next in let y : ◌≡◌ {A = ℕ} 0 1 = cc in omega arith)

  takes_it : (a : Area) (e : Event) → OneOf e (fed a (gives tt)) (fed a (refused 14)) → takes_run e ≡ a ∷ []
  unfolding takes_run
  takes_it a e (this i) = ap takes_run i
  takes_it a e (that i) = ap takes_run i

  next_of : (cs : List Call) (x : RowName) → Named cs x →
      (let k = length (gathered takes_run (events cs w₀)) in let R = names_of b (band_rows_of T₀) in drop k R ≡ x ∷ drop (suc k) R)
  next_of cs x n =
      let k = length (gathered takes_run (events cs w₀)) in
      let y = n.name in
      let here : y ∷ band_rows_of n.later ≡ drop k (band_rows_of T₀) = unfold band_rows_of in (sym (ap band_rows_of n.next) ∙ counted cs n.live) in
      names-drop b k (band_rows_of T₀)
      ∙ ap (names_of b) (sym here ∙ ap (λ l. y ∷ l) (drop-next k (band_rows_of T₀) y (band_rows_of n.later) here))
      ∙ names_more b y (drop (suc k) (band_rows_of T₀))
      ∙ ap₂ (λ z l. z ∷ l) n.is (sym (names-drop b (suc k) (band_rows_of T₀)))

  pub reading-laws : ReadingLaws (reading f b W H L m w₀)
  reading-laws = record {
    names_next = λ cs c x e. next_of cs x (is-named cs c x e);
    names_stay = λ cs c d x e s. let n = is-named cs c x e in named-is (cs ++ (d ∷ [])) x (stays cs d x n s (effect cs d n.live));
    takes_named = λ cs c x a e h.
        let n = is-named cs c x e in
        takes_it a (event (feed m a) (final cs w₀))
        ((claim cs).feeds_on m a (ap₂ (λ d t. feed_turned f b W M d t m a) n.live n.next
        ∙ fits-taken f b W M m room n.name n.later a (subst (λ y. FitsRow f b W y a) (sym n.is) h)));
  }

-- ---- by demand 3
module _ (f b e : ℕ) (W H : Side) (L m : ℕ) (x₀ : ℕ → ℤ) (of_calls : (cs : List Call) → OfCalls f b e W H L x₀ cs)
    (room : store_fits (on_top e (store_by f W L)) m ≡ true) where
  pub over-laws : ReadingLaws (over f b e W H L m x₀)
  over-laws = reading-laws f b (on_top e (store_by f W L)) W H L m (fresh_world f b e W H L x₀) (λ cs. walks (of_calls cs).claim) room
    where
      walks : {es : List Event} {then : Call → Event} → Demand3 f b e W H L es then → Walks f b (on_top e (store_by f W L)) W H L es then
      walks c = record { wants = c.wants; feeds_turned = c.feeds_turned; feeds_on = c.feeds_on; draws = c.draws }

-- ---- with no stop
pub standing-laws : (f : ℕ) (W H : Side) (L m : ℕ) → W.start ≤ max_origin → H.start ≤ max_origin → set_up_question f W H L m ≡ 0 → (x : ℕ → ℤ) →
    ReadingLaws (standing f W H L m x)
standing-laws f W H L m across down ok x = over-laws f 0 0 W H L m x (demand-3 f W H L m across down ok x) (set-up-room f W H L m ok)

-- ---- so sixteen of them, of whatever filters, sizes, levels and stores, of which reader n was set up by a call that passed
pub standing-in-turn : (f : ℕ → ℕ) (W H : ℕ → Side) (L m : ℕ → ℕ) (x : ℕ → ℕ → ℤ) (n : ℕ) → (W n).start ≤ max_origin → (H n).start ≤ max_origin →
    set_up_question (f n) (W n) (H n) (L n) (m n) ≡ 0 → (disk : RowName → Area) →
    (w : together.World (λ k. standing (f k) (W k) (H k) (L k) (m k) (x k))) → w.readers n ≡ fresh_world (f n) 0 0 (W n) (H n) (L n) (x n) →
    (cs : List (together.Call (λ k. standing (f k) (W k) (H k) (L k) (m k) (x k)))) →
    InTurn (standing (f n) (W n) (H n) (L n) (m n) (x n)) n disk false [] (moments (λ k. standing (f k) (W k) (H k) (L k) (m k) (x k)) n
    (together.events (λ k. standing (f k) (W k) (H k) (L k) (m k) (x k)) cs w)) →
    FedInOrder (λ k. standing (f k) (W k) (H k) (L k) (m k) (x k)) n disk
    (together.events (λ k. standing (f k) (W k) (H k) (L k) (m k) (x k)) cs w)
    (λ c. event c ((together.final (λ k. standing (f k) (W k) (H k) (L k) (m k) (x k)) cs w).readers n))
standing-in-turn f W H L m x n across down ok disk w at cs i =
    fed-in-turn (λ k. standing (f k) (W k) (H k) (L k) (m k) (x k)) n (standing-laws (f n) (W n) (H n) (L n) (m n) across down ok (x n)) disk w at cs i
