-- The reader fed and drawn as it wants. Proved from demand 3 alone: nothing here looks at a state. Assumes nothing.
use mathlib.Core.Bool.{Bool, true, false}
use mathlib.Core.Path.{◌≡◌, refl, sym, ap, ap₂, subst, ◌∙◌}
use mathlib.Core.List.{List, [], ◌∷◌, ◌++◌, map-append, append-nil, append_assoc}
use Prim.Native.Nat.{ℕ, zero, suc, ◌+◌, ◌-◌, ◌≤◌, ◌<◌}
use native.Mathlib.Omega.{arith}
use lib.IntN.{ℤ, nat_abs}
use lib.ListN.{length, length-append}
use lib.Dec.{T, leb, ltb}
use borrow.Author.Tests.{le-leb, eq-eqb, leb-true, ltb-true}
use Rattle.numbers.specs.Signal.{pick}
use Rattle.numbers.specs.Word.{whole}
use Rattle.wavelet.specs.Bands.{Grid, Band}
use Rattle.lifting.specs.Grid.{Side}
use Rattle.wavelet.specs.Levels.{level_band}
use Rattle.numbers.proofs.Sweep.{both}
use Rattle.wavelet.specs.Limits.{max_width, max_height, max_origin, range}
use Rattle.wavelet.specs.View.{band_rows, band_columns}
use Rattle.wavelet.specs.ViewCall.{band_row_exists, kept_at}
use Rattle.wavelet.specs.Steps.{steps, Step, band_rows_of}
use Rattle.wavelet.specs.Questions.{within}
use Rattle.wavelet.proofs.Bridge.{map-band-range}
use Rattle.numbers.proofs.TestLaws.{each-every}
use Rattle.wavelet.specs.Maps.{IsMap}
use Rattle.wavelet.specs.Order.{RowName, row_name, same_name, times}
use Rattle.wavelet.specs.Steps as step
use Rattle.calls.specs.Lists.{Reply, gives, refused, Area, All, all_none, all_more}
use Rattle.calls.specs.Lists as lists
use Rattle.calls.proofs.AllLaws.{all_append, In, first, later, in_left, in_right, all_in, in_all}
use Rattle.calls.proofs.ListLaws.{ever-append, final-append, events-append, events-length}
use Rattle.calls.proofs.QuestionLaws.{asked-yes}
use Rattle.filters.specs.Figures.{store_by}
use Rattle.filters.specs.Filters.{filter_of, is_filter}
use Rattle.filters.proofs.Filters.{filter-laws}
use Rattle.reader.specs.Answers.{row, draw_now, done, ended}
use Rattle.reader.specs.Questions.{run_fits, store_fits, set_up_question}
use Rattle.reader.specs.Demand3.{Call, want, feed, draw, Given, heights, Event, wanted, fed, drew, World, event, events}
use Rattle.reader.specs.Demand3.{final, fresh_world, goes_on, rest, left_by, left, ends, ended_by, FedRow, fed_by, fed_rows, HasRow}
use Rattle.reader.specs.Demand3.{IsRow, HasFed, want_says, feed_away, feed_turned, draw_gives, draw_says, OneOf, this, that, Draws, Demand3}
use Rattle.reader.specs.Demand3 as demand
use Rattle.reader.specs.Played.{as_wanted, answering, played, Sized, HasAll, Back, Stopped, Refusal, seven, fed_fourteen, drawn_fourteen, after, Played}
use Rattle.reader_steps.proofs.Looks.{named-code}
use Rattle.reader_steps.specs.Sets.{ahead}
use Rattle.reader.proofs.Reached.{names_of}
use Rattle.reader.proofs.Rebuilt.{same-name, same_self}
use Rattle.reader.proofs.CallLists.{left-append, fed-append, done-only}
use Rattle.reader.proofs.Demand3.{demand-3}

-- ---- names
in-names : (f : FedRow) (fs : List FedRow) → In f fs → In f.row (names_of fs)
in-names f [] i = elim i [ ]
in-names f (g ∷ fs) first = first
in-names f (g ∷ fs) (later i) = later (in-names f fs i)

names_in : (x : RowName) (fs : List FedRow) → In x (names_of fs) → (f : FedRow) × In f fs × (f.row ≡ x)
names_in x [] i = elim i [ ]
names_in x (f ∷ fs) first = (f, first, refl)
names_in x (f ∷ fs) (later i) = let r = names_in x fs i in (r.0, later r.1, r.2)

pub in-times : (x : RowName) (xs : List RowName) → In x xs → 1 ≤ times x xs
unfolding times
in-times x [] i = elim i [ ]
in-times x (y ∷ xs) first = rw (same_self x) (omega arith)
in-times x (y ∷ xs) (later i) = let a = in-times x xs i in omega arith

pub times-in : (x : RowName) (xs : List RowName) → 1 ≤ times x xs → In x xs
unfolding times
times-in x [] h = absurd (omega arith)
times-in x (y ∷ xs) h = go (same_name x y) refl h (times-in x xs)
  where
    go : (u : Bool) → same_name x y ≡ u → 1 ≤ pick u 1 0 + times x xs → (1 ≤ times x xs → In x xs) → In x (y ∷ xs)
    go true e q ih = subst (λ z. In x (z ∷ xs)) (same-name x y e) first
    go false e q ih = later (ih (omega arith))

-- ---- how far so many events can go
rest-length : (t : List Step) → length t ≤ length (rest t) + 1
rest-length [] = omega arith
rest-length (x ∷ t) = omega arith

left-length : (t : List Step) (es : List Event) → length t ≤ length (left t es) + length es
unfolding left left_by
left-length t [] = omega arith
left-length t (e ∷ es) = go (goes_on e) (left-length (rest t) es) (left-length t es)
  where
    go : (u : Bool) → length (rest t) ≤ length (left (rest t) es) + length es → length t ≤ length (left t es) + length es →
        length t ≤ length (left (pick u (rest t) t) es) + length (e ∷ es)
    go true a b = omega (arith, rest-length t)
    go false a b = omega arith

played-length : (n : ℕ) (rows : RowName → Area) (outs : ℕ → Area) (m : ℕ) (w : World) → length (played n rows outs m w) ≤ m
unfolding played
played-length n rows outs zero w = omega arith
played-length n rows outs (suc m) w =
    let now = answering n rows (outs m) (event want w) in
    let then = played n rows outs m (final now w) in
    omega (arith, played-length n rows outs m (final now w), length-append now then, one (event want w))
  where
    one : (e : Event) → length (answering n rows (outs m) e) ≤ 1
    one (wanted (gives (row k c r j))) = unfold answering as_wanted in omega arith
    one (wanted (gives draw_now)) = unfold answering as_wanted in omega arith
    one (wanted (gives done)) = unfold answering as_wanted in omega arith
    one (wanted (gives ended)) = unfold answering as_wanted in omega arith
    one (wanted (refused q)) = unfold answering in omega arith
    one (fed a v) = unfold answering in omega arith
    one (drew a v b) = unfold answering in omega arith

refusal-after : (es fs : List Event) → Refusal fs → Refusal (es ++ fs)
refusal-after [] fs r = r
refusal-after (e ∷ es) fs r = after (refusal-after es fs r)

-- ---- a row of a map is in range
pub exists-parts : (W H : Side) (L k : ℕ) (b : Band) (r : ℕ) → band_row_exists W H L k b r ≡ true →
    (1 ≤ k) × (r < band_rows H k b) × (k ≤ L) × (kept_at L k b ≡ true)
unfolding band_row_exists within
exists-parts W H L k b r e =
    let a = both (pick (leb 1 k) (leb k L) false) _ e in
    let c = both (leb 1 k) (leb k L) a.0 in
    let d = both (kept_at L k b) _ a.1 in
    let f = both (ltb 0 (band_columns W k b)) _ d.1 in
    (leb-true 1 k c.0, ltb-true r (band_rows H k b) f.1, leb-true k L c.1, d.0)

row-in-range : (f : ℕ) (W H : Side) (L : ℕ) (g : Grid) → IsMap W.length H.length g → (y : RowName) →
    band_row_exists W H L y.level y.band y.row ≡ true → (i : ℕ) →
    i < band_columns W y.level y.band → nat_abs (level_band (filter_of f) whole W H g y.level y.band y.row i) ≤ range (filter_of f) y.level
unfolding band_rows band_columns
row-in-range f W H L g m y e = let p = exists-parts W H L y.level y.band y.row e in at y.level p.0 p.1
  where
    at : (v : ℕ) → 1 ≤ v → y.row < band_rows H v y.band → (i : ℕ) → i < band_columns W v y.band →
        nat_abs (level_band (filter_of f) whole W H g v y.band y.row i) ≤ range (filter_of f) v
    at zero h r i p = absurd (omega arith)
    at (suc k) h r i p =
        let z : suc k - 1 ≡ k = omega arith in
        map-band-range (filter_of f) (filter-laws f) W H g m k y.band y.row i (rw z at r) (rw z at p)

-- a set-up that passed was lent a store that is long enough
pub set-up-room : (f : ℕ) (W H : Side) (L n : ℕ) → set_up_question f W H L n ≡ 0 → store_fits (store_by f W L) n ≡ true
unfolding set_up_question
set-up-room f W H L n e =
    let a = asked-yes (within 1 max_width W.length) 1 _ e in
    let b = asked-yes (within 1 max_height H.length) 2 _ a.1 in
    let k = asked-yes (is_filter f) 17 _ b.1 in
    let c = asked-yes (within 1 (filter_of f).levels L) 3 _ k.1 in
    (asked-yes (store_fits (store_by f W L) n) 4 _ c.1).0

module _ (f : ℕ) (W H : Side) (L n : ℕ) (across : W.start ≤ max_origin) (down : H.start ≤ max_origin) (ok : set_up_question f W H L n ≡ 0) (rows : RowName → Area)
    (sized : Sized W H L rows) (outs : ℕ → Area) (room : (i : ℕ) → W.length ≤ (outs i).size) (x : ℕ → ℤ) where
  abbrev w₀ : World
  w₀ = fresh_world f 0 0 W H L x

  abbrev T₀ : List Step
  T₀ = steps (ahead f) W H L

  room_for : store_fits (store_by f W L) n ≡ true
  room_for = set-up-room f W H L n ok

  claim : (cs : List Call) → Demand3 f 0 0 W H L (events cs w₀) (λ c. event c (final cs w₀))
  claim cs = (demand-3 f W H L n across down ok x cs).claim

  -- all went on so far, and each row fed is the one of that name
  record Fair (es : List Event) : Type 0 where
    live : ended_by es ≡ false
    from-rows : All (λ fr. fr.run ≡ rows fr.row) (fed_rows T₀ es)
    names : names_of (fed_rows T₀ es) ++ band_rows_of (left T₀ es) ≡ band_rows_of T₀

  -- the rows of the steps are the plane's
  step-exists : (y : RowName) → In y (band_rows_of T₀) → band_row_exists W H L y.level y.band y.row ≡ true
  step-exists y i = go (band_row_exists W H L y.level y.band y.row) ((claim []).rows_once y) (in-times y (band_rows_of T₀) i)
    where
      go : (u : Bool) → times y (band_rows_of T₀) ≡ pick u 1 0 → 1 ≤ times y (band_rows_of T₀) → u ≡ true
      go true e h = refl
      go false e h = absurd (omega arith)

  fed-exists : (es : List Event) → Fair es → (fr : FedRow) → In fr (fed_rows T₀ es) → band_row_exists W H L fr.row.level fr.row.band fr.row.row ≡ true
  fed-exists es fair fr i = step-exists fr.row (subst (In fr.row) fair.names
      (in_left fr.row (names_of (fed_rows T₀ es)) _ (in-names fr (fed_rows T₀ es) i)))

  next-exists : (es : List Event) → Fair es → (y : RowName) (t : List Step) → left T₀ es ≡ step.feed y ∷ t →
      band_row_exists W H L y.level y.band y.row ≡ true
  unfolding band_rows_of
  next-exists es fair y t e = step-exists y (subst (In y) fair.names
      (in_right y (names_of (fed_rows T₀ es)) _ (subst (λ v. In y (band_rows_of v)) (sym e) first)))

  -- a map that has all the rows has those fed
  has-fed : (es : List Event) → Fair es → (g : Grid) → IsMap W.length H.length g → HasAll f W H L g rows → All (HasRow f W H g) (fed_rows T₀ es)
  has-fed es fair g m h =
      all_in (fed_rows T₀ es) (λ fr i. subst (IsRow f W H g fr.row) (sym (in_all fr (fed_rows T₀ es) i fair.from-rows))
      (h.are fr.row (fed-exists es fair fr i)))

  -- ---- one turn
  -- no map has all rows where 14 comes
  none-fourteen : (cs : List Call) (c : Call) → ended_by (events (cs ++ (c ∷ [])) w₀) ≡ true → (g : Grid) → IsMap W.length H.length g →
      All (HasRow f W H g) (fed_rows T₀ (events (cs ++ (c ∷ [])) w₀)) → ⊥
  none-fourteen cs c e g m h = (claim (cs ++ (c ∷ []))).impossible e g (record { map = m; rows = h })

  data Verdict (cs : List Call) : Type 0 where
    fine : Fair (events cs w₀) → left T₀ (events cs w₀) ≡ [] → Verdict cs
    bad : Refusal (events cs w₀) → (event want (final cs w₀) ≡ wanted (gives done) → ⊥) →
        ((g : Grid) → IsMap W.length H.length g → HasAll f W H L g rows → ⊥) → Verdict cs

  said-done : (cs : List Call) → event want (final cs w₀) ≡ wanted (gives done) → left T₀ (events cs w₀) ≡ []
  said-done cs z =
      let w : ◌≡◌ {A = Event} (wanted (gives (want_says 0 W (ended_by (events cs w₀)) (left T₀ (events cs w₀))))) (wanted (gives done)) = sym (claim cs).wants
      ∙ z in
      let v : want_says 0 W (ended_by (events cs w₀)) (left T₀ (events cs w₀)) ≡ done = cc in
      (done-only 0 W _ _ v).1

  -- a call that is refused leaves too few turns
  too_few : (m : ℕ) (cs : List Call) (c : Call) (ps : List Call) → length (left T₀ (events cs w₀)) ≡ suc m → goes_on (event c (final cs w₀)) ≡ false →
      length ps ≤ m → event want (final (cs ++ (c ∷ ps)) w₀) ≡ wanted (gives done) → ⊥
  unfolding left left_by lists.events lists.final
  too_few m cs c ps len off few z =
      let e : left T₀ (events (cs ++ (c ∷ ps)) w₀) ≡ left (left T₀ (events cs w₀)) (events (c ∷ ps) (final cs w₀)) =
      ap (left T₀) (events-append event demand.next cs (c ∷ ps) w₀) ∙ left-append T₀ (events cs w₀) _ in
      let u : left (pick (goes_on (event c (final cs w₀))) (rest (left T₀ (events cs w₀))) (left T₀ (events cs w₀))) (events ps (demand.next c (final cs w₀)))
      ≡ [] = sym e ∙ said-done (cs ++ (c ∷ ps)) z in
      let h : left (left T₀ (events cs w₀)) (events ps (demand.next c (final cs w₀))) ≡ [] = rw off at u in
      let a = left-length (left T₀ (events cs w₀)) (events ps (demand.next c (final cs w₀))) in
      omega (arith, ap length h, events-length event demand.next ps (demand.next c (final cs w₀)))

  -- a row of a map is not refused by 7
  run-fits : (y : RowName) → band_row_exists W H L y.level y.band y.row ≡ true → (g : Grid) → IsMap W.length H.length g → HasAll f W H L g rows →
      run_fits f y.level (rows y).size (rows y).numbers ≡ true
  unfolding run_fits
  run-fits y e g m h =
      each-every (rows y).size _ (λ i p. let q : i < band_columns W y.level y.band = rw (h.are y e).size at p in
      le-leb (nat_abs ((rows y).numbers i)) (range (filter_of f) y.level) (rw ((h.are y e).values i q) (row-in-range f W H L g m y e i q)))

  module _ (cs : List Call) (fair : Fair (events cs w₀)) where
    abbrev es : List Event
    es = events cs w₀

    abbrev w : World
    w = final cs w₀

    events-on : (c : Call) (v : Event) → event c w ≡ v → events (cs ++ (c ∷ [])) w₀ ≡ es ++ (v ∷ [])
    unfolding lists.events
    events-on c v e = events-append event demand.next cs (c ∷ []) w₀ ∙ ap (λ u. es ++ (u ∷ [])) e

    refused-in : (c : Call) (v : Event) (ps : List Call) → event c w ≡ v → ((vs : List Event) → Refusal (v ∷ vs)) → Refusal (events (cs ++ (c ∷ ps)) w₀)
    unfolding lists.events
    refused-in c v ps e r = subst Refusal (sym (events-append event demand.next cs (c ∷ ps) w₀))
        (refusal-after es _ (subst (λ u. Refusal (u ∷ events ps (demand.next c w))) (sym e) (r _)))

    -- what a fed row adds
    module _ (y : RowName) (t : List Step) (head : left T₀ es ≡ step.feed y ∷ t) where
      abbrev fr : FedRow
      fr = record { row = y; run = rows y }

      fed-goes : Fair (es ++ (fed (rows y) (gives tt) ∷ [])) × (left T₀ (es ++ (fed (rows y) (gives tt) ∷ [])) ≡ t)
      fed-goes = (
        record {
          live = ever-append ends es _ ∙ rw fair.live (unfold lists.ever ends in refl);
          from-rows = subst (All _) (sym rows_are) (all_append fair.from-rows (all_more refl all_none));
          names = ap₂ (λ u v. names_of u ++ band_rows_of v) rows_are left_is ∙ ap (λ u. u ++ band_rows_of t) (map-append (λ fr. fr.row) (fed_rows T₀ es) (fr ∷ []))
              ∙ append_assoc (names_of (fed_rows T₀ es)) (names_of (fr ∷ [])) (band_rows_of t) ∙ names_more ∙ fair.names;
        },
        left_is,
      )
        where
          left_is : left T₀ (es ++ (fed (rows y) (gives tt) ∷ [])) ≡ t
          left_is = left-append T₀ es _ ∙ ap (λ u. left u (fed (rows y) (gives tt) ∷ [])) head ∙ unfold left left_by goes_on in refl

          rows_are : fed_rows T₀ (es ++ (fed (rows y) (gives tt) ∷ [])) ≡ fed_rows T₀ es ++ (fr ∷ [])
          rows_are = fed-append T₀ es _ ∙ ap (λ u. fed_rows T₀ es ++ fed_rows u (fed (rows y) (gives tt) ∷ [])) head ∙ unfold fed_rows fed_by in refl

          names_more : names_of (fed_rows T₀ es) ++ (names_of (fr ∷ []) ++ band_rows_of t) ≡ names_of (fed_rows T₀ es) ++ band_rows_of (left T₀ es)
          names_more = ap (λ u. names_of (fed_rows T₀ es) ++ u) (sym (ap band_rows_of head ∙ unfold band_rows_of in refl))

      -- where 14 comes no map has all rows
      fed-none : event (feed n (rows y)) w ≡ fed (rows y) (refused 14) → (g : Grid) → IsMap W.length H.length g → HasAll f W H L g rows → ⊥
      fed-none e g m h =
          none-fourteen cs (feed n (rows y)) (ap ended_by on ∙ ever-append ends es _ ∙ rw fair.live (unfold lists.ever ends in refl)) g m
          (subst (All (HasRow f W H g)) (sym (ap (fed_rows T₀) on ∙ rows_are))
          (all_append (has-fed es fair g m h) (all_more (h.are y (next-exists es fair y t head)) all_none)))
        where
          on : events (cs ++ (feed n (rows y) ∷ [])) w₀ ≡ es ++ (fed (rows y) (refused 14) ∷ [])
          on = events-on (feed n (rows y)) _ e

          rows_are : fed_rows T₀ (es ++ (fed (rows y) (refused 14) ∷ [])) ≡ fed_rows T₀ es ++ (fr ∷ [])
          rows_are = fed-append T₀ es _ ∙ ap (λ u. fed_rows T₀ es ++ fed_rows u (fed (rows y) (refused 14) ∷ [])) head ∙ unfold fed_rows fed_by in refl

    -- a height row drawn adds none
    module _ (a b : Area) (r : ℕ) (t : List Step) (head : left T₀ es ≡ step.draw r ∷ t) where
      drawn-same : (v : Reply Given) → fed_rows T₀ (es ++ (drew a v b ∷ [])) ≡ fed_rows T₀ es
      drawn-same v = fed-append T₀ es _ ∙ (unfold fed_rows fed_by in append-nil (fed_rows T₀ es))

      drawn-goes : Fair (es ++ (drew a (gives (heights W.length)) b ∷ [])) × (left T₀ (es ++ (drew a (gives (heights W.length)) b ∷ [])) ≡ t)
      drawn-goes = (
        record {
          live = ever-append ends es _ ∙ rw fair.live (unfold lists.ever ends in refl);
          from-rows = subst (All _) (sym (drawn-same _)) fair.from-rows;
          names = ap₂ (λ u v. names_of u ++ band_rows_of v) (drawn-same _) left_is ∙ names_same ∙ fair.names;
        },
        left_is,
      )
        where
          left_is : left T₀ (es ++ (drew a (gives (heights W.length)) b ∷ [])) ≡ t
          left_is = left-append T₀ es _ ∙ ap (λ u. left u (drew a (gives (heights W.length)) b ∷ [])) head ∙ unfold left left_by goes_on in refl

          names_same : names_of (fed_rows T₀ es) ++ band_rows_of t ≡ names_of (fed_rows T₀ es) ++ band_rows_of (left T₀ es)
          names_same = ap (λ u. names_of (fed_rows T₀ es) ++ u) (sym (ap band_rows_of head ∙ unfold band_rows_of in refl))

      drawn-none : event (draw n a) w ≡ drew a (refused 14) b → (g : Grid) → IsMap W.length H.length g → HasAll f W H L g rows → ⊥
      drawn-none e g m h =
          none-fourteen cs (draw n a) (ap ended_by on ∙ ever-append ends es _ ∙ rw fair.live (unfold lists.ever ends in refl)) g m
          (subst (All (HasRow f W H g)) (sym (ap (fed_rows T₀) on ∙ drawn-same _)) (has-fed es fair g m h))
        where
          on : events (cs ++ (draw n a ∷ [])) w₀ ≡ es ++ (drew a (refused 14) b ∷ [])
          on = events-on (draw n a) _ e

    -- ---- the call that is wanted
    wanted-row : (a : Area) (y : RowName) (t : List Step) → left T₀ es ≡ step.feed y ∷ t → answering n rows a (event want w) ≡ feed n (rows y) ∷ []
    unfolding answering as_wanted want_says
    wanted-row a y t head =
        ap (answering n rows a) ((claim cs).wants ∙ ap₂ (λ u v. wanted (gives (want_says 0 W u v))) fair.live head)
        ∙ ap (λ c. feed n (rows (row_name y.level c y.row)) ∷ []) (named-code y.band)

    wanted-draw : (a : Area) (r : ℕ) (t : List Step) → left T₀ es ≡ step.draw r ∷ t → answering n rows a (event want w) ≡ draw n a ∷ []
    unfolding answering as_wanted want_says
    wanted-draw a r t head = ap (answering n rows a) ((claim cs).wants ∙ ap₂ (λ u v. wanted (gives (want_says 0 W u v))) fair.live head)

    -- the turn as a call more
    played-on : (m : ℕ) (c : Call) → answering n rows (outs m) (event want w) ≡ c ∷ [] →
        played n rows outs (suc m) w ≡ c ∷ played n rows outs m (demand.next c w)
    unfolding played lists.final
    played-on m c e = ap (λ u. u ++ played n rows outs m (final u w)) e

    later-calls : (m : ℕ) (c : Call) → answering n rows (outs m) (event want w) ≡ c ∷ [] →
        cs ++ played n rows outs (suc m) w ≡ (cs ++ (c ∷ [])) ++ played n rows outs m (final (cs ++ (c ∷ [])) w₀)
    unfolding lists.final
    later-calls m c e =
        ap (λ u. cs ++ u) (played-on m c e)
        ∙ sym (append_assoc cs (c ∷ []) (played n rows outs m (demand.next c w)))
        ∙ ap (λ v. (cs ++ (c ∷ [])) ++ played n rows outs m v) (sym (final-append demand.next cs (c ∷ []) w₀))

    -- a call that goes on, and one that is refused
    goes : (m : ℕ) (c : Call) (v : Event) (t : List Step) → answering n rows (outs m) (event want w) ≡ c ∷ [] → event c w ≡ v → Fair (es ++ (v ∷ [])) →
        left T₀ (es ++ (v ∷ [])) ≡ t → length t ≡ m →
        ((ds : List Call) → length (left T₀ (events ds w₀)) ≡ m → Fair (events ds w₀) → Verdict (ds ++ played n rows outs m (final ds w₀))) →
        Verdict (cs ++ played n rows outs (suc m) w)
    goes m c v t a e on is len ih =
        let z = events-on c v e in
        subst Verdict (sym (later-calls m c a)) (ih (cs ++ (c ∷ [])) (ap (λ u. length (left T₀ u)) z ∙ ap length is ∙ len) (subst Fair (sym z) on))

    refuses : (m : ℕ) (c : Call) (v : Event) → answering n rows (outs m) (event want w) ≡ c ∷ [] → event c w ≡ v → length (left T₀ es) ≡ suc m →
        goes_on v ≡ false → ((vs : List Event) → Refusal (v ∷ vs)) → ((g : Grid) → IsMap W.length H.length g → HasAll f W H L g rows → ⊥) →
        Verdict (cs ++ played n rows outs (suc m) w)
    refuses m c v a e len off r no-g =
        subst Verdict (ap (λ u. cs ++ u) (sym (played-on m c a)))
        (bad (refused-in c v _ e r) (too_few m cs c _ len (ap goes_on e ∙ off) (played-length n rows outs m (demand.next c w))) no-g)

  turned_as : (cs : List Call) → Fair (events cs w₀) → (y : RowName) (t : List Step) → left T₀ (events cs w₀) ≡ step.feed y ∷ t → (q : ℕ) →
      feed_away f 0 W false (step.feed y ∷ t) (rows y) ≡ q → feed_turned f 0 W (store_by f W L) (ended_by (events cs w₀)) (left T₀ (events cs w₀)) n (rows y) ≡ q
  unfolding feed_turned
  turned_as cs fair y t head q e = rw room_for (ap₂ (λ u v. feed_away f 0 W u v (rows y)) fair.live head ∙ e)

  -- ---- turn after turn
  turn : (m : ℕ) (cs : List Call) → length (left T₀ (events cs w₀)) ≡ suc m → Fair (events cs w₀) →
      ((ds : List Call) → length (left T₀ (events ds w₀)) ≡ m → Fair (events ds w₀) → Verdict (ds ++ played n rows outs m (final ds w₀))) →
      Verdict (cs ++ played n rows outs (suc m) (final cs w₀))
  turn m cs len fair ih = go (left T₀ (events cs w₀)) refl
    where
      at-draw : (r : ℕ) (t : List Step) → left T₀ (events cs w₀) ≡ step.draw r ∷ t →
          Draws W (store_by f W L) (ended_by (events cs w₀)) (left T₀ (events cs w₀)) n (outs m) (event (draw n (outs m)) (final cs w₀)) →
          Verdict (cs ++ played n rows outs (suc m) (final cs w₀))
      at-draw r t head d = says d.says
        where
          gave : draw_says W (store_by f W L) (ended_by (events cs w₀)) (left T₀ (events cs w₀)) n (outs m).size ≡ gives (heights W.length)
          gave = ap₂ (λ u v. draw_says W (store_by f W L) u v n (outs m).size) fair.live head
              ∙ (unfold draw_says draw_gives in rw (room_for, le-leb W.length (outs m).size (room m)) refl)

          says : OneOf d.answer (draw_says W (store_by f W L) (ended_by (events cs w₀)) (left T₀ (events cs w₀)) n (outs m).size) (refused 14) →
              Verdict (cs ++ played n rows outs (suc m) (final cs w₀))
          says (this e) =
              let on = drawn-goes cs fair (outs m) d.after r t head in
              goes cs fair m (draw n (outs m)) (drew (outs m) (gives (heights W.length)) d.after) t (wanted-draw cs fair (outs m) r t head) (d.is
              ∙ ap (λ u. drew (outs m) u d.after) (e ∙ gave)) on.0 on.1 (omega (arith, ap length head)) ih
          says (that e) =
              let is : event (draw n (outs m)) (final cs w₀) ≡ drew (outs m) (refused 14) d.after = d.is ∙ ap (λ u. drew (outs m) u d.after) e in
              refuses cs fair m (draw n (outs m)) (drew (outs m) (refused 14) d.after) (wanted-draw cs fair (outs m) r t head) is len (unfold goes_on in
              refl) (λ vs. drawn_fourteen) (drawn-none cs fair (outs m) d.after r t head is)

      at-feed : (y : RowName) (t : List Step) → left T₀ (events cs w₀) ≡ step.feed y ∷ t → (u : Bool) →
          run_fits f y.level (rows y).size (rows y).numbers ≡ u → Verdict (cs ++ played n rows outs (suc m) (final cs w₀))
      at-feed y t head false z =
          let is : event (feed n (rows y)) (final cs w₀) ≡ fed (rows y) (refused 7) =
          (claim cs).feeds_turned n (rows y) 6 (turned_as cs fair y t head 7 (unfold feed_away in
          rw (eq-eqb (rows y).size (band_columns W y.level y.band) (sized.size y (next-exists (events cs w₀) fair y t head)), z) refl)) in
          refuses cs fair m (feed n (rows y)) (fed (rows y) (refused 7)) (wanted-row cs fair (outs m) y t head) is len (unfold goes_on in
          refl) (λ vs. seven) (λ g mp h. subst T (sym (run-fits y (next-exists (events cs w₀) fair y t head) g mp h) ∙ z) tt)
      at-feed y t head true z = says ((claim cs).feeds_on n (rows y) (turned_as cs fair y t head 0
          (unfold feed_away in rw (eq-eqb (rows y).size (band_columns W y.level y.band) (sized.size y (next-exists (events cs w₀) fair y t head)), z)
          refl)))
        where
          says : OneOf (event (feed n (rows y)) (final cs w₀)) (fed (rows y) (gives tt)) (fed (rows y) (refused 14)) →
              Verdict (cs ++ played n rows outs (suc m) (final cs w₀))
          says (this e) =
              let on = fed-goes cs fair y t head in
              goes cs fair m (feed n (rows y)) (fed (rows y) (gives tt)) t (wanted-row cs fair (outs m) y t head) e on.0 on.1
              (omega (arith, ap length head)) ih
          says (that e) = refuses cs fair m (feed n (rows y)) (fed (rows y) (refused 14)) (wanted-row cs fair (outs m) y t head) e len (unfold goes_on in
              refl) (λ vs. fed_fourteen) (fed-none cs fair y t head e)

      go : (t : List Step) → left T₀ (events cs w₀) ≡ t → Verdict (cs ++ played n rows outs (suc m) (final cs w₀))
      go [] e = absurd (omega (arith, ap length e))
      go (step.feed y ∷ t) e = at-feed y t e (run_fits f y.level (rows y).size (rows y).numbers) refl
      go (step.draw r ∷ t) e = at-draw r t e ((claim cs).draws n (outs m))

  no_length : (t : List Step) → length t ≡ 0 → t ≡ []
  no_length [] e = refl
  no_length (y ∷ t) e = absurd (omega arith)

  turns : (m : ℕ) (cs : List Call) → length (left T₀ (events cs w₀)) ≡ m → Fair (events cs w₀) → Verdict (cs ++ played n rows outs m (final cs w₀))
  unfolding played
  turns zero cs len fair = subst Verdict (sym (append-nil cs)) (fine fair (no_length _ len))
  turns (suc m) cs len fair = turn m cs len fair (turns m)

  fair-first : Fair []
  unfolding lists.ever fed_rows left
  fair-first = record { live = refl; from-rows = all_none; names = refl }

  abbrev all : List Call
  all = played n rows outs (length T₀) w₀

  verdict : Verdict all
  unfolding lists.events lists.final left
  verdict = turns (length T₀) [] refl fair-first

  -- what the fair end comes to
  done-then : Fair (events all w₀) → left T₀ (events all w₀) ≡ [] → event want (final all w₀) ≡ wanted (gives done)
  unfolding want_says
  done-then fair over = (claim all).wants ∙ ap₂ (λ u v. wanted (gives (want_says 0 W u v))) fair.live over

  has_all : Fair (events all w₀) → left T₀ (events all w₀) ≡ [] → (g : Grid) → HasFed f 0 W H L g (events all w₀) → HasAll f W H L g rows
  unfolding band_rows_of
  has_all fair over g has = record { are = λ y e. at y (names_in y (fed_rows T₀ (events all w₀)) (in-fed y e)) }
    where
      in-fed : (y : RowName) → band_row_exists W H L y.level y.band y.row ≡ true → In y (names_of (fed_rows T₀ (events all w₀)))
      in-fed y e =
          let fs = names_of (fed_rows T₀ (events all w₀)) in
          let names : fs ≡ band_rows_of T₀ = sym (append-nil fs) ∙ ap (λ v. fs ++ band_rows_of v) (sym over) ∙ fair.names in
          let one : times y (band_rows_of T₀) ≡ 1 = (claim []).rows_once y ∙ ap (λ u. pick u 1 0) e in
          subst (In y) (sym names) (times-in y (band_rows_of T₀) (omega arith))

      at : (y : RowName) → (fr : FedRow) × In fr (fed_rows T₀ (events all w₀)) × (fr.row ≡ y) → IsRow f W H g y (rows y)
      at y r =
          let fs = fed_rows T₀ (events all w₀) in
          subst (λ v. IsRow f W H g v (rows v)) r.2
          (subst (IsRow f W H g r.0.row) (in_all r.0 fs r.1 fair.from-rows) (in_all r.0 fs r.1 has.rows))

  handed-back : (g : Grid) → IsMap W.length H.length g → HasAll f W H L g rows → Verdict all → Back W H g (events all w₀) (λ c. event c (final all w₀))
  handed-back g m h (fine fair over) =
      let z = done-then fair over in
      record { all = ((claim all).finished.0 z).all; heights = (claim all).first g (record { map = m; rows = has-fed (events all w₀) fair g m h }); says = z }
  handed-back g m h (bad _ _ no-g) = absurd (no-g g m h)

  refused-by : ((g : Grid) → IsMap W.length H.length g → HasAll f W H L g rows → ⊥) → Verdict all → Stopped (events all w₀) (λ c. event c (final all w₀))
  refused-by none_has (bad r d _) = record { refusal = r; not_done = d }
  refused-by none_has (fine fair over) =
      let fr = (claim all).finished.0 (done-then fair over) in
      absurd (none_has fr.map fr.has.map (has_all fair over fr.map fr.has))

-- ---- the theorem
module _ (f : ℕ) (W H : Side) (L n : ℕ) (across : W.start ≤ max_origin) (down : H.start ≤ max_origin) (ok : set_up_question f W H L n ≡ 0) (rows : RowName → Area)
    (outs : ℕ → Area) (room : (i : ℕ) → W.length ≤ (outs i).size) (x : ℕ → ℤ) where
  abbrev turns_of : List Call
  turns_of = played n rows outs (length (steps (ahead f) W H L)) (fresh_world f 0 0 W H L x)

  pub played-holds : Played f W H L rows (events turns_of (fresh_world f 0 0 W H L x)) (λ c. event c (final turns_of (fresh_world f 0 0 W H L x)))
  played-holds = record {
    map-back = λ g m h. let sized : Sized W H L rows = record { size = λ y e. (h.are y e).size } in
        handed-back f W H L n across down ok rows sized outs room x g m h (verdict f W H L n across down ok rows sized outs room x);
    no_map = λ sized none_has. refused-by f W H L n across down ok rows sized outs room x none_has (verdict f W H L n across down ok rows sized outs room x);
  }
