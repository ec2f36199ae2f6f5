-- A run is the list of its calls: `run-is-list`, whatever the state; it ends where no call is due: `run_ends`; and demand 3 of lists of runs and single
-- calls: `demand-3-runs`. Assumes nothing.
use mathlib.Core.Path.{◌≡◌, refl, sym, ap, ap₂, subst, ◌∙◌, fun_ext}
use mathlib.Core.Bool.{Bool, true, false, not}
use mathlib.Core.List.{List, [], ◌∷◌}
use Prim.Native.Nat.{ℕ, zero, suc, ◌+◌, ◌-◌, ◌*◌, ◌≤◌, ◌<◌}
use native.Mathlib.Decide.{dec_lt}
use native.Mathlib.Omega.{arith}
use lib.IntN.{ℤ}
use lib.ListN.{length}
use lib.Dec.{leb, ltb, eqb}
use borrow.Author.Tests.{eqb-true, ltb-true, lt-ltb, le-ltb, le-leb, lt-leb}
use Rattle.numbers.specs.Signal.{pick, both, windowed, spliced}
use Rattle.numbers.proofs.Sweep as sweep
use Rattle.lifting.specs.Grid.{Side}
use Rattle.lifting.specs.Halves.{fronted}
use Rattle.areas.proofs.AreaLaws.{front_rest}
use Rattle.wavelet.specs.Limits.{max_origin}
use Rattle.wavelet.specs.Questions.{ask}
use Rattle.calls.specs.Lists as lists
use Rattle.calls.specs.Lists.{gives, refused, Area}
use Rattle.level.specs.Level.{rest, join_at}
use Rattle.level.proofs.RestLaws.{rest_at, join-below, join-past}
use Rattle.reader.specs.declared.Reader.{Reader}
use Rattle.reader.specs.declared.runs.Tally.{Tally}
use Rattle.reader.specs.Answers as answer
use Rattle.reader.specs.Answers.{Handed, a_row}
use Rattle.reader.specs.State.{draw_due, fed_reader, drawn_reader, ended_reader, unfinished}
use Rattle.reader.specs.Questions.{set_up_question}
use Rattle.reader.specs.Questions as levels
use Rattle.reader.specs.Calls as call
use Rattle.reader.specs.Last as last
use Rattle.reader.specs.Limited.{limited}
use Rattle.reader.specs.Reading.{by, feed_question, draw_question, feed_reply, feed_store, draw_reply, draw_store, draw_area}
use Rattle.reader.specs.Demand3.{Call, feed, draw, heights, nothing, Event, wanted, fed, drew, World, said, given}
use Rattle.reader.specs.Demand3.{event, next, events, final, goes_on, ends}
use Rattle.reader.specs.Demand3.{fresh_world, OfCalls}
use Rattle.reader.specs.Runs.{Run, put, moved_to, noted, goes, drawable, row_left, area_left, call_of, asked, due, after_call, ran, calls, begin, most}
use Rattle.reader.specs.Runs.{run_of, run_calls}
use Rattle.reader.specs.RunSteps.{life, left_of}
use Rattle.reader.specs.RunLists.{run_fed, runs_fed, row_drawn, rows_drawn, laid, total, no_more, all_pass, IsList, Piece, all_calls}
use Rattle.reader.proofs.RunPlaces.{false-not-true}
use Rattle.reader.proofs.RunLaws.{feed-passes, feed_ends, draw-passes, draw_ends, after-14}
use Rattle.reader.proofs.RunLast.{last-early, live-asked}
use Rattle.reader.proofs.Demand3.{demand-3}

-- ---- in an area: its own numbers put back, and numbers that are its own past w
window-back : (a w : ℕ) (x : ℕ → ℤ) → spliced a w (windowed a w x) x ≡ x
unfolding spliced windowed
window-back a w x =
    fun_ext λ j. elim (dec_lt j a) [
      | yes h ↦ rw (lt-leb a j h) refl
      | no h ↦
          elim (dec_lt j (a + w)) [
            | yes g ↦ let e : a + (j - a) ≡ j = omega arith in rw (le-leb a j (omega arith), lt-ltb j (a + w) g, lt-ltb (j - a) w (omega arith), e) refl
            | no g ↦ rw (le-leb a j (omega arith), le-ltb j (a + w) (omega arith)) refl
          ]
    ]

join-is-splice : (a w : ℕ) (x y : ℕ → ℤ) → ((j : ℕ) → w ≤ j → y j ≡ rest a x j) → join_at a x y ≡ spliced a w y x
unfolding spliced
join-is-splice a w x y past =
    fun_ext λ j. elim (dec_lt j a) [
      | yes h ↦ join-below a x y j h ∙ rw (lt-leb a j h) refl
      | no h ↦
          elim (dec_lt j (a + w)) [
            | yes g ↦ join-past a x y j (omega arith) ∙ rw (le-leb a j (omega arith), lt-ltb j (a + w) g) refl
            | no g ↦
                let e : a + (j - a) ≡ j = omega arith in
                join-past a x y j (omega arith) ∙ past (j - a) (omega arith) ∙ rest_at a x (j - a) ∙ ap x e
                ∙ rw (le-leb a j (omega arith), le-ltb j (a + w) (omega arith)) refl
          ]
    ]

-- ---- what is seen of a call that is made, and the run after it: a row fed, a row drawn, or 14
module _ (n m : ℕ) (v : ℕ → ℤ) (k : ℕ) where
  data Made (p : Run) : Event → Run → Type 0 where
    fed-one : (w : World) → w.reader.width ≡ p.world.reader.width → w.reader.height ≡ p.world.reader.height →
        w.reader.drawn ≡ p.world.reader.drawn → 0 < (row_left n m v k p).size →
        Made p (fed (row_left n m v k p) (gives tt))
        (record { world = w; used = p.used + (row_left n m v k p).size; rows = p.rows; area = p.area })
    drew-one : (w : World) (b : Area) → w.reader.width ≡ p.world.reader.width → w.reader.height ≡ p.world.reader.height →
        w.reader.drawn ≡ suc p.world.reader.drawn → p.world.reader.drawn < p.world.reader.height →
        ((j : ℕ) → p.world.reader.width ≤ j → b.numbers j ≡ rest (put p) p.area j) →
        Made p (drew (area_left n m v k p) (gives (heights p.world.reader.width)) b)
        (record { world = w; used = p.used; rows = p.rows + 1; area = join_at (put p) p.area b.numbers })
    no-feed : (w : World) → w.reader ≡ ended_reader p.world.reader → Made p (fed (row_left n m v k p) (refused 14)) (moved_to p w)
    no-draw : (w : World) (b : Area) → w.reader ≡ ended_reader p.world.reader →
        Made p (drew (area_left n m v k p) (refused 14) b) (moved_to p w)

-- ---- from p on: the events es come to r
record From (m : ℕ) (v : ℕ → ℤ) (p : Run) (es : List Event) (r : Run) : Type 0 where
  pass : all_pass es ≡ true
  few : p.used ≤ m → r.used ≤ m
  used : p.used + total (runs_fed es) ≡ r.used
  numbers : laid p.used (runs_fed es) v ≡ v
  rows : p.rows + length (rows_drawn es) ≡ r.rows
  area : laid (put p) (rows_drawn es) p.area ≡ r.area

from-none : (m : ℕ) (v : ℕ → ℤ) (p : Run) → From m v p [] p
unfolding lists.gathered laid total all_pass
from-none m v p = record { pass = refl; few = λ h. h; used = omega arith; numbers = refl; rows = omega arith; area = refl }

-- the reader t that 14 made of s
ended_is : (s t : Reader) → t ≡ ended_reader s → (t.ended ≡ true) × (t.width ≡ s.width) × (t.height ≡ s.height) × (t.drawn ≡ s.drawn)
unfolding ended_reader
ended_is s t e = rw e (refl, refl, refl, refl)

module _ (n m : ℕ) (v : ℕ → ℤ) (k : ℕ) (p r : Run) where
  from_one : (e : Event) (o : Run) (es : List Event) → Made n m v k p e o → (o.world.reader.ended ≡ true → es ≡ []) → From m v o es r →
      From m v p (e ∷ es) r
  unfolding lists.gathered laid total all_pass goes_on ends run_fed row_drawn
  from_one _ _ es (fed-one w ew eh ed some) last f = record {
    pass = f.pass;
    few = λ h. f.few (omega arith);
    used = omega (arith, f.used);
    numbers = ap (laid (p.used + (row_left n m v k p).size) (runs_fed es)) (window-back p.used (row_left n m v k p).size v) ∙ f.numbers;
    rows = f.rows;
    area = ap (λ (i : ℕ). laid (p.rows * i) (rows_drawn es) p.area) (sym ew) ∙ f.area;
  }
  from_one _ _ es (drew-one w b ew eh ed more past) last f = record {
    pass = f.pass;
    few = f.few;
    used = f.used;
    numbers = f.numbers;
    rows = omega (arith, f.rows);
    area =
        let i : put p + p.world.reader.width ≡ (p.rows + 1) * w.reader.width = rw ew (omega arith) in
        ap₂ (λ (j : ℕ) (z : ℕ → ℤ). laid j (rows_drawn es) z) i (sym (join-is-splice (put p) p.world.reader.width p.area b.numbers past))
        ∙ f.area;
  }
  from_one _ _ es (no-feed w e) last f = record {
    pass = ap no_more (last (ended_is _ _ e).0);
    few = f.few;
    used = f.used;
    numbers = f.numbers;
    rows = f.rows;
    area = ap (λ (i : ℕ). laid (p.rows * i) (rows_drawn es) p.area) (sym (ended_is _ _ e).1) ∙ f.area;
  }
  from_one _ _ es (no-draw w b e) last f = record {
    pass = ap no_more (last (ended_is _ _ e).0);
    few = f.few;
    used = f.used;
    numbers = f.numbers;
    rows = f.rows;
    area = ap (λ (i : ℕ). laid (p.rows * i) (rows_drawn es) p.area) (sym (ended_is _ _ e).1) ∙ f.area;
  }

-- ---- a call that is due passes, or ends the reader
goes-is : {A : Type 0} (q : ℕ) → goes q ≡ true → (q ≡ 0 → A) → (q ≡ 14 → A) → A
goes-is {A} q h a b = go (eqb q 0) refl h
  where
    go : (t : Bool) → eqb q 0 ≡ t → pick t true (eqb q 14) ≡ true → A
    go true e g = a (eqb-true q 0 e)
    go false e g = b (eqb-true q 14 g)

never-14 : (a b c d e f : Bool) → ask a 1 (ask b 5 (ask c 9 (ask d 8 (ask e 13 (ask f 7 0))))) ≡ 14 → ⊥
never-14 true true true true true true h = omega arith
never-14 true true true true true false h = omega arith
never-14 true true true true false f h = omega arith
never-14 true true true false e f h = omega arith
never-14 true true false d e f h = omega arith
never-14 true false c d e f h = omega arith
never-14 false b c d e f h = omega arith

draws-14 : (a b c d e : Bool) → ask a 1 (ask b 5 (ask c 9 (pick d (ask e 12 0) 0))) ≡ 14 → ⊥
draws-14 true true true true true h = omega arith
draws-14 true true true true false h = omega arith
draws-14 true true true false e h = omega arith
draws-14 true true false d e h = omega arith
draws-14 true false c d e h = omega arith
draws-14 false b c d e h = omega arith

module _ (s : Reader) where
  abbrev after_feed : ℕ → Reader
  after_feed l = by l (last.moved_to s s.drawn 4) (fed_reader s)

  abbrev after_draw : ℕ → Reader
  after_draw l = by l (last.moved_to s (suc s.drawn) 0) (drawn_reader s)

  feed-0 : (l : ℕ) → by l (last.feed_reply s 0) (call.feed_reply s 0) ≡ answer.gives (after_feed l)
  unfolding last.feed_reply call.feed_reply
  feed-0 zero = refl
  feed-0 (suc l) = refl

  feed-keeps : (l : ℕ) → ((after_feed l).width ≡ s.width) × ((after_feed l).height ≡ s.height) × ((after_feed l).drawn ≡ s.drawn)
  unfolding fed_reader
  feed-keeps zero = (refl, refl, refl)
  feed-keeps (suc l) = (refl, refl, refl)

  draw-0 : (l : ℕ) → by l (last.draw_due s) (draw_due s) ≡ true →
      by l (last.draw_reply s 0) (call.draw_reply s 0) ≡ answer.gives (a_row s.width (after_draw l))
  unfolding last.draw_reply call.draw_reply
  draw-0 zero e = rw e refl
  draw-0 (suc l) e = rw e refl

  draw-keeps : (l : ℕ) → ((after_draw l).width ≡ s.width) × ((after_draw l).height ≡ s.height) × ((after_draw l).drawn ≡ suc s.drawn)
  unfolding drawn_reader
  draw-keeps zero = (refl, refl, refl)
  draw-keeps (suc l) = (refl, refl, refl)

  draw-more : (l : ℕ) → by l (last.draw_due s) (draw_due s) ≡ true → s.drawn < s.height
  unfolding last.draw_due last.unfinished draw_due unfinished
  draw-more zero e = ltb-true s.drawn s.height (sweep.both (ltb s.drawn s.height) _ e).0
  draw-more (suc l) e = ltb-true s.drawn s.height (sweep.both (ltb s.drawn s.height) _ e).0

  -- the area past the row
  draw-past : (l q : ℕ) (x z : ℕ → ℤ) (j : ℕ) → s.width ≤ j → by l (last.draw_area s q x z) (call.draw_area s q x z) j ≡ z j
  unfolding last.draw_area call.draw_area
  draw-past zero q x z j h = go (eqb q 0) (last.draw_due s)
    where
      go : (t u : Bool) → pick t (pick u (fronted s.width (λ c. limited (x c)) z) z) z j ≡ z j
      go true true = front_rest s.width _ z j h
      go true false = refl
      go false u = refl
  draw-past (suc l) q x z j h = go (eqb q 0) (draw_due s) _
    where
      go : (t u : Bool) (y : ℕ → ℤ) → pick t (pick u (fronted s.width y z) z) z j ≡ z j
      go true true y = front_rest s.width y z j h
      go true false y = refl
      go false u y = refl

  -- a reader without levels never gives 14
  feed-14 : (l n i : ℕ) (x y : ℕ → ℤ) → by l (last.feed_question s n i y) (levels.feed_question s n x i y) ≡ 14 →
      by l (last.feed_reply s 14) (call.feed_reply s 14) ≡ answer.impossible (ended_reader s)
  unfolding last.feed_question call.feed_reply
  feed-14 zero n i x y e =
      absurd (never-14 (last.counts_fit s) (levels.store_fits s.spare n) (not s.ended) (last.row_due s) (eqb i s.width)
      (levels.run_fits s.filter s.stop i y) e)
  feed-14 (suc l) n i x y e = refl

  draw-14 : (l n i : ℕ) (x : ℕ → ℤ) → by l (last.draw_question s n i) (levels.draw_question s n x i) ≡ 14 →
      by l (last.draw_reply s 14) (call.draw_reply s 14) ≡ answer.impossible (ended_reader s)
  unfolding last.draw_question call.draw_reply
  draw-14 zero n i x e =
      absurd (draws-14 (last.counts_fit s) (levels.store_fits s.spare n) (not s.ended) (last.draw_due s) (leb s.width i) e)
  draw-14 (suc l) n i x e = refl

module _ (n m : ℕ) (v : ℕ → ℤ) (k : ℕ) (p : Run) where
  abbrev s : Reader
  s = p.world.reader

  abbrev x : ℕ → ℤ
  x = p.world.store

  ended-over : s.ended ≡ true → due n m v k p ≡ false
  ended-over e =
      let d : Tally = record { used = p.used; rows = p.rows } in
      elim (dec_lt 0 s.levels) [
        | yes h ↦ after-14 n m v k d s x p.area h e
        | no h ↦ last-early n m v k d s x p.area (omega arith) (last.store_question s n) refl (λ z. false-not-true (live-asked s n z) e)
      ]

  seen_as : (e e' : Event) (o o' : Run) → e ≡ e' → o ≡ o' → Made n m v k p e' o' → Made n m v k p e o
  seen_as e e' o o' a b c =
      subst (λ (i : Event). Made n m v k p i o) (sym a) (subst (λ (i : Run). Made n m v k p e' i) (sym b) c)

  module _ (d : due n m v k p ≡ true) where
    tests : (goes (asked n m v k p) ≡ true) × (pick (drawable s) (ltb 0 s.width) (ltb 0 (row_left n m v k p).size) ≡ true)
    unfolding due
    tests = sweep.both (goes (asked n m v k p)) _ d

    live : s.ended ≡ false
    live = go s.ended refl
      where
        go : (t : Bool) → s.ended ≡ t → s.ended ≡ false
        go true e = false-not-true (ended-over e) d
        go false e = e

    module _ (h : drawable s ≡ false) where
      abbrev row : Area
      row = row_left n m v k p

      abbrev Q : ℕ
      Q = feed_question s n x row.size row.numbers

      fed-goes : goes Q ≡ true
      unfolding asked
      fed-goes = sym (ap (λ (t : Bool). goes (pick t (draw_question s n x (area_left n m v k p).size) Q)) h) ∙ tests.0

      some : 0 < row.size
      some = ltb-true 0 row.size (sym (ap (λ (t : Bool). pick t (ltb 0 s.width) (ltb 0 row.size)) h) ∙ tests.1)

      seen-fed : event (call_of n m v k p) p.world ≡ fed row (said (λ _. tt) (feed_reply s Q))
      unfolding call_of event
      seen-fed = ap (λ (t : Bool). event (pick t (draw n (area_left n m v k p)) (feed n row)) p.world) h

      feed-made : Made n m v k p (event (call_of n m v k p) p.world) (after_call n m v k p)
      feed-made =
          goes-is Q fed-goes
          (λ z.
          let reply : feed_reply s Q ≡ answer.gives (after_feed s s.levels) = ap (feed_reply s) z ∙ feed-0 s s.levels in
          let u = feed-passes n m v k p h (after_feed s s.levels) (feed_store s Q row.numbers x) (sym z) some (sym reply) refl in
          let c = feed-keeps s s.levels in
          seen_as _ _ _ _ (seen-fed ∙ ap (λ (i : answer.Reply Reader). fed row (said (λ _. tt) i)) reply) u.1 (fed-one _ c.0 c.1 c.2 some))
          (λ z.
          let reply : feed_reply s Q ≡ answer.impossible (ended_reader s) =
          ap (feed_reply s) z ∙ feed-14 s s.levels n row.size x row.numbers z in
          let u = feed_ends n m v k p h (ended_reader s) (feed_store s Q row.numbers x) (sym z) some (sym reply) refl in
          seen_as _ _ _ _ (seen-fed ∙ ap (λ (i : answer.Reply Reader). fed row (said (λ _. tt) i)) reply) u.1 (no-feed _ refl))

    module _ (h : drawable s ≡ true) where
      abbrev out : Area
      out = area_left n m v k p

      abbrev D : ℕ
      D = draw_question s n x out.size

      abbrev out-after : Area
      out-after = record { size = out.size; numbers = draw_area s D x out.numbers }

      drawn-goes : goes D ≡ true
      unfolding asked
      drawn-goes =
          sym (ap (λ (t : Bool). goes (pick t D (feed_question s n x (row_left n m v k p).size (row_left n m v k p).numbers))) h) ∙ tests.0

      wide : 0 < s.width
      wide = ltb-true 0 s.width (sym (ap (λ (t : Bool). pick t (ltb 0 s.width) (ltb 0 (row_left n m v k p).size)) h) ∙ tests.1)

      seen-drawn : event (call_of n m v k p) p.world ≡ drew out (said given (draw_reply s D)) out-after
      unfolding call_of event
      seen-drawn = ap (λ (t : Bool). event (pick t (draw n out) (feed n (row_left n m v k p))) p.world) h

      draw-made : Made n m v k p (event (call_of n m v k p) p.world) (after_call n m v k p)
      draw-made =
          goes-is D drawn-goes
          (λ z.
          let reply : draw_reply s D ≡ answer.gives (a_row s.width (after_draw s s.levels)) = ap (draw_reply s) z ∙ draw-0 s s.levels h in
          let u = draw-passes n m v k p h (after_draw s s.levels) s.width (draw_store s D x) out-after.numbers wide (sym z) (sym reply) refl refl in
          let c = draw-keeps s s.levels in
          seen_as _ _ _ _ (seen-drawn ∙ ap (λ (i : answer.Reply Handed). drew out (said given i) out-after) reply) u.1
          (drew-one _ out-after c.0 c.1 c.2 (draw-more s s.levels h) (draw-past s s.levels D x out.numbers)))
          (λ z.
          let reply : draw_reply s D ≡ answer.impossible (ended_reader s) = ap (draw_reply s) z ∙ draw-14 s s.levels n out.size x z in
          let u = draw_ends n m v k p h (ended_reader s) (draw_store s D x) wide (sym z) (sym reply) refl in
          seen_as _ _ _ _ (seen-drawn ∙ ap (λ (i : answer.Reply Handed). drew out (said given i) out-after) reply) u.1 (no-draw _ out-after refl))

    made : Made n m v k p (event (call_of n m v k p) p.world) (after_call n m v k p)
    made = go (drawable s) refl
      where
        go : (t : Bool) → drawable s ≡ t → Made n m v k p (event (call_of n m v k p) p.world) (after_call n m v k p)
        go true h = draw-made h
        go false h = feed-made h

-- ---- all of them
noted-world : (p : Run) (w : World) (e : Event) → (noted p w e).world ≡ w
unfolding noted
noted-world p w (wanted a) = refl
noted-world p w (fed a (gives u)) = refl
noted-world p w (fed a (refused q)) = refl
noted-world p w (drew a (gives (heights j)) b) = refl
noted-world p w (drew a (gives nothing) b) = refl
noted-world p w (drew a (refused q) b) = refl

module _ (n m : ℕ) (v : ℕ → ℤ) (k : ℕ) where
  after-world : (p : Run) → (after_call n m v k p).world ≡ next (call_of n m v k p) p.world
  unfolding after_call
  after-world p = noted-world p (next (call_of n m v k p) p.world) (event (call_of n m v k p) p.world)

  calls-none : (f : ℕ) (p : Run) → due n m v k p ≡ false → calls n m v k f p ≡ []
  unfolding calls
  calls-none zero p d = refl
  calls-none (suc f) p d = rw d refl

  abbrev on : Run → Run
  on p = after_call n m v k p

  from : (f : ℕ) (p : Run) → From m v p (events (calls n m v k f p) p.world) (ran n m v k f p)
  unfolding calls ran lists.events
  from zero p = from-none m v p
  from (suc f) p = go (due n m v k p) refl (from f (after_call n m v k p))
    where
      go : (t : Bool) → due n m v k p ≡ t → From m v (on p) (events (calls n m v k f (on p)) (on p).world) (ran n m v k f (on p)) →
          From m v p (events (pick t (call_of n m v k p ∷ calls n m v k f (on p)) []) p.world) (pick t (ran n m v k f (on p)) p)
      go false d g = from-none m v p
      go true d g =
          from_one n m v k p (ran n m v k f (on p)) (event (call_of n m v k p) p.world) (on p)
          (events (calls n m v k f (on p)) (next (call_of n m v k p) p.world))
          (made n m v k p d)
          (λ e. ap (λ (cs : List Call). events cs (next (call_of n m v k p) p.world)) (calls-none f (on p) (ended-over n m v k (on p) e)))
          (subst (λ (w : World). From m v (on p) (events (calls n m v k f (on p)) w) (ran n m v k f (on p))) (after-world p) g)

  world_is : (f : ℕ) (p : Run) → final (calls n m v k f p) p.world ≡ (ran n m v k f p).world
  unfolding calls ran lists.final
  world_is zero p = refl
  world_is (suc f) p = go (due n m v k p) (world_is f (after_call n m v k p))
    where
      go : (t : Bool) → final (calls n m v k f (on p)) (on p).world ≡ (ran n m v k f (on p)).world →
          final (pick t (call_of n m v k p ∷ calls n m v k f (on p)) []) p.world ≡ (pick t (ran n m v k f (on p)) p).world
      go false g = refl
      go true g = ap (final (calls n m v k f (on p))) (sym (after-world p)) ∙ g

-- ---- a call that is made uses a number, draws a row or ends the reader, so the run ends where no call is due, and not for want of calls
life-most : (t : Bool) → life t ≤ 1
life-most true = omega arith
life-most false = omega arith

life-none : (t : Bool) → life t ≡ 0 → t ≡ true
life-none true h = refl
life-none false h = absurd (omega arith)

module _ (n m : ℕ) (v : ℕ → ℤ) (k : ℕ) where
  ended-less : (p : Run) (w : World) → w.reader ≡ ended_reader p.world.reader → p.world.reader.ended ≡ false → left_of m (moved_to p w) < left_of m p
  ended-less p w e live =
      let c = ended_is p.world.reader w.reader e in
      omega (arith, ap life live, ap life c.0, c.2, c.3)

  made-less : (p : Run) (e : Event) (o : Run) → Made n m v k p e o → p.world.reader.ended ≡ false → left_of m o < left_of m p
  made-less p _ _ (fed-one w ew eh ed some) live = omega (arith, ap life live, life-most w.reader.ended)
  made-less p _ _ (drew-one w b ew eh ed more past) live = omega (arith, ap life live, life-most w.reader.ended)
  made-less p _ _ (no-feed w e) live = ended-less p w e live
  made-less p _ _ (no-draw w b e) live = ended-less p w e live

  ran_over : (f : ℕ) (p : Run) → left_of m p ≤ f → due n m v k (ran n m v k f p) ≡ false
  unfolding ran
  ran_over zero p h = ended-over n m v k p (life-none p.world.reader.ended (omega arith))
  ran_over (suc f) p h = go (due n m v k p) refl (λ y. ran_over f (after_call n m v k p) y)
    where
      go : (t : Bool) → due n m v k p ≡ t → (left_of m (after_call n m v k p) ≤ f → due n m v k (ran n m v k f (after_call n m v k p)) ≡ false) →
          due n m v k (pick t (ran n m v k f (after_call n m v k p)) p) ≡ false
      go false d i = d
      go true d i =
          i (omega (arith, made-less p (event (call_of n m v k p) p.world) (after_call n m v k p) (made n m v k p d) (live n m v k p d)))

pub run_ends : (s : Reader) (n m : ℕ) (v : ℕ → ℤ) (k : ℕ) (x z : ℕ → ℤ) → due n m v k (run_of s n m v k x z) ≡ false
unfolding run_of
run_ends s n m v k x z = ran_over n m v k (most s m) (begin s x z) (omega (arith, life-most s.ended))

-- ---- the theorem: whatever the state and whatever was lent
pub run-is-list : (s : Reader) (n m : ℕ) (v : ℕ → ℤ) (k : ℕ) (x z : ℕ → ℤ) →
    IsList (record { reader = s; store = x }) m v z (run_calls s n m v k x z) (run_of s n m v k x z)
unfolding run_calls run_of
run-is-list s n m v k x z =
    let none : 0 ≡ 0 * s.width = omega arith in
    let f = from n m v k (most s m) (begin s x z) in
    record {
      world = world_is n m v k (most s m) (begin s x z);
      pass = f.pass;
      used = omega (arith, f.used);
      few = f.few (omega arith);
      numbers = f.numbers;
      rows = omega (arith, f.rows);
      area = ap (λ (i : ℕ). laid i (rows_drawn (events (calls n m v k (most s m) (begin s x z)) (record { reader = s; store = x }))) z) none ∙ f.area;
    }

-- demand 3 of every list of runs and single calls on a fresh strict reader
pub demand-3-runs : (f : ℕ) (W H : Side) (L n : ℕ) → W.start ≤ max_origin → H.start ≤ max_origin → set_up_question f W H L n ≡ 0 → (x : ℕ → ℤ)
    (ps : List Piece) → OfCalls f 0 0 W H L x (all_calls ps (fresh_world f 0 0 W H L x))
demand-3-runs f W H L n across down ok x ps = demand-3 f W H L n across down ok x (all_calls ps (fresh_world f 0 0 W H L x))
