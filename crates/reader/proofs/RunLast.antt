-- A run's turns of a reader with no level to work out. Assumes nothing.
use mathlib.Core.Path.{◌≡◌, refl, sym, ap, ap₂, subst, ◌∙◌}
use mathlib.Core.Bool.{Bool, true, false, not}
use Prim.Native.Nat.{ℕ, suc, ◌+◌, ◌-◌, ◌*◌, ◌≤◌, ◌<◌, min}
use native.Mathlib.Omega.{arith}
use lib.IntN.{ℤ}
use lib.Dec.{ltb, eqb}
use borrow.Author.Tests.{le-ltb, lt-ltb, le-leb, lt-leb, eq-eqb, ne_eqb}
use Rattle.numbers.specs.Signal.{pick, both, windowed}
use Rattle.wavelet.specs.Questions.{ask}
use Rattle.lifting.specs.Halves.{fronted}
use Rattle.level.specs.Level.{rest, join_at}
use Rattle.calls.specs.Lists.{Area}
use Rattle.reader.specs.declared.Reader.{Reader}
use Rattle.reader.specs.declared.run_steps.Place.{Place}
use Rattle.reader.specs.declared.runs.Tally.{Tally}
use Rattle.reader.specs.Limited.{limited}
use Rattle.reader.specs.Questions.{run_fits, store_fits}
use Rattle.reader.specs.Questions as levels
use Rattle.reader.specs.State as levels-state
use Rattle.reader.specs.Calls as call
use Rattle.reader.specs.Last.{counts_fit, store_question, row_question, draw_due, unfinished, moved_to}
use Rattle.reader.specs.Last as last
use Rattle.reader.specs.Reading.{feed_store}
use Rattle.reader.specs.Reading as reading
use Rattle.reader.specs.Runs.{Run, put, goes, drawable, row_left, due, after_call}
use Rattle.reader.specs.RunSteps.{reader_at, Own, run_at, life, where_some, refusal, Turned}
use Rattle.reader.proofs.LastLaws.{early-feed, early-draw, late-feed, feed-zero, feed-yes, rest-is}
use Rattle.reader.proofs.LastLaws.{draw-12, draw-yes, row-done, row-13, row-7, row-0, store-0}
use Rattle.reader.proofs.RunPlaces.{false-not-true}
use Rattle.reader.proofs.RunLaws.{by_last, feed-away, feed-empty, feed-passes, draw-away, draw-empty}
use Rattle.reader.proofs.RunLaws.{draw-passes, some-refusal, none-some, none-fit, Q, D}

-- the reader at the place of another that it moved to
pub place-moved : (s r : Reader) (q : Place) (d c : ℕ) → r ≡ moved_to s d c → reader_at r q ≡ r → reader_at s q ≡ moved_to s d c
place-moved s r q d c e f = ap (λ (t : Reader). reader_at t q) (sym e) ∙ f ∙ e

nonzero : (i : ℕ) → suc i ≡ 0 → ⊥
nonzero i e = omega arith

early-goes : (a b c : Bool) → (ask a 1 (ask b 5 (ask c 9 0)) ≡ 0 → ⊥) → goes (ask a 1 (ask b 5 (ask c 9 0))) ≡ false
early-goes true true true h = absurd (h refl)
early-goes true true false h = refl
early-goes true false c h = refl
early-goes false b c h = refl

pub live-asked : (s : Reader) (n : ℕ) → store_question s n ≡ 0 → s.ended ≡ false
unfolding store_question
live-asked s n e = go (counts_fit s) (store_fits s.spare n) s.ended e
  where
    go : (a b c : Bool) → ask a 1 (ask b 5 (ask (not c) 9 0)) ≡ 0 → c ≡ false
    go true true true h = absurd (nonzero 8 h)
    go true true false h = refl
    go true false c h = absurd (nonzero 4 h)
    go false b c h = absurd (nonzero 0 h)

module _ (n m : ℕ) (v : ℕ → ℤ) (k : ℕ) (d : Tally) (s : Reader) (x z : ℕ → ℤ) (none : s.levels ≡ 0) where
  abbrev p : Run
  p = run_at d s x z

  abbrev row : Area
  row = row_left n m v k p

  abbrev free : ℕ
  free = k - d.rows * s.width

  drawable-is : drawable s ≡ draw_due s
  drawable-is = by_last s.levels (draw_due s) (levels-state.draw_due s) none

  feed-is : (e : drawable s ≡ false) → Q n m v k p e ≡ last.feed_question s n row.size row.numbers
  feed-is e = by_last s.levels (last.feed_question s n row.size row.numbers) (levels.feed_question s n x row.size row.numbers) none

  draw-is : (e : drawable s ≡ true) → D n m v k p e ≡ last.draw_question s n free
  draw-is e = by_last s.levels (last.draw_question s n free) (levels.draw_question s n x free) none

  -- ---- 1, 5 and 9
  pub last-early : (q : ℕ) → q ≡ store_question s n → (q ≡ 0 → ⊥) → due n m v k p ≡ false
  last-early q e h = go (drawable s) refl
    where
      away : goes (store_question s n) ≡ false
      away = unfold store_question in early-goes (counts_fit s) (store_fits s.spare n) (not s.ended) (λ f. h (e ∙ (unfold store_question in f)))

      go : (t : Bool) → drawable s ≡ t → due n m v k p ≡ false
      go true g = (draw-away n m v k p g (ap goes (draw-is g ∙ sym (early-draw s n free x z (λ f. h (e ∙ f)))) ∙ away)).0
      go false g =
          (feed-away n m v k p g (ap goes (feed-is g ∙ sym (early-feed s n row.size row.numbers x (λ f. h (e ∙ f)))) ∙ away)).0

  pub last-says : (q : ℕ) → q ≡ store_question s n → (q ≡ 0 → ⊥) → s.spare ≤ n → reading.counts_fit s ≡ true → s.ended ≡ false → q ≡ refusal n m v k p
  last-says q e h room fit live =
      absurd (h (e ∙ sym (store-0 s n (sym (by_last s.levels (counts_fit s) (levels.counts_fit s) none) ∙ fit) room live)))

  module _ (one : store_question s n ≡ 0) where
    -- a row that is turned away
    turned-away : (g : drawable s ≡ false) (q : ℕ) → q ≡ row_question s row.size row.numbers → (q ≡ 0 → ⊥) → goes q ≡ false →
        (due n m v k p ≡ false) × (where_some q m ≡ refusal n m v k p)
    turned-away g q e nz ng =
        let is : Q n m v k p g ≡ q = feed-is g ∙ sym (late-feed s n row.size row.numbers x one (λ f. nz (e ∙ f))) ∙ sym e in
        let u = feed-away n m v k p g (ap goes is ∙ ng) in
        (u.0, some-refusal n m v k p q g (u.1 ∙ is))

    pub last-done : s.height ≤ s.drawn → (due n m v k p ≡ false) × (where_some 8 m ≡ refusal n m v k p)
    last-done h =
        let g : drawable s ≡ false = drawable-is ∙ (unfold draw_due unfinished in rw (le-ltb s.drawn s.height h) refl) in
        turned-away g 8 (row-done s row.size row.numbers h) (nonzero 7) refl

    module _ (more : s.drawn < s.height) where
      -- ---- a row is wanted
      module _ (wanted : s.band ≡ 0) where
        not-drawable : drawable s ≡ false
        not-drawable = drawable-is ∙ (unfold draw_due unfinished in rw (lt-ltb s.drawn s.height more, eq-eqb s.band 0 wanted) refl)

        size_is : row.size ≡ min s.width (m - d.used)
        size_is = ap (λ i. min i (m - d.used)) (by_last s.levels s.width (levels-state.next_length s) none)

        pub last_empty : s.width ≡ 0 → (due n m v k p ≡ false) × (0 ≡ refusal n m v k p)
        last_empty e =
            let small : row.size ≡ 0 = size_is ∙ omega arith in
            let fit : run_fits s.filter s.stop row.size row.numbers ≡ true =
            ap (λ i. run_fits s.filter s.stop i (windowed d.used i v)) small ∙ none-fit s.filter s.stop (windowed d.used 0 v) in
            let two : row_question s row.size row.numbers ≡ 0 = sym (row-0 s row.size row.numbers more wanted (small ∙ sym e) fit) in
            let g : goes (Q n m v k p not-drawable) ≡ true =
            ap goes (feed-is not-drawable ∙ sym (feed-zero s n row.size row.numbers x one two)) in
            let u = feed-empty n m v k p not-drawable small g in
            (u.0, none-some m ∙ some-refusal n m v k p 0 not-drawable u.1)

        pub last-short : m - d.used < s.width → (due n m v k p ≡ false) × (where_some 13 m ≡ refusal n m v k p)
        last-short h =
            turned-away not-drawable 13 (row-13 s row.size row.numbers more wanted (λ e. omega (arith, size_is))) (nonzero 12) refl

        module _ (long : s.width ≤ m - d.used) where
          abbrev part : ℕ → ℤ
          part = windowed d.used s.width v

          whole : row.size ≡ s.width
          whole = size_is ∙ omega arith

          fits-is : run_fits s.filter s.stop row.size row.numbers ≡ run_fits s.filter s.stop s.width part
          fits-is = ap (λ i. run_fits s.filter s.stop i (windowed d.used i v)) whole

          pub last-large : run_fits s.filter s.stop s.width part ≡ false → (due n m v k p ≡ false) × (where_some 7 m ≡ refusal n m v k p)
          last-large f = turned-away not-drawable 7 (row-7 s row.size row.numbers more wanted whole (fits-is ∙ f)) (nonzero 6) refl

          pub last-fed : run_fits s.filter s.stop s.width part ≡ true → 0 < s.width → d.rows * s.width ≤ k → d.used ≤ m →
              (y : ℕ → ℤ) (q : Place) (d' : Tally) (e : Bool) (a : ℕ) → e ≡ true → y ≡ fronted s.width part x →
              reader_at s q ≡ moved_to s s.drawn 4 → d'.used ≡ d.used + s.width → d'.rows ≡ d.rows →
              Turned n m v k p (run_at d' (reader_at s q) y z) e a
          last-fed f some wide within y q d' e a on ey es eu er =
              let two : row_question s row.size row.numbers ≡ 0 = sym (row-0 s row.size row.numbers more wanted whole (fits-is ∙ f)) in
              let R = Q n m v k p not-drawable in
              let zero_is : 0 ≡ R = feed-zero s n row.size row.numbers x one two ∙ sym (feed-is not-drawable) in
              let made : y ≡ fronted row.size row.numbers x = ey ∙ ap (λ i. fronted i (windowed d.used i v) x) (sym whole) in
              let said-it = feed-yes s n row.size row.numbers x one two (reader_at s q) y es made in
              let lv = by_last s.levels (last.feed_reply s R) (call.feed_reply s R) none in
              let ls = by_last s.levels (last.feed_store s R row.numbers x) (call.feed_store s R row.numbers x) none in
              let u = feed-passes n m v k p not-drawable (reader_at s q) y zero_is (omega (arith, whole))
              (said-it.0 ∙ ap (last.feed_reply s) (sym (feed-is not-drawable)) ∙ sym lv)
              (said-it.1 ∙ ap (λ i. last.feed_store s i row.numbers x) (sym (feed-is not-drawable)) ∙ sym ls) in
              let alive : q.ended ≡ false = ap (λ (t : Reader). t.ended) es in
              let there : q.drawn ≡ s.drawn = ap (λ (t : Reader). t.drawn) es in
              let alive-is : life q.ended ≡ 1 = ap life alive in
              let live-is : life s.ended ≡ 1 = ap life (live-asked s n one) in
              record {
                more = λ _. (
                  u.0,
                  u.1 ∙ ap₂ (λ i j. record { world = record { reader = reader_at s q; store = y }; used = i; rows = j; area = z })
                      (ap (λ i. d.used + i) whole ∙ sym eu) (sym er),
                  omega arith,
                );
                ends = λ g. false-not-true g on;
                says = λ g. false-not-true g on;
                shows = λ _ _. omega arith;
                used = omega arith;
                put = rw er wide;
              }

      -- ---- a row can be drawn
      module _ (fed : s.band ≡ 0 → ⊥) where
        is-drawable : drawable s ≡ true
        is-drawable = drawable-is ∙ (unfold draw_due unfinished in rw (lt-ltb s.drawn s.height more, ne_eqb s.band 0 fed) refl)

        draws : draw_due s ≡ true
        draws = sym drawable-is ∙ is-drawable

        pub last-wide : free < s.width → (due n m v k p ≡ false) × (12 ≡ refusal n m v k p)
        last-wide h =
            let is : D n m v k p is-drawable ≡ 12 = draw-is is-drawable ∙ sym (rest-is s n free x z one) ∙ rw (draws, lt-leb s.width free h) refl in
            let u = draw-away n m v k p is-drawable (ap goes is) in
            (u.0, rw is-drawable (sym (u.1 ∙ is)))

        pub last-narrow : s.width ≡ 0 → (due n m v k p ≡ false) × (0 ≡ refusal n m v k p)
        last-narrow e =
            let is : D n m v k p is-drawable ≡ 0 = draw-is is-drawable ∙ sym (rest-is s n free x z one) ∙ rw
            (draws, le-leb s.width free (omega arith)) refl in
            let u = draw-empty n m v k p is-drawable e (ap goes is) in
            (u.0, rw is-drawable (sym u.1))

        pub last-drew : 0 < s.width → s.width ≤ free → d.rows * s.width ≤ k → d.used ≤ m → (z₁ z' : ℕ → ℤ) (q : Place) (d' : Tally) (e : Bool)
            (a : ℕ) → e ≡ true →
            z₁ ≡ fronted s.width (λ c. limited (x c)) (rest (d.rows * s.width) z) → z' ≡ join_at (d.rows * s.width) z z₁ →
            reader_at s q ≡ moved_to s (s.drawn + 1) 0 → d'.used ≡ d.used → d'.rows ≡ d.rows + 1 →
            Turned n m v k p (run_at d' (reader_at s q) x z') e a
        last-drew some h wide within z₁ z' q d' e a on ez after es eu er =
            let E = D n m v k p is-drawable in
            let zero_is : 0 ≡ E = sym (draw-is is-drawable ∙ sym (rest-is s n free x z one) ∙ rw (draws, le-leb s.width free h) refl) in
            let said-it = draw-yes s n free x (rest (d.rows * s.width) z) one more fed h (reader_at s q) z₁ es ez in
            let lv = by_last s.levels (last.draw_reply s E) (call.draw_reply s E) none in
            let ls = by_last s.levels x (call.draw_store s E x) none in
            let la = by_last s.levels (last.draw_area s E x (rest (d.rows * s.width) z)) (call.draw_area s E x (rest (d.rows * s.width) z)) none in
            let u = draw-passes n m v k p is-drawable (reader_at s q) s.width x z₁ some zero_is
            (said-it.0 ∙ ap (last.draw_reply s) (sym (draw-is is-drawable)) ∙ sym lv) (sym ls)
            (said-it.1 ∙ ap (λ i. last.draw_area s i x (rest (d.rows * s.width) z)) (sym (draw-is is-drawable)) ∙ sym la) in
            let alive : q.ended ≡ false = ap (λ (t : Reader). t.ended) es in
            let there : q.drawn ≡ s.drawn + 1 = ap (λ (t : Reader). t.drawn) es in
            let alive-is : life q.ended ≡ 1 = ap life alive in
            let live-is : life s.ended ≡ 1 = ap life (live-asked s n one) in
            record {
              more = λ _. (
                u.0,
                u.1 ∙ ap₂ (λ i j. record { world = record { reader = reader_at s q; store = x }; used = i; rows = j; area = join_at (d.rows * s.width) z z₁ })
                    (sym eu) (sym er) ∙ ap (λ w. run_at d' (reader_at s q) x w) (sym after),
                omega arith,
              );
              ends = λ g. false-not-true g on;
              says = λ g. false-not-true g on;
              shows = λ _ _. omega arith;
              used = omega arith;
              put = rw er (omega arith);
            }
