-- The reader with no level to work out: its questions and calls, case by case. Assumes nothing.
use mathlib.Core.Path.{◌≡◌, refl, sym, ap, ap₂, ◌∙◌, fun_ext}
use mathlib.Core.Bool.{Bool, true, false, not}
use mathlib.Core.List.{List, [], ◌∷◌}
use Prim.Native.Nat.{ℕ, suc, ◌+◌, ◌-◌, ◌*◌, ◌≤◌, ◌<◌, ◌^◌}
use native.Mathlib.Omega.{arith}
use native.Mathlib.Decide.{dec_lt}
use native.Mathlib.Numerals.{add-one}
use lib.IntN.{ℤ}
use lib.Dec.{leb, ltb, eqb}
use lib.ListN.{length}
use borrow.Rule.Slice.PartMut.{mid_of}
use borrow.Author.Tests.{le-leb, lt-leb, lt-ltb, le-ltb, eq-eqb, ne_eqb, leb-true, ltb-true, eqb-true}
use Rattle.numbers.specs.Signal.{at, pick, both, windowed}
use Rattle.numbers.proofs.Parts.{length-mid, at_mid}
use Rattle.areas.proofs.AreaLaws.{front_at, front_rest}
use Rattle.numbers.proofs.Sweep.{both as halves}
use Rattle.lifting.specs.Halves.{fronted}
use Rattle.wavelet.specs.Limits.{max_width, max_height, max_origin}
use Rattle.wavelet.specs.Bands.{code}
use Rattle.wavelet.specs.Questions.{ask, within}
use Rattle.wavelet.proofs.QuestionLaws.{within-true}
use Rattle.wavelet.proofs.LimitLaws.{width_small, height-small}
use Rattle.filters.specs.Filters.{filter_of, is_filter}
use Rattle.calls.proofs.QuestionLaws.{asks, asks-no, asks-yes}
use Rattle.reader.specs.declared.Reader.{Reader}
use Rattle.reader.specs.Answers.{gives, refused, Want, row, draw_now, done, ended, a_row, nothing}
use Rattle.reader.specs.Questions.{store_fits, run_fits}
use Rattle.reader.specs.Limited.{limited}
use Rattle.reader.specs.Last.{max_spare, counts_fit, unfinished, row_due, draw_due, store_question, row_question, want_question, feed_question, draw_question}
use Rattle.reader.specs.Last.{wants, moved_to, want_reply, feed_reply, draw_reply, feed_store, draw_area}

-- ---- question 1: the first test that fails, and the last
module _ (s : Reader) where
  pub last-0 : is_filter s.filter ≡ false → false ≡ counts_fit s
  unfolding counts_fit
  last-0 e = rw (e)

  module _ (t0 : is_filter s.filter ≡ true) where
    pub last-1 : within 1 (filter_of s.filter).levels s.stop ≡ false → false ≡ counts_fit s
    unfolding counts_fit
    last-1 e = rw (t0, e)

    module _ (t1 : within 1 (filter_of s.filter).levels s.stop ≡ true) where
      pub last-2 : leb s.width max_width ≡ false → false ≡ counts_fit s
      unfolding counts_fit
      last-2 e = rw (t0, t1, e)

      module _ (t2 : leb s.width max_width ≡ true) where
        pub last-3 : leb s.height max_height ≡ false → false ≡ counts_fit s
        unfolding counts_fit
        last-3 e = rw (t0, t1, t2, e)

        module _ (t3 : leb s.height max_height ≡ true) where
          pub last-4 : leb s.x max_origin ≡ false → false ≡ counts_fit s
          unfolding counts_fit
          last-4 e = rw (t0, t1, t2, t3, e)

          module _ (t4 : leb s.x max_origin ≡ true) where
            pub last-5 : leb s.y max_origin ≡ false → false ≡ counts_fit s
            unfolding counts_fit
            last-5 e = rw (t0, t1, t2, t3, t4, e)

            module _ (t5 : leb s.y max_origin ≡ true) where
              pub last-6 : leb s.drawn s.height ≡ false → false ≡ counts_fit s
              unfolding counts_fit
              last-6 e = rw (t0, t1, t2, t3, t4, t5, e)

              module _ (t6 : leb s.drawn s.height ≡ true) where
                pub last-7 : eqb s.level 0 ≡ false → false ≡ counts_fit s
                unfolding counts_fit
                last-7 e = rw (t0, t1, t2, t3, t4, t5, t6, e)

                module _ (t7 : eqb s.level 0 ≡ true) where
                  pub last-8 : leb s.band 4 ≡ false → false ≡ counts_fit s
                  unfolding counts_fit
                  last-8 e = rw (t0, t1, t2, t3, t4, t5, t6, t7, e)

                  module _ (t8 : leb s.band 4 ≡ true) where
                    pub last-9 : eqb s.back 0 ≡ false → false ≡ counts_fit s
                    unfolding counts_fit
                    last-9 e = rw (t0, t1, t2, t3, t4, t5, t6, t7, t8, e)

                    module _ (t9 : eqb s.back 0 ≡ true) where
                      pub last-10 : leb s.width s.spare ≡ false → false ≡ counts_fit s
                      unfolding counts_fit
                      last-10 e = rw (t0, t1, t2, t3, t4, t5, t6, t7, t8, t9, e)

                      module _ (t10 : leb s.width s.spare ≡ true) where
                        pub last-11 : leb s.spare max_spare ≡ false → false ≡ counts_fit s
                        unfolding counts_fit
                        last-11 e = rw (t0, t1, t2, t3, t4, t5, t6, t7, t8, t9, t10, e)

                        module _ (t11 : leb s.spare max_spare ≡ true) where
                          pub last-all : eqb s.admission 0 ≡ counts_fit s
                          unfolding counts_fit
                          last-all = rw (t0, t1, t2, t3, t4, t5, t6, t7, t8, t9, t10, t11) refl

  -- what it says
  pub last-in : counts_fit s ≡ true → (s.stop ≤ (filter_of s.filter).levels) × (s.width ≤ max_width) × (s.height ≤ max_height) × (s.drawn ≤ s.height)
      × (s.width ≤ s.spare) × (s.admission ≡ 0) × (s.level ≡ 0)
  unfolding counts_fit
  last-in e =
      let a0 = halves (is_filter s.filter) _ (e) in
      let a1 = halves (within 1 (filter_of s.filter).levels s.stop) _ a0.1 in
      let a2 = halves (leb s.width max_width) _ a1.1 in
      let a3 = halves (leb s.height max_height) _ a2.1 in
      let a4 = halves (leb s.x max_origin) _ a3.1 in
      let a5 = halves (leb s.y max_origin) _ a4.1 in
      let a6 = halves (leb s.drawn s.height) _ a5.1 in
      let a7 = halves (eqb s.level 0) _ a6.1 in
      let a8 = halves (leb s.band 4) _ a7.1 in
      let a9 = halves (eqb s.back 0) _ a8.1 in
      let a10 = halves (leb s.width s.spare) _ a9.1 in
      let a11 = halves (leb s.spare max_spare) _ a10.1 in (
        (within-true 1 (filter_of s.filter).levels s.stop a1.0).1,
        leb-true _ _ a2.0,
        leb-true _ _ a3.0,
        leb-true _ _ a6.0,
        leb-true _ _
            a10.0,
        eqb-true _ _ a11.1,
        eqb-true _ _ a7.0,
      )

-- ---- 1, 5 and 9
module _ (s : Reader) (n : ℕ) where
  abbrev early : List (Bool × ℕ)
  early = (counts_fit s, 0) ∷ (store_fits s.spare n, 4) ∷ (not s.ended, 8) ∷ []

  pub store-1 : counts_fit s ≡ false → 1 ≡ store_question s n
  unfolding store_question
  store-1 e = rw e

  module _ (one : counts_fit s ≡ true) where
    pub store-5 : n < s.spare → 5 ≡ store_question s n
    unfolding store_question store_fits
    store-5 h = rw (one, lt-leb s.spare n h)

    pub store-9 : s.spare ≤ n → s.ended ≡ true → 9 ≡ store_question s n
    unfolding store_question store_fits
    store-9 h e = rw (one, le-leb s.spare n h, e)

    pub store-0 : s.spare ≤ n → s.ended ≡ false → 0 ≡ store_question s n
    unfolding store_question store_fits
    store-0 h e = rw (one, le-leb s.spare n h, e)

  pub store_in : store_question s n ≡ 0 → (counts_fit s ≡ true) × (s.spare ≤ n)
  unfolding store_question store_fits
  store_in e = go (counts_fit s) (leb s.spare n) refl refl e
    where
      go : (a b : Bool) → counts_fit s ≡ a → leb s.spare n ≡ b → ask a 1 (ask b 5 (ask (not s.ended) 9 0)) ≡ 0 → (counts_fit s ≡ true) × (s.spare ≤ n)
      go true true ea eb e = (ea, leb-true _ _ eb)
      go true false ea eb e = absurd (omega arith)
      go false b ea eb e = absurd (omega arith)

  -- a row has room in the store
  pub room_in : store_question s n ≡ 0 → s.width ≤ n
  room_in e = let p = store_in e in omega (arith, (last-in s p.0).4, p.1)

-- ---- 8, 13 and 7
module _ (s : Reader) (m : ℕ) (v : ℕ → ℤ) where
  abbrev late : List (Bool × ℕ)
  late = (row_due s, 7) ∷ (eqb m s.width, 12) ∷ (run_fits s.filter s.stop m v, 6) ∷ []

  pub row-done : s.height ≤ s.drawn → 8 ≡ row_question s m v
  unfolding row_question row_due unfinished
  row-done h = rw (le-ltb s.drawn s.height h)

  module _ (more : s.drawn < s.height) where
    pub row-draw : (s.band ≡ 0 → ⊥) → 8 ≡ row_question s m v
    unfolding row_question row_due unfinished
    row-draw e = rw (lt-ltb s.drawn s.height more, ne_eqb s.band 0 e)

    module _ (here : s.band ≡ 0) where
      pub row-13 : (m ≡ s.width → ⊥) → 13 ≡ row_question s m v
      unfolding row_question row_due unfinished
      row-13 e = rw (lt-ltb s.drawn s.height more, eq-eqb s.band 0 here, ne_eqb m s.width e)

      module _ (long : m ≡ s.width) where
        pub row-7 : run_fits s.filter s.stop m v ≡ false → 7 ≡ row_question s m v
        unfolding row_question row_due unfinished
        row-7 e = rw (lt-ltb s.drawn s.height more, eq-eqb s.band 0 here, eq-eqb m s.width long, e)

        pub row-0 : run_fits s.filter s.stop m v ≡ true → 0 ≡ row_question s m v
        unfolding row_question row_due unfinished
        row-0 e = rw (lt-ltb s.drawn s.height more, eq-eqb s.band 0 here, eq-eqb m s.width long, e)

  pub row-asked : row_question s m v ≡ 0 → m ≡ s.width
  unfolding row_question
  row-asked e = go (row_due s) (eqb m s.width) refl e
    where
      go : (a b : Bool) → eqb m s.width ≡ b → ask a 8 (ask b 13 (ask (run_fits s.filter s.stop m v) 7 0)) ≡ 0 → m ≡ s.width
      go true true eb e = eqb-true _ _ eb
      go true false eb e = absurd (omega arith)
      go false b eb e = absurd (omega arith)

-- ---- want
module _ (s : Reader) where
  pub want-no : counts_fit s ≡ false → refused 1 ≡ want_reply s (want_question s)
  unfolding want_reply want_question
  want-no e = rw e

  module _ (one : counts_fit s ≡ true) where
    wants-are : gives (wants s) ≡ want_reply s (want_question s)
    unfolding want_reply want_question
    wants-are = rw one

    pub want-ended : s.ended ≡ true → gives ended ≡ want_reply s (want_question s)
    want-ended e = let z : ended ≡ wants s = unfold wants in rw e in ap gives z ∙ wants-are

    module _ (live : s.ended ≡ false) where
      pub want-done : s.height ≤ s.drawn → gives done ≡ want_reply s (want_question s)
      want-done h = let z : done ≡ wants s = unfold wants unfinished in rw (live, le-ltb s.drawn s.height h) in ap gives z ∙ wants-are

      pub want-draw : s.drawn < s.height → (s.band ≡ 0 → ⊥) → gives draw_now ≡ want_reply s (want_question s)
      want-draw h e =
          let z : draw_now ≡ wants s = unfold wants unfinished in rw (live, lt-ltb s.drawn s.height h, ne_eqb s.band 0 e) in
          ap gives z ∙ wants-are

      pub want-row : s.drawn < s.height → s.band ≡ 0 → gives (row s.stop 0 s.drawn s.width) ≡ want_reply s (want_question s)
      unfolding code
      want-row h e =
          let z : row s.stop 0 s.drawn s.width ≡ wants s =
          unfold wants unfinished in rw (live, lt-ltb s.drawn s.height h, eq-eqb s.band 0 e) in
          ap gives z ∙ wants-are

-- ---- feed, of m numbers v on a store x of n numbers
module _ (s : Reader) (n m : ℕ) (v x : ℕ → ℤ) where
  abbrev Q : ℕ
  Q = feed_question s n m v

  feed-no : (r : ℕ) → r ≡ Q → (r ≡ 0 → ⊥) → (refused r ≡ feed_reply s Q) × (x ≡ feed_store s Q v x)
  unfolding feed_reply feed_store
  feed-no r e h = let a = ne_eqb r 0 h in (rw (← e, a), rw (← e, a))

  pub early-feed : (store_question s n ≡ 0 → ⊥) → store_question s n ≡ Q
  unfolding store_question feed_question
  early-feed h = asks-no (early s n) _ h

  pub feed-early : (r : ℕ) → r ≡ store_question s n → (r ≡ 0 → ⊥) → (refused r ≡ feed_reply s Q) × (x ≡ feed_store s Q v x)
  feed-early r e h = feed-no r (e ∙ early-feed (λ z. h (e ∙ z))) h

  module _ (one : store_question s n ≡ 0) where
    pub late-feed : (row_question s m v ≡ 0 → ⊥) → row_question s m v ≡ Q
    unfolding store_question row_question feed_question
    late-feed h = asks-no (late s m v) _ h ∙ asks-yes (early s n) (asks (late s m v) 0) one

    pub feed-late : (r : ℕ) → r ≡ row_question s m v → (r ≡ 0 → ⊥) → (refused r ≡ feed_reply s Q) × (x ≡ feed_store s Q v x)
    feed-late r e h = feed-no r (e ∙ late-feed (λ z. h (e ∙ z))) h

    pub feed-zero : row_question s m v ≡ 0 → 0 ≡ Q
    unfolding store_question row_question feed_question
    feed-zero two = asks-yes (late s m v) 0 two ∙ asks-yes (early s n) (asks (late s m v) 0) one

    pub feed-yes : row_question s m v ≡ 0 → (t : Reader) (y : ℕ → ℤ) → t ≡ moved_to s s.drawn 4 → y ≡ fronted m v x →
        (gives t ≡ feed_reply s Q) × (y ≡ feed_store s Q v x)
    unfolding feed_reply feed_store
    feed-yes two t y et ey = let z = feed-zero two in
        (rw (← z) (ap gives et), rw (← z) (ey ∙ ap (λ (i : ℕ). fronted i v x) (row-asked s m v two)))

-- the front of the store, lent, limited
pub front-limited : (w : ℕ) (l : List ℤ) (z : ℕ → ℤ) → w ≤ length l →
    fronted (length (mid_of 0 (w - 0) l)) (λ c. limited (at (mid_of 0 (w - 0) l) c)) z ≡ fronted w (λ c. limited (at l c)) z
front-limited w l z room =
    let e : w - 0 ≡ w = omega arith in
    let long : length (mid_of 0 (w - 0) l) ≡ w = length-mid 0 (w - 0) l (omega arith) ∙ e in
    ap₂ (λ (i k : ℕ). fronted i (λ c. limited (at (mid_of 0 k l) c)) z) long e
    ∙ fun_ext λ j. elim (dec_lt j w) [
      | yes p ↦ front_at w _ z j p ∙ ap limited (same j p) ∙ sym (front_at w _ z j p)
      | no q ↦ front_rest w _ z j (omega arith) ∙ sym (front_rest w _ z j (omega arith))
    ]
  where
    same : (j : ℕ) → j < w → at (mid_of 0 w l) j ≡ at l j
    same j p = ap (λ (f : ℕ → ℤ). f j) (at_mid 0 w l) ∙ (unfold windowed in
        let e : 0 + j ≡ j = omega arith in rw (lt-ltb j w p) (ap (at l) e))

-- ---- draw, into the area z of m heights
module _ (s : Reader) (n m : ℕ) (x z : ℕ → ℤ) where
  abbrev D : ℕ
  D = draw_question s n m

  draw-no : (r : ℕ) → r ≡ D → (r ≡ 0 → ⊥) → (refused r ≡ draw_reply s D) × (z ≡ draw_area s D x z)
  unfolding draw_reply draw_area
  draw-no r e h = let a = ne_eqb r 0 h in (rw (← e, a), rw (← e, a))

  pub early-draw : (store_question s n ≡ 0 → ⊥) → store_question s n ≡ D
  unfolding store_question draw_question
  early-draw h = asks-no (early s n) _ h

  pub draw-early : (r : ℕ) → r ≡ store_question s n → (r ≡ 0 → ⊥) → (refused r ≡ draw_reply s D) × (z ≡ draw_area s D x z)
  draw-early r e h = draw-no r (e ∙ early-draw (λ y. h (e ∙ y))) h

  module _ (one : store_question s n ≡ 0) where
    pub rest-is : pick (draw_due s) (ask (leb s.width m) 12 0) 0 ≡ D
    unfolding store_question draw_question
    rest-is = asks-yes (early s n) _ one

    nothing_is : draw_due s ≡ false → (gives nothing ≡ draw_reply s D) × (z ≡ draw_area s D x z)
    unfolding draw_reply draw_area
    nothing_is e = let q : 0 ≡ D = (rw e) ∙ rest-is in (rw (← q, e), rw (← q, e))

    pub draw-done : s.height ≤ s.drawn → (gives nothing ≡ draw_reply s D) × (z ≡ draw_area s D x z)
    draw-done h = nothing_is (unfold draw_due unfinished in rw (le-ltb s.drawn s.height h) refl)

    module _ (more : s.drawn < s.height) where
      pub draw-wanted : s.band ≡ 0 → (gives nothing ≡ draw_reply s D) × (z ≡ draw_area s D x z)
      draw-wanted e = nothing_is (unfold draw_due unfinished in rw (lt-ltb s.drawn s.height more, eq-eqb s.band 0 e) refl)

      module _ (fed : s.band ≡ 0 → ⊥) where
        pub due : draw_due s ≡ true
        unfolding draw_due unfinished
        due = rw (lt-ltb s.drawn s.height more, ne_eqb s.band 0 fed) refl

        pub draw-12 : m < s.width → (refused 12 ≡ draw_reply s D) × (z ≡ draw_area s D x z)
        draw-12 h = draw-no 12 ((rw (due, lt-leb s.width m h)) ∙ rest-is) (omega arith)

        pub draw-yes : s.width ≤ m → (t : Reader) (u : ℕ → ℤ) → t ≡ moved_to s (s.drawn + 1) 0 →
            u ≡ fronted s.width (λ c. limited (x c)) z → (gives (a_row s.width t) ≡ draw_reply s D) × (u ≡ draw_area s D x z)
        unfolding draw_reply draw_area
        draw-yes h t u et eu =
            let q : 0 ≡ D = (rw (due, le-leb s.width m h)) ∙ rest-is in
            let e = et ∙ ap (λ (i : ℕ). moved_to s i 0) (add-one s.drawn) in
            (rw (← q, due) (ap (λ (r : Reader). gives (a_row s.width r)) e), rw (← q, due) eu)
