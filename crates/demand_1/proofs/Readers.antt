-- Demand 1 of the reader's calls, Rattle's and C's: `reader-calls`. Assumes nothing.
use mathlib.Core.Path.{◌≡◌, refl, subst, sym, ◌∙◌}
use mathlib.Core.Bool.{Bool, true, false, not}
use mathlib.Core.List.{List, [], ◌∷◌}
use Prim.Native.Nat.{ℕ, zero, suc, ◌+◌, ◌≤◌}
use native.Mathlib.Omega.{arith}
use lib.Dec.{leb, eqb}
use borrow.Author.Tests.{eqb-true}
use Rattle.numbers.specs.Signal.{pick}
use Rattle.lifting.specs.Grid.{Side}
use Rattle.wavelet.specs.Asks.{needed, ReaderSetUpAsks}
use Rattle.filters.specs.Figures.{store_by}
use Rattle.filters.proofs.PlainFigures.{needed-is}
use Rattle.reader.specs.declared.Reader.{Reader}
use Rattle.reader.specs.Answers.{Reply, gives, refused, impossible, number}
use Rattle.reader.specs.State.{columns, ended_reader}
use Rattle.reader.specs.Store.{zeroed}
use Rattle.reader.specs.Questions.{set_up_question, store_fits, run_fits}
use Rattle.reader.specs.Questions as levels
use Rattle.reader.specs.Calls.{fresh, set_up_reply, set_up_store}
use Rattle.reader.specs.Calls as levels-call
use Rattle.reader.specs.Last as last
use Rattle.reader.specs.Plain.{FeedAsks}
use Rattle.reader.specs.Reading.{by, want_question, feed_question, draw_question, want_reply, feed_reply, draw_reply}
use Rattle.reader.proofs.LastLaws.{last-in}
use Rattle.areas.proofs.AreaLaws.{front_rest}
use Rattle.lifting.specs.Halves.{fronted}
use Rattle.wavelet.specs.Questions.{ask}
use Rattle.calls.specs.Lists.{all_none, all_more}
use Rattle.calls.proofs.QuestionLaws.{asked-yes, asks_none}
use Rattle.reader.proofs.SetUpPasses.{set-up-asks, set-up-passes, feed-asks}
use Rattle.reader.proofs.Surplus.{feed_surplus, draw_surplus}
use Rattle.states.specs.ReaderAnswers.{count_of}
use Rattle.states.specs.ReaderState.{is_reader, reader_of}
use Rattle.terrain.specs.ReaderCalls as c
use Rattle.level.specs.Level.{Memory}
use Rattle.demand_1.specs.Words.{Kept, KeptBut14, Zeroed}
use Rattle.demand_1.specs.Readers.{own, SetUp, Feed, Draw, CWant, CFeed, CDraw, ReaderCalls}
use Rattle.demand_1.proofs.WordLaws.{front-zeroed, kept, kept_but, on-pass, on-14}

-- ---- an answer without 14
module _ {A : Type 0} (q : ℕ) (a : A) where
  abbrev pub plain : Reply A
  plain = pick (eqb q 0) (gives a) (refused q)

  pub plain-number : number plain ≡ q
  plain-number = go (eqb q 0) refl
    where
      go : (t : Bool) → eqb q 0 ≡ t → number (pick t (gives a) (refused q)) ≡ q
      go true e = sym (eqb-true q 0 e)
      go false e = refl

  -- what it leaves of something that held z: F, by the cases of the answer; a refused one leaves z
  pub plain-kept : {B : Type 0} (F : Reply A → B) (z : B) → ((q : ℕ) → F (refused q) ≡ z) → Kept (number plain) z (F plain)
  plain-kept F z away h = go (eqb q 0) h
    where
      go : (t : Bool) → (number (pick t (gives a) (refused q)) ≡ 0 → ⊥) → F (pick t (gives a) (refused q)) ≡ z
      go true h = absurd (h refl)
      go false h = away q

-- ---- an answer with it
module _ {A : Type 0} (q : ℕ) (a : A) (b : Reader) where
  abbrev full : Reply A
  full = pick (eqb q 0) (gives a) (pick (eqb q 14) (impossible b) (refused q))

  full-number : number full ≡ q
  full-number = go (eqb q 0) (eqb q 14) refl refl
    where
      go : (t u : Bool) → eqb q 0 ≡ t → eqb q 14 ≡ u → number (pick t (gives a) (pick u (impossible b) (refused q))) ≡ q
      go true u e d = sym (eqb-true q 0 e)
      go false true e d = sym (eqb-true q 14 d)
      go false false e d = refl

-- what any answer leaves of something that held z
module _ {A B : Type 0} (F : Reply A → B) (z : B) (away : (q : ℕ) → F (refused q) ≡ z) where
  told-but : (r : Reply A) → KeptBut14 (number r) z (F r)
  told-but (gives a) h g = absurd (h refl)
  told-but (refused q) h g = away q
  told-but (impossible b) h g = absurd (g refl)

  -- where 14 leaves z too
  told-kept : ((b : Reader) → F (impossible b) ≡ z) → (r : Reply A) → Kept (number r) z (F r)
  told-kept still (gives a) h = absurd (h refl)
  told-kept still (refused q) h = away q
  told-kept still (impossible b) h = still b

-- ---- C's calls: t says whether the array is a reader's, and r is what the call on the reader answers
module _ {A : Type 0} (t : Bool) (r : Reply A) where
  other-one : t ≡ false → number (pick t r (refused 1)) ≡ 1
  other-one e = rw e

  own-number : (q : ℕ) → number r ≡ q → t ≡ true → number (pick t r (refused 1)) ≡ q
  own-number q n e = rw e n

  -- 14 is the reader's own
  mine : number (pick t r (refused 1)) ≡ 14 → (t ≡ true) × (number r ≡ 14)
  mine e = go t refl e
    where
      go : (u : Bool) → t ≡ u → number (pick u r (refused 1)) ≡ 14 → (t ≡ true) × (number r ≡ 14)
      go true d e = (d, e)
      go false d e = absurd (omega arith)

-- an area after a call on the reader (y, by the question q) or on no reader's array
module _ {A B : Type 0} (t : Bool) (r : Reply A) (q : ℕ) (n : number r ≡ q) (y x : B) where
  c-kept-but : KeptBut14 q x y → KeptBut14 (number (pick t r (refused 1))) x (pick t y x)
  c-kept-but k h g = go t h g
    where
      go : (u : Bool) → (number (pick u r (refused 1)) ≡ 0 → ⊥) → (number (pick u r (refused 1)) ≡ 14 → ⊥) → pick u y x ≡ x
      go true h g = k (λ e. h (n ∙ e)) (λ e. g (n ∙ e))
      go false h g = refl

  c-kept : Kept q x y → Kept (number (pick t r (refused 1))) x (pick t y x)
  c-kept k h = go t h
    where
      go : (u : Bool) → (number (pick u r (refused 1)) ≡ 0 → ⊥) → pick u y x ≡ x
      go true h = k (λ e. h (n ∙ e))
      go false h = refl

-- ---- the calls
pub zeroed-own : (f : ℕ) (W : Side) (L : ℕ) (x : Memory) → Zeroed (needed f W L) x (zeroed (store_by f W L) x)
unfolding zeroed
zeroed-own f W L x = rw (needed-is f W L) (front-zeroed (needed f W L) x)

-- e numbers more
zeroed-more : (f e : ℕ) (W : Side) (L : ℕ) (x : Memory) → Zeroed (e + needed f W L) x (zeroed (e + store_by f W L) x)
unfolding zeroed
zeroed-more f e W L x = rw (needed-is f W L) (front-zeroed (e + needed f W L) x)

set-up-of : (f : ℕ) (W H : Side) (L n : ℕ) (x : Memory) (s : List ℕ) → SetUp f W H L n x s
unfolding set_up_reply set_up_store
set-up-of f W H L n x s = record {
  answer = subst (ReaderSetUpAsks f W H L n) (sym number_is) (set-up-asks f W H L n);
  passes = let p = set-up-passes f W H L n in (λ e. p.0 (sym number_is ∙ e), λ h. number_is ∙ p.1 h);
  store = λ h. kept q _ x (λ e. h (number_is ∙ e));
  array = plain-kept q (fresh f W H L) (λ r. c.state_of r s) s (λ q. refl);
  passed = λ e. subst (Zeroed (needed f W L) x) (sym (on-pass q (zeroed (store_by f W L) x) x (sym number_is ∙ e))) (zeroed-own f W L x);
}
  where
    q : ℕ
    q = set_up_question f W H L n

    number_is : number (plain q (fresh f W H L)) ≡ q
    number_is = plain-number q (fresh f W H L)

-- ---- by the levels of the reader: none, or some
module _ (r : Reader) where
  want-of : number (want_reply r (want_question r)) ≡ want_question r
  unfolding last.want_reply levels-call.want_reply
  want-of = go r.levels (want_question r)
    where
      go : (L q : ℕ) → number (by L (last.want_reply r q) (levels-call.want_reply r q)) ≡ q
      go zero q = plain-number q _
      go (suc l) q = plain-number q _

  module _ (n : ℕ) (x : Memory) (m : ℕ) (v : Memory) where
    -- 14 never comes without levels
    feed-not : last.feed_question r n m v ≡ 14 → ⊥
    unfolding last.feed_question
    feed-not = asks_none 13
        ((last.counts_fit r, 0) ∷ (store_fits r.spare n, 4) ∷ (not r.ended, 8) ∷ (last.row_due r, 7) ∷ (eqb m r.width, 12)
        ∷ (run_fits r.filter r.stop m v, 6) ∷ [])
        (all_more (λ e. omega arith) (all_more (λ e. omega arith) (all_more (λ e. omega arith) (all_more (λ e. omega arith)
        (all_more (λ e. omega arith) (all_more (λ e. omega arith) all_none))))))

    abbrev FedBy : ℕ → ℕ → Type 0
    FedBy L q = (number (by L (last.feed_reply r q) (levels-call.feed_reply r q)) ≡ q)
        × KeptBut14 q x (by L (last.feed_store r q v x) (levels-call.feed_store r q v x))

    fed-by : (L q : ℕ) → FedBy L q
    unfolding last.feed_reply last.feed_store levels-call.feed_reply levels-call.feed_store levels-call.store_after
    fed-by zero q = (plain-number q _, λ h g. kept q _ x h)
    fed-by (suc l) q = (full-number q _ _, kept_but q _ _ x)

    -- what 14 leaves
    fed-14 : (L q : ℕ) → (L ≡ 0 → q ≡ 14 → ⊥) → q ≡ 14 →
        (by L (last.feed_reply r q) (levels-call.feed_reply r q) ≡ impossible (ended_reader r))
        × Zeroed (r.spare + by L 0 (needed r.filter (columns r) r.levels)) x (by L (last.feed_store r q v x) (levels-call.feed_store r q v x))
    unfolding levels-call.feed_reply levels-call.feed_store levels-call.store_after
    fed-14 zero q never e = absurd (never refl e)
    fed-14 (suc l) q never e = (
      on-14 q _ _ _ e,
      subst (Zeroed (r.spare + needed r.filter (columns r) r.levels) x) (sym (on-14 q _ _ x e))
          (zeroed-more r.filter r.spare (columns r) r.levels x),
    )

    never-14 : (L : ℕ) → L ≡ 0 → by L (last.feed_question r n m v) (levels.feed_question r n x m v) ≡ 14 → ⊥
    never-14 zero z e = feed-not e
    never-14 (suc l) z e = omega arith

    asked-by : (L : ℕ) → (L ≡ 0 → ⊥) → FeedAsks r n x m v (by L (last.feed_question r n m v) (levels.feed_question r n x m v))
    asked-by zero h = absurd (h refl)
    asked-by (suc l) h = feed-asks r n x m v

    feed-of : Feed r n x m v (feed_question r n x m v)
    feed-of = record {
      answer = (fed-by r.levels q).0;
      asks = asked-by r.levels;
      store = (fed-by r.levels q).1;
      ended = λ e. (fed-14 r.levels q (never-14 r.levels) e).0;
      zeroed = λ e. (fed-14 r.levels q (never-14 r.levels) e).1;
    }
      where
        q : ℕ
        q = feed_question r n x m v

  module _ (n : ℕ) (x : Memory) (m : ℕ) (z : Memory) where
    draw-not : last.draw_question r n m ≡ 14 → ⊥
    unfolding last.draw_question
    draw-not = go (last.counts_fit r) (store_fits r.spare n) (not r.ended) (last.draw_due r) (leb r.width m)
      where
        go : (a b c d e : Bool) → ask a 1 (ask b 5 (ask c 9 (pick d (ask e 12 0) 0))) ≡ 14 → ⊥
        go true true true true true h = omega arith
        go true true true true false h = omega arith
        go true true true false e h = omega arith
        go true true false d e h = omega arith
        go true false c d e h = omega arith
        go false b c d e h = omega arith

    abbrev DrawnBy : ℕ → ℕ → Type 0
    DrawnBy L q = (number (by L (last.draw_reply r q) (levels-call.draw_reply r q)) ≡ q)
        × KeptBut14 q x (by L x (levels-call.draw_store r q x)) × Kept q z (by L (last.draw_area r q x z) (levels-call.draw_area r q x z))

    drawn-by : (L q : ℕ) → DrawnBy L q
    unfolding last.draw_reply last.draw_area levels-call.draw_reply levels-call.draw_store levels-call.store_after levels-call.draw_area
    drawn-by zero q = (plain-number q _, λ h g. refl, kept q _ z)
    drawn-by (suc l) q = (full-number q _ _, kept_but q _ _ x, kept q _ z)

    drawn-14 : (L q : ℕ) → (L ≡ 0 → q ≡ 14 → ⊥) → q ≡ 14 →
        (by L (last.draw_reply r q) (levels-call.draw_reply r q) ≡ impossible (ended_reader r))
        × Zeroed (r.spare + by L 0 (needed r.filter (columns r) r.levels)) x (by L x (levels-call.draw_store r q x))
    unfolding levels-call.draw_reply levels-call.draw_store levels-call.store_after
    drawn-14 zero q never e = absurd (never refl e)
    drawn-14 (suc l) q never e = (
      on-14 q _ _ _ e,
      subst (Zeroed (r.spare + needed r.filter (columns r) r.levels) x) (sym (on-14 q _ _ x e))
          (zeroed-more r.filter r.spare (columns r) r.levels x),
    )

    draw-never : (L : ℕ) → L ≡ 0 → by L (last.draw_question r n m) (levels.draw_question r n x m) ≡ 14 → ⊥
    draw-never zero z e = draw-not e
    draw-never (suc l) z e = omega arith

    draw-of : Draw r x z (draw_question r n x m)
    draw-of = record {
      answer = (drawn-by r.levels q).0;
      store = (drawn-by r.levels q).1;
      area = (drawn-by r.levels q).2;
      ended = λ e. (drawn-14 r.levels q (draw-never r.levels) e).0;
      zeroed = λ e. (drawn-14 r.levels q (draw-never r.levels) e).1;
    }
      where
        q : ℕ
        q = draw_question r n x m

  -- ---- the surplus by the numbers of document 01
  last-surplus : (n m : ℕ) (v x : Memory) (j : ℕ) → r.spare ≤ j → last.feed_store r (last.feed_question r n m v) v x j ≡ x j
  unfolding last.feed_store last.feed_question
  last-surplus n m v x j h = go (eqb (last.feed_question r n m v) 0) refl
    where
      wide : last.feed_question r n m v ≡ 0 → r.width ≤ r.spare
      wide e = (last-in r (asked-yes (last.counts_fit r) 0 _ e).0).4

      go : (t : Bool) → eqb (last.feed_question r n m v) 0 ≡ t → pick t (fronted r.width v x) x j ≡ x j
      go true e = front_rest r.width v x j (omega (arith, wide (eqb-true _ 0 e)))
      go false e = refl

  feed-past : (L n m : ℕ) (v x : Memory) (j : ℕ) → r.spare + by L 0 (needed r.filter (columns r) r.levels) ≤ j →
      (let q = by L (last.feed_question r n m v) (levels.feed_question r n x m v) in by L (last.feed_store r q v x) (levels-call.feed_store r q v x) j ≡ x j)
  feed-past zero n m v x j h = last-surplus n m v x j (omega arith)
  feed-past (suc l) n m v x j h = feed_surplus r n m x v j (omega (arith, needed-is r.filter (columns r) r.levels))

  draw-past : (L n m : ℕ) (x : Memory) (j : ℕ) → r.spare + by L 0 (needed r.filter (columns r) r.levels) ≤ j →
      by L x (levels-call.draw_store r (by L (last.draw_question r n m) (levels.draw_question r n x m)) x) j ≡ x j
  draw-past zero n m x j h = refl
  draw-past (suc l) n m x j h = draw_surplus r n m x j (omega (arith, needed-is r.filter (columns r) r.levels))

c-want-of : (s z : List ℕ) → CWant s z
c-want-of s z = record {
  other = other-one (is_reader s) _;
  answer = own-number (is_reader s) _ _ (want-of (reader_of s));
  want = told-kept (λ r. c.want_of r z) z (λ q. refl) (λ b. refl) (c.wanting s);
}

c-feed-of : (s : List ℕ) (n : ℕ) (x : Memory) (m : ℕ) (v : Memory) → CFeed s n x m v
c-feed-of s n x m v =
    let d = feed-of (reader_of s) n x m v in
    let r = feed_reply (reader_of s) q in record {
      other = other-one (is_reader s) r;
      answer = own-number (is_reader s) r q d.answer;
      array = told-but (λ r. c.state_of r s) s (λ q. refl) (c.feeding s n x m v);
      store = c-kept-but (is_reader s) r q d.answer _ x d.store;
      ended = λ e.
          let i = mine (is_reader s) r e in
          rw (i.0, d.ended (sym d.answer ∙ i.1));
      zeroed = λ e.
          let i = mine (is_reader s) r e in
          rw i.0 (d.zeroed (sym d.answer ∙ i.1));
    }
  where
    q : ℕ
    q = feed_question (reader_of s) n x m v

c-draw-of : (s : List ℕ) (n : ℕ) (x : Memory) (m : ℕ) (y : Memory) (z : ℕ) → CDraw s n x m y z
c-draw-of s n x m y z =
    let d = draw-of (reader_of s) n x m y in
    let r = draw_reply (reader_of s) q in record {
      other = other-one (is_reader s) r;
      answer = own-number (is_reader s) r q d.answer;
      array = told-but (λ r. c.state_drawn r s) s (λ q. refl) (c.drawing s n x m);
      store = c-kept-but (is_reader s) r q d.answer _ x d.store;
      area = c-kept (is_reader s) r q d.answer _ y d.area;
      drawn = told-kept (λ r. count_of r z) z (λ q. refl) (λ b. refl) (c.drawing s n x m);
      ended = λ e.
          let i = mine (is_reader s) r e in
          rw (i.0, d.ended (sym d.answer ∙ i.1));
      zeroed = λ e.
          let i = mine (is_reader s) r e in
          rw i.0 (d.zeroed (sym d.answer ∙ i.1));
    }
  where
    q : ℕ
    q = draw_question (reader_of s) n x m

pub reader-calls : ReaderCalls
reader-calls = record {
  set-up = set-up-of;
  want = want-of;
  feed = feed-of;
  draw = draw-of;
  c_want = c-want-of;
  c_feed = c-feed-of;
  c_draw = c-draw-of;
  feed_surplus = λ r n x m v j h. feed-past r r.levels n m v x j h;
  draw_surplus = λ r n x m j h. draw-past r r.levels n m x j h;
}
