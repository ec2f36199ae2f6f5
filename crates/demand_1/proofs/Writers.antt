-- Demand 1 of the writer's calls, Rattle's and C's: `writer-calls`. Assumes nothing.
use mathlib.Core.Path.{◌≡◌, refl, ap, subst, sym, ◌∙◌}
use mathlib.Core.Bool.{Bool, true, false}
use mathlib.Core.List.{List}
use Prim.Native.Nat.{ℕ, zero, suc, ◌+◌, ◌≤◌}
use native.Mathlib.Omega.{arith}
use lib.IntN.{pos}
use lib.ListN.{length}
use Rattle.numbers.specs.Signal.{pick, both}
use Rattle.lifting.specs.Grid.{Side}
use Rattle.lifting.specs.Halves.{fronted}
use Rattle.wavelet.specs.Limits.{max_width}
use Rattle.wavelet.specs.Questions.{within}
use Rattle.wavelet.specs.Asks.{Width, Known, Levels}
use Rattle.wavelet.proofs.AskLaws.{width-exactly}
use Rattle.filters.specs.Filters.{filter_of, is_filter}
use Rattle.calls.specs.Lists.{Reply, gives, refused, unless, changed_unless, seen}
use Rattle.level.specs.Level.{Memory}
use Rattle.filters.specs.Figures.{store_by, writer_store_by, streamable}
use Rattle.filters.proofs.PlainFigures.{known-exactly, levels-exactly, needed-is}
use Rattle.writer.specs.declared.Writer.{Writer}
use Rattle.writer.specs.Taking.{columns_of}
use Rattle.writer.specs.Asks.{writer_needed, WriterSetUpAsks}
use Rattle.writer.specs.Questions.{set_up_question, offer_question, draw_question, waits_question, finish_question}
use Rattle.writer.specs.Calls.{set_up_reply, set_up_store, offer_reply, offer_store, draw_reply, draw_store, draw_area, waits_reply, finish_reply, finish_store}
use Rattle.writer.proofs.SetUpPasses.{set-up-asks, set-up-passes}
use Rattle.writer.proofs.Surplus.{offer-surplus, draw_surplus, finish-surplus}
use Rattle.writer.specs.Runs.{Run, progress, run_of, run_turned, run_reply, left_by}
use Rattle.states.specs.WriterAnswers.{number, taken_of, row_of, ran_words, counts_of}
use Rattle.states.specs.WriterState.{is_writer, writer_of}
use Rattle.terrain.specs.WriterCalls as c
use Rattle.demand_1.specs.Words.{Kept, Zeroed}
use Rattle.demand_1.specs.Writers.{own, StoreLength, SetUp, Offer, Draw, Finish, Many, COffer, CDraw, CLook, CFinish, CMany, WriterCalls}
use Rattle.demand_1.proofs.WordLaws.{front-zeroed}
use Rattle.demand_1.proofs.Runs.{run-surplus}

-- ---- the number of an answer, and an area by it
pub number_is : {A : Type 0} (q : ℕ) (a : A) → number (unless q a) ≡ q
number_is zero a = refl
number_is (suc q) a = refl

module _ {A B : Type 0} (q : ℕ) (a : A) (y x : B) where
  pub area-kept : Kept (number (unless q a)) x (changed_unless q y x)
  area-kept h = go q h
    where
      go : (q : ℕ) → (number (unless q a) ≡ 0 → ⊥) → changed_unless q y x ≡ x
      go zero h = absurd (h refl)
      go (suc q) h = refl

-- what an answer leaves of something that held z: F, by the cases of the answer; a refused one leaves z
module _ {A B : Type 0} (F : Reply A → B) (z : B) (away : (q : ℕ) → F (refused q) ≡ z) where
  pub told-kept : (r : Reply A) → Kept (number r) z (F r)
  told-kept (gives a) h = absurd (h refl)
  told-kept (refused q) h = away q

-- ---- C's calls: t says whether the array is a writer's
module _ {A : Type 0} (t : Bool) (q : ℕ) (a : A) where
  abbrev answer_of : Reply A
  answer_of = pick t (unless q a) (refused 1)

  pub other-one : t ≡ false → number answer_of ≡ 1
  other-one e = rw e

  pub own-number : t ≡ true → number answer_of ≡ q
  own-number e = rw e (number_is q a)

  pub c-area-kept : {B : Type 0} (y x : B) → Kept (number answer_of) x (pick t (changed_unless q y x) x)
  c-area-kept y x h = go t q h
    where
      go : (t : Bool) (q : ℕ) → (number (pick t (unless q a) (refused 1)) ≡ 0 → ⊥) → pick t (changed_unless q y x) x ≡ x
      go true zero h = absurd (h refl)
      go true (suc q) h = refl
      go false q h = refl

-- what a writer's line store needs
whole_is : (f : ℕ) (W : Side) (L : ℕ) → writer_store_by f W L ≡ writer_needed f W L
whole_is f W L = ap (λ n. n + W.length) (needed-is f W L)

-- ---- the calls
store-length-of : (f : ℕ) (W : Side) (L : ℕ) → StoreLength f W L
unfolding streamable
store-length-of f W L = record {
  writer_sized = λ h. simp ((known-exactly f).1 h.1, (width-exactly W.length).1 h.0, (levels-exactly f L).1 h.2) (whole_is f W L);
  writer_none = λ h. go (writer_store_by f W L) h (is_filter f) (within 1 max_width W.length) (within 1 (filter_of f).levels L) refl refl refl;
  sized = λ h. simp ((known-exactly f).1 h.1, (width-exactly W.length).1 h.0, (levels-exactly f L).1 h.2) (needed-is f W L);
  none = λ h. go (store_by f W L) h (is_filter f) (within 1 max_width W.length) (within 1 (filter_of f).levels L) refl refl refl;
}
  where
    go : (n : ℕ) → (Width W.length × Known f × Levels f L → ⊥) → (a b c : Bool) → is_filter f ≡ a → within 1 max_width W.length ≡ b
        → within 1 (filter_of f).levels L ≡ c → pick (both a (both b c)) n 0 ≡ 0
    go n h true true true p q r = absurd (h ((width-exactly W.length).0 q, (known-exactly f).0 p, (levels-exactly f L).0 r))
    go n h true true false p q r = refl
    go n h true false c p q r = refl
    go n h false b c p q r = refl

set-up-of : (f : ℕ) (W : Side) (y L n : ℕ) (x : Memory) (s : List ℕ) → SetUp f W y L n x s
unfolding set_up_reply set_up_store
set-up-of f W y L n x s = record {
  answer = subst (WriterSetUpAsks f W L n) (sym (number_is q _)) (set-up-asks f W L n);
  passes = let p = set-up-passes f W L n in (λ e. p.0 (sym (number_is q _) ∙ e), λ h. number_is q _ ∙ p.1 h);
  store = area-kept q _ _ x;
  array = told-kept (λ r. c.state_of r s) s (λ q. refl) (unless q _);
  passed = λ e. zeroed q (sym (number_is q _) ∙ e);
}
  where
    q : ℕ
    q = set_up_question f W L n

    zeroed : (q : ℕ) → q ≡ 0 → Zeroed (writer_needed f W L) x (changed_unless q (fronted (writer_store_by f W L) (λ _. pos 0) x) x)
    zeroed zero e = rw (whole_is f W L) (front-zeroed (writer_needed f W L) x)
    zeroed (suc q) e = absurd (omega arith)

-- the surplus by the numbers of document 01
past : (w : Writer) {j : ℕ} → own w ≤ j → writer_store_by w.filter (columns_of w) w.levels ≤ j
past w h = omega (arith, whole_is w.filter (columns_of w) w.levels)

offer-of : (w : Writer) (n : ℕ) (run : List ℕ) (x : Memory) → Offer w n run x
unfolding offer_reply offer_store
offer-of w n run x = record {
  answer = number_is (offer_question w n (length run)) _;
  store = area-kept (offer_question w n (length run)) _ _ x;
  surplus = λ j h. offer-surplus w n run x j (past w h);
}

draw-of : (w : Writer) (n k : ℕ) (x z : Memory) → Draw w n k x z
unfolding draw_reply draw_store draw_area
draw-of w n k x z = record {
  answer = number_is (draw_question w n k) _;
  store = area-kept (draw_question w n k) _ _ x;
  area = area-kept (draw_question w n k) _ _ z;
  surplus = λ j h. draw_surplus w n k x j (past w h);
}

look-of : (w : Writer) → number (waits_reply w) ≡ waits_question w
unfolding waits_reply
look-of w = number_is (waits_question w) _

finish-of : (w : Writer) (n : ℕ) (x : Memory) → Finish w n x
unfolding finish_reply finish_store
finish-of w n x = record {
  answer = number_is (finish_question w n) _;
  store = area-kept (finish_question w n) _ _ x;
  surplus = λ j h. finish-surplus w n x j (past w h);
}

c-offer-of : (s : List ℕ) (n : ℕ) (run : List ℕ) (x : Memory) (z : ℕ) → COffer s n run x z
unfolding offer_reply offer_store
c-offer-of s n run x z = record {
  other = other-one (is_writer s) q _;
  answer = own-number (is_writer s) q _;
  array = told-kept (λ r. c.state_took r s) s (λ q. refl) (answer_of (is_writer s) q _);
  store = c-area-kept (is_writer s) q _ _ x;
  taken = told-kept (λ r. taken_of r z) z (λ q. refl) (answer_of (is_writer s) q _);
}
  where
    q : ℕ
    q = offer_question (writer_of s) n (length run)

c-draw-of : (s : List ℕ) (n k : ℕ) (x y : Memory) (z : List ℕ) → CDraw s n k x y z
unfolding draw_reply draw_store draw_area
c-draw-of s n k x y z = record {
  other = other-one (is_writer s) q _;
  answer = own-number (is_writer s) q _;
  array = told-kept (λ r. c.state_handed r s) s (λ q. refl) (answer_of (is_writer s) q _);
  store = c-area-kept (is_writer s) q _ _ x;
  area = c-area-kept (is_writer s) q _ _ y;
  row = told-kept (λ r. row_of r z) z (λ q. refl) (answer_of (is_writer s) q _);
}
  where
    q : ℕ
    q = draw_question (writer_of s) n k

c-look-of : (s z : List ℕ) → CLook s z
unfolding waits_reply
c-look-of s z = record {
  other = other-one (is_writer s) q _;
  answer = own-number (is_writer s) q _;
  row = told-kept (λ r. c.look_of r z) z (λ q. refl) (answer_of (is_writer s) q _);
}
  where
    q : ℕ
    q = waits_question (writer_of s)

c-finish-of : (s : List ℕ) (n : ℕ) (x : Memory) → CFinish s n x
unfolding finish_reply finish_store
c-finish-of s n x = record {
  other = other-one (is_writer s) q _;
  answer = own-number (is_writer s) q _;
  array = told-kept (λ r. c.state_of r s) s (λ q. refl) (answer_of (is_writer s) q _);
  store = c-area-kept (is_writer s) q _ _ x;
}
  where
    q : ℕ
    q = finish_question (writer_of s) n

many-answer : (w : Writer) (n : ℕ) (hs : List ℕ) (k : ℕ) (x z : Memory) (l : List ℕ) →
    number (run_reply w n hs k x z l) ≡ run_turned w n hs (run_of w n hs k x z l)
unfolding run_reply
many-answer w n hs k x z l = number_is (run_turned w n hs (run_of w n hs k x z l)) _

many-of : (w : Writer) (n : ℕ) (hs : List ℕ) (k : ℕ) (x z : Memory) (l : List ℕ) → Many w n hs k x z l
many-of w n hs k x z l = record {
  answer = many-answer w n hs k x z l;
  surplus = λ j h. run-surplus w n hs k x z l j (past w h);
  store = told-kept (left_by (λ p. p.world.store) x) x (λ q. refl) (run_reply w n hs k x z l);
  area = told-kept (left_by (λ p. p.area) z) z (λ q. refl) (run_reply w n hs k x z l);
  names = told-kept (left_by (λ p. p.names) l) l (λ q. refl) (run_reply w n hs k x z l);
}

c-many-of : (s : List ℕ) (n : ℕ) (hs : List ℕ) (k : ℕ) (x z : Memory) (l y : List ℕ) → CMany s n hs k x z l y
unfolding run_reply
c-many-of s n hs k x z l y = record {
  same = number-seen (c.ran s n hs k x z l);
  other = other-one (is_writer s) q (run_of (writer_of s) n hs k x z l);
  answer = own-number (is_writer s) q (run_of (writer_of s) n hs k x z l);
  array = told-kept (λ r. ran_words (seen progress r) s) s (λ q. refl) (c.ran s n hs k x z l);
  store = told-kept (left_by (λ p. p.world.store) x) x (λ q. refl) (c.ran s n hs k x z l);
  area = told-kept (left_by (λ p. p.area) z) z (λ q. refl) (c.ran s n hs k x z l);
  names = told-kept (left_by (λ p. p.names) l) l (λ q. refl) (c.ran s n hs k x z l);
  counts = told-kept (λ r. counts_of (seen progress r) y) y (λ q. refl) (c.ran s n hs k x z l);
}
  where
    q : ℕ
    q = run_turned (writer_of s) n hs (run_of (writer_of s) n hs k x z l)

    number-seen : (r : Reply Run) → number (seen progress r) ≡ number r
    number-seen (gives a) = refl
    number-seen (refused q) = refl

pub writer-calls : WriterCalls
writer-calls = record {
  store-length = store-length-of;
  set-up = set-up-of;
  offer = offer-of;
  draw = draw-of;
  look = look-of;
  finish = finish-of;
  c_offer = c-offer-of;
  c_draw = c-draw-of;
  c_look = c-look-of;
  c_finish = c-finish-of;
  many = many-of;
  c_many = c-many-of;
}
