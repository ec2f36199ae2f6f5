-- The theorems over every list of calls on a fresh turn-giver: what each further call answers (`of_calls`), and that a reader which goes on wanting is served
-- within sixteen turns (`served-within`). Assumes nothing.
use mathlib.Core.Path.{◌≡◌, refl, sym, ap, subst, ◌∙◌}
use mathlib.Core.Bool.{Bool, true, false}
use mathlib.Core.List.{List, [], ◌∷◌}
use Prim.Native.Nat.{ℕ, suc, ◌^◌, ◌≤◌, ◌<◌}
use native.Mathlib.Omega.{arith}
use lib.Dec.{eqb, leb}
use borrow.Author.Tests.{eq-eqb, ne_eqb, le-leb, lt-leb, leb-true, leb-false}
use Rattle.numbers.specs.Signal.{pick}
use Rattle.wavelet.specs.Questions.{ask}
use Rattle.calls.specs.Lists.{Reply, gives, refused, unless, seen, All, all_none, all_more, ever}
use Rattle.calls.specs.Lists as lists
use Rattle.turns.specs.declared.Turns.{Turns}
use Rattle.turns.specs.Marks.{readers, marked}
use Rattle.turns.specs.Order.{Served, reader, nobody, next_after}
use Rattle.turns.specs.Calls.{fresh, in_range, change_question, mark_reply, clear_reply, lent, turn_reply}
use Rattle.turns.specs.Lists.{Call, mark, clear, turn, Event, marks, clears, turns, served, changed_to, turned_to, event, next, events, final}
use Rattle.turns.specs.Lists.{wants_by, wants_after, last_by, last_served, Fair, OfCalls, turns_in, clears_reader, serves, ServedWithin}
use Rattle.turns.proofs.MarkLaws.{put, put-at, put-range, none-marked}
use Rattle.turns.proofs.OrderLaws.{found-wants, same-search, found-nobody, nobody-found, distance, Nearer, its-turn, another, nearer}
use Rattle.turns.proofs.CallLaws.{in-range, ranges, number-no, change-yes, turn-yes}

-- ---- the state says what the calls said: who wants is marked, and `last` is the last one served, l
record Agrees (t : Turns) (wants : ℕ → Bool) (l : ℕ) : Type 0 where
  in_range : in_range t ≡ true
  marked : (n : ℕ) → n < readers → marked t.marks n ≡ wants n
  last : t.last ≡ l

fresh-agrees : Agrees fresh (λ n. false) 15
fresh-agrees = record { in_range = in-range fresh (omega arith) (omega arith); marked = λ n h. none-marked n; last = refl }

-- ---- marking (b true) or clearing (b false) reader n
module _ (t : Turns) (wants : ℕ → Bool) (l : ℕ) (a : Agrees t wants l) (b : Bool) (n : ℕ) where
  abbrev changed : Turns
  changed = record { marks = put b t.marks n; last = t.last }

  change-passes : n ≤ 15 → unless (change_question t n) changed ≡ gives changed
  change-passes h = ap (λ q. unless q changed) (sym (change-yes t n a.in_range h))

  change-turned : 15 < n → unless (change_question t n) changed ≡ refused 21
  change-turned h = ap (λ q. unless q changed) (sym (number-no t n a.in_range h))

  change-agrees : n ≤ 15 → Agrees changed (λ m. pick (eqb n m) b (wants m)) l
  change-agrees h =
      let r = ranges t a.in_range in
      record {
        in_range = in-range changed (let x : put b t.marks n < 2 ^ 16 = put-range 16 b t.marks n (omega arith) (omega arith) in omega arith) r.1;
        marked = λ m g. put-at b t.marks n m ∙ ap (pick (eqb n m) b) (a.marked m g);
        last = a.last;
      }

  -- a number that no reader has changes nobody's want
  other-agrees : 15 < n → Agrees t (λ m. pick (eqb n m) b (wants m)) l
  other-agrees h = record { in_range = a.in_range; marked = λ m g. a.marked m g ∙ sym (ap (λ e. pick e b (wants m)) (differ m g)); last = a.last }
    where
      differ : (m : ℕ) → m < readers → eqb n m ≡ false
      differ m g = ne_eqb n m (λ e. omega arith)

-- ---- one call
module _ (t : Turns) (wants : ℕ → Bool) (l : ℕ) (a : Agrees t wants l) where
  -- of marks and clears: by whether the number is a reader's
  by_number : (b : Bool) (n : ℕ) (P : Reply Turns → Type 0) → (n ≤ 15 → P (gives (changed t wants l a b n))) → (15 < n → P (refused 21)) →
      P (unless (change_question t n) (changed t wants l a b n))
  by_number b n P on away = go (leb n 15) refl
    where
      go : (v : Bool) → leb n 15 ≡ v → P (unless (change_question t n) (changed t wants l a b n))
      go true e = subst P (sym (change-passes t wants l a b n (leb-true n 15 e))) (on (leb-true n 15 e))
      go false e = subst P (sym (change-turned t wants l a b n (leb-false n 15 e))) (away (leb-false n 15 e))

  change-step : (b : Bool) (n : ℕ) → Agrees (changed_to t (unless (change_question t n) (changed t wants l a b n))) (λ m. pick (eqb n m) b (wants m)) l
  change-step b n =
      by_number b n (λ r. Agrees (changed_to t r) (λ m. pick (eqb n m) b (wants m)) l) (change-agrees t wants l a b n) (other-agrees t wants l a b n)

  -- what a mark or a clear answers
  change-says : (b : Bool) (n : ℕ) →
      ◌≡◌ {A = Reply (Unit {0})} (seen (λ _. tt) (unless (change_question t n) (changed t wants l a b n))) (unless (ask (leb n 15) 21 0) tt)
  change-says b n =
      by_number b n (λ r. ◌≡◌ {A = Reply (Unit {0})} (seen (λ _. tt) r) (unless (ask (leb n 15) 21 0) tt))
      (λ h. rw (le-leb n 15 h) refl) (λ h. rw (lt-leb n 15 h) refl)

  -- whom a turn serves goes by who wants and who was served last
  turn-serves : (s : Served) → next_after wants l ≡ s → turn_reply t ≡ gives (lent t s)
  turn-serves s e =
      turn-yes t a.in_range
      ∙ ap (λ u. gives (lent t u)) (same-search (marked t.marks) wants a.marked t.last ∙ ap (next_after wants) a.last ∙ e)

  turn-event : (s : Served) → next_after wants l ≡ s → event turn t ≡ turns (gives s)
  unfolding event
  turn-event s e = ap (λ r. turns (seen served r)) (turn-serves s e) ∙ told s
    where
      told : (s : Served) → turns (gives (served (lent t s))) ≡ turns (gives s)
      told (reader n) = refl
      told nobody = refl

  turn_step : (s : Served) → next_after wants l ≡ s → Agrees (next turn t) wants (last_by l (turns (gives s)))
  unfolding next last_by
  turn_step (reader n) e =
      subst (λ r. Agrees (turned_to t r) wants n) (sym (turn-serves (reader n) e)) (record {
        in_range = in-range _ (ranges t a.in_range).0 (let h = (found-wants wants l n e).0 in omega arith);
        marked = a.marked;
        last = refl;
      })
  turn_step nobody e = subst (λ r. Agrees (turned_to t r) wants l) (sym (turn-serves nobody e)) a

  step : (c : Call) → Agrees (next c t) (λ n. wants_by n (wants n) c) (last_by l (event c t))
  unfolding next event wants_by last_by mark_reply clear_reply
  step (mark n) = change-step true n
  step (clear n) = change-step false n
  step turn = subst (λ e. Agrees (next turn t) wants (last_by l e)) (sym (turn-event (next_after wants l) refl)) (turn_step (next_after wants l) refl)

-- ---- and a list of calls
reach : (cs : List Call) (t : Turns) (wants : ℕ → Bool) (l : ℕ) → Agrees t wants l →
    Agrees (final cs t) (λ n. wants_after n (wants n) cs) (last_served l (events cs t))
unfolding lists.events lists.final wants_after last_served
reach [] t wants l a = a
reach (c ∷ cs) t wants l a = reach cs (next c t) (λ n. wants_by n (wants n) c) (last_by l (event c t)) (step t wants l a c)

reached : (cs : List Call) → Agrees (final cs fresh) (λ n. wants_after n false cs) (last_served 15 (events cs fresh))
reached cs = reach cs fresh (λ n. false) 15 fresh-agrees

small-last : (t : Turns) (wants : ℕ → Bool) (l : ℕ) → Agrees t wants l → l < readers
small-last t wants l a = let r = (ranges t a.in_range).1 in omega (arith, a.last)

gave : (s u : Served) → turns (gives s) ≡ turns (gives u) → s ≡ u
gave s u e = cc

fair : (cs : List Call) (t : Turns) (es : List Event) → Agrees t (λ n. wants_after n false cs) (last_served 15 es) → Fair cs es (λ c. event c t)
unfolding event mark_reply clear_reply
fair cs t es a = record {
  marking = λ n. ap (marks n) (change-says t _ _ a true n);
  clearing = λ n. ap (clears n) (change-says t _ _ a false n);
  turning = turn-event t _ _ a _ refl;
  marked_only = λ n e. found-wants _ _ n (gave _ (reader n) (sym (turn-event t _ _ a _ refl) ∙ e));
  nobody_wants = (
    λ e. found-nobody _ _ (small-last t _ _ a) (gave _ nobody (sym (turn-event t _ _ a _ refl) ∙ e)),
    λ none. turn-event t _ _ a nobody (nobody-found _ _ (small-last t _ _ a) none),
  );
}

pub of_calls : (cs : List Call) → OfCalls cs
of_calls cs = record { in_range = (reached cs).in_range; claim = fair cs (final cs fresh) (events cs fresh) (reached cs) }

either : (b : Bool) → pick b true true ≡ true
either true = refl
either false = refl

-- ---- within sixteen turns: the distance falls with every turn that serves another
module _ (n : ℕ) (h : n < readers) where
  -- a call that is no turn
  abbrev Later : List Call → Type 0
  Later ds = (t : Turns) (wants : ℕ → Bool) (l : ℕ) → Agrees t wants l → wants n ≡ true → distance l n < turns_in ds → ever (serves n) (events ds t) ≡ true

  a_turn : (ds : List Call) (t : Turns) (wants : ℕ → Bool) (l : ℕ) (a : Agrees t wants l) → Later ds → wants n ≡ true → distance l n < suc (turns_in ds) →
      Nearer wants l (small-last t wants l a) n → ever (serves n) (events (turn ∷ ds) t) ≡ true
  unfolding lists.events lists.ever serves
  a_turn ds t wants l a later w d (its-turn e) =
      ap (λ v. pick (serves n v) true (ever (serves n) (events ds (next turn t)))) (turn-event t wants l a (reader n) e)
      ∙ ap (λ b. pick b true (ever (serves n) (events ds (next turn t)))) (eq-eqb n n refl)
  a_turn ds t wants l a later w d (another m e g c) =
      ap (λ v. pick (serves n v) true (ever (serves n) (events ds (next turn t)))) (turn-event t wants l a (reader m) e)
      ∙ ap (pick (eqb m n) true) (later (next turn t) wants m (unfold last_by in turn_step t wants l a (reader m) e) w (omega arith)) ∙ either (eqb m n)

  within : (ds : List Call) → All (λ d. clears_reader n d ≡ false) ds → Later ds
  unfolding turns_in lists.events lists.ever serves event last_by wants_by clears_reader
  within [] all_none t wants l a w d = absurd (omega arith)
  within (mark m ∷ ds) (all_more c cs) t wants l a w d =
      within ds cs (next (mark m) t) _ _ (step t wants l a (mark m)) (ap (pick (eqb m n) true) w ∙ either (eqb m n)) d
  within (clear m ∷ ds) (all_more c cs) t wants l a w d =
      within ds cs (next (clear m) t) _ _ (step t wants l a (clear m)) (ap (λ b. pick b false (wants n)) c ∙ w) d
  within (turn ∷ ds) (all_more c cs) t wants l a w d = a_turn ds t wants l a (within ds cs) w d (nearer wants l (small-last t wants l a) n h w)

pub served-within : (n : ℕ) → n < readers → (cs ds : List Call) → ServedWithin n cs ds
served-within n h cs ds w all d =
    within n h ds all (final cs fresh) (λ m. wants_after m false cs) (last_served 15 (events cs fresh)) (reached cs) w (omega arith)
