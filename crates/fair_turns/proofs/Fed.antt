-- The theorem over turns and readers: a reader that is fed only at its turns, with the row that it then wants, has been fed the first band rows of its steps,
-- whatever the others do (`fed-in-turn`); and among them too one that goes on wanting is served within sixteen turns (`served-together`). Assumes nothing.
use mathlib.Core.Path.{◌≡◌, refl, sym, ap, ap₂, subst, ◌∙◌}
use mathlib.Core.Bool.{Bool, true, false}
use mathlib.Core.List.{List, [], ◌∷◌, ◌++◌, map, map-append, append-nil, append_assoc}
use Prim.Native.Nat.{ℕ, zero, suc, ◌+◌, ◌≤◌, ◌<◌}
use native.Mathlib.Omega.{arith}
use lib.ListN.{length, take, drop, length-append}
use Rattle.wavelet.specs.Order.{RowName}
use Rattle.calls.specs.Lists.{Reply, gives, refused, Area, All, ever}
use Rattle.calls.specs.Lists as lists
use Rattle.calls.proofs.ListLaws.{gathered_snoc, events-snoc, final-snoc}
use Rattle.turns.specs.Marks.{readers}
use Rattle.turns.specs.Order.{Served}
use Rattle.turns.specs.Calls.{fresh}
use Rattle.turns.specs.Lists as giver
use Rattle.turns.proofs.Lists.{served-within}
use Rattle.fair_turns.specs.Families.{changed, of_number}
use Rattle.fair_turns.specs.Reading.{Reading, ReadingLaws, events_of, final_of, taken_by}
use Rattle.fair_turns.specs.Together.{Call, Event, World, turns, reader, event, next, turn_calls, turn_events, calls_of, own_events, events, final}
use Rattle.fair_turns.specs.FedInTurn.{Moment, turned, own, moments_at, moments, holds_by, asked_then, asked_by, asked}
use Rattle.fair_turns.specs.FedInTurn.{FedRight, a_turn, not_fed, fed_row, InTurn, over, more, FedInOrder}
use Rattle.fair_turns.proofs.Projection.{turns_alone, giver-alone, Whose, another, its_own, whose, reader-alone}

-- the row after the first k of a list
take_next : {A : Type 0} (k : ℕ) (l : List A) (y : A) (t : List A) → drop k l ≡ y ∷ t → take (suc k) l ≡ take k l ++ (y ∷ [])
take_next zero l y t e = ap (take 1) e
take_next (suc k) [] y t e = absurd (let z : ◌≡◌ {A = ℕ} 0 1 = cc in omega arith)
take_next (suc k) (a ∷ l) y t e = ap (λ s. a ∷ s) (take_next k l y t e)

-- ---- one reader, by its own calls ds so far; x is the row that it named last and was not fed since
module _ (R : Reading) (laws : ReadingLaws R) (n : ℕ) (disk : RowName → Area) where
  record Holds (ds : List R.Call) (x : List RowName) : Type 0 where
    fed : taken_by R (events_of R ds) ≡ map disk (take (length (taken_by R (events_of R ds))) R.rows)
    wants : (y : RowName) → x ≡ y ∷ [] → R.names (R.event R.want (final_of R ds)) ≡ y ∷ []

  fresh_holds : Holds [] []
  unfolding lists.events lists.gathered
  fresh_holds = record { fed = refl; wants = λ y e. absurd (let z : ◌≡◌ {A = ℕ} 0 1 = cc in omega arith) }

  -- one call more of its own
  module _ (ds : List R.Call) (x : List RowName) (d : R.Call) (holds : Holds ds x) where
    abbrev seen : R.Event
    seen = R.event d (final_of R ds)

    abbrev so_far : List Area
    so_far = taken_by R (events_of R ds)

    taken_more : taken_by R (events_of R (ds ++ (d ∷ []))) ≡ so_far ++ R.takes seen
    taken_more = ap (lists.gathered R.takes) (events-snoc R.event R.next ds d R.fresh) ∙ gathered_snoc R.takes (events_of R ds) seen

    -- fed nothing
    taken-same : R.takes seen ≡ [] → taken_by R (events_of R (ds ++ (d ∷ []))) ≡ so_far
    taken-same e = taken_more ∙ ap (λ l. so_far ++ l) e ∙ append-nil so_far

    asked-same : R.takes seen ≡ [] → (v : List RowName) → R.names seen ≡ v → (y : RowName) → asked_then R n [] v x ≡ y ∷ [] →
        R.names (R.event R.want (final_of R (ds ++ (d ∷ [])))) ≡ y ∷ []
    asked-same e [] g y a = laws.names_stay ds R.want d y (holds.wants y a) e
    asked-same e (z ∷ zs) g y a = laws.names_stay ds d d y (g ∙ a) e

    not-fed-holds : R.takes seen ≡ [] → Holds (ds ++ (d ∷ [])) (asked_by R n x (own seen))
    not-fed-holds e = record {
      fed = subst (λ l. l ≡ map disk (take (length l) R.rows)) (sym (taken-same e)) holds.fed;
      wants = λ y a. asked-same e (R.names seen) refl y (ap (λ l. asked_then R n l (R.names seen) x) (sym e) ∙ a);
    }

    -- fed the row y
    fed-holds : (y : RowName) → x ≡ y ∷ [] → R.takes seen ≡ disk y ∷ [] → Holds (ds ++ (d ∷ [])) (asked_by R n x (own seen))
    fed-holds y xe e = record {
      fed = subst (λ l. l ≡ map disk (take (length l) R.rows)) (sym (taken_more ∙ ap (λ l. so_far ++ l) e)) longer;
      wants = λ z a. absurd (let g : [] ≡ z ∷ [] = ap (λ l. asked_then R n l (R.names seen) x) (sym e) ∙ a in let o : ◌≡◌ {A = ℕ} 0 1 = cc in omega arith);
    }
      where
        k : ℕ
        k = length so_far

        here : drop (length so_far) R.rows ≡ y ∷ drop (suc (length so_far)) R.rows
        here = laws.names_next ds R.want y (holds.wants y xe)

        size : length (so_far ++ (disk y ∷ [])) ≡ suc (length so_far)
        size = let l = length-append so_far (disk y ∷ []) in omega arith

        longer : so_far ++ (disk y ∷ []) ≡ map disk (take (length (so_far ++ (disk y ∷ []))) R.rows)
        longer =
            ap (λ l. l ++ (disk y ∷ [])) holds.fed ∙ sym (map-append disk (take (length so_far) R.rows) (y ∷ []))
            ∙ ap (map disk) (sym (take_next (length so_far) R.rows y _ here)) ∙ ap (λ m. map disk (take m R.rows)) (sym size)

    own-holds : (h : Bool) → FedRight R n disk h x (own seen) → Holds (ds ++ (d ∷ [])) (asked_by R n x (own seen))
    own-holds h (not_fed e) = not-fed-holds e
    own-holds h (fed_row y t xe e) = fed-holds y xe e

-- ---- in a list of all: each call is the turn-giver's, another reader's or its own
module _ (R : ℕ → Reading) (n : ℕ) (laws : ReadingLaws (R n)) (disk : RowName → Area) where
  abbrev Good : List (R n).Call → List RowName → Type 0
  Good = Holds (R n) laws n disk

  abbrev Walk : List (Call R) → Type 0
  Walk cs = (w : World R) (ds : List (R n).Call) (h : Bool) (x : List RowName) → w.readers n ≡ final_of (R n) ds → Good ds x →
      InTurn (R n) n disk h x (moments R n (events R cs w)) → Good (ds ++ calls_of R n cs) (asked (R n) n x (moments R n (events R cs w)))

  -- the turn-giver's: e is what is seen of it, ms what comes after
  turns-on : (ms : List (Moment (R n))) (cs ds : List (R n).Call) (h : Bool) (x : List RowName) (e : giver.Event) →
      ((h : Bool) → InTurn (R n) n disk h x ms → Good (ds ++ cs) (asked (R n) n x ms)) → InTurn (R n) n disk h x (moments_at R n (turns e) ++ ms) →
      Good (ds ++ cs) (asked (R n) n x (moments_at R n (turns e) ++ ms))
  unfolding asked
  turns-on ms cs ds h x (giver.marks m r) on i = on h i
  turns-on ms cs ds h x (giver.clears m r) on i = on h i
  turns-on ms cs ds h x (giver.turns (refused q)) on i = on h i
  turns-on ms cs ds h x (giver.turns (gives s)) on (more f i) = on _ i

  -- its own, in its world u
  own_on : (d : (R n).Call) (ms : List (Moment (R n))) (cs ds : List (R n).Call) (h : Bool) (x : List RowName) (u : (R n).World) → u ≡ final_of (R n) ds →
      Good ds x → ((x : List RowName) → Good (ds ++ (d ∷ [])) x → InTurn (R n) n disk h x ms → Good ((ds ++ (d ∷ [])) ++ cs) (asked (R n) n x ms)) →
      InTurn (R n) n disk h x (own ((R n).event d u) ∷ ms) → Good (ds ++ (d ∷ cs)) (asked (R n) n x (own ((R n).event d u) ∷ ms))
  unfolding asked
  own_on d ms cs ds h x u at good on (more f i) =
      let here : FedRight (R n) n disk h x (own ((R n).event d (final_of (R n) ds))) = subst (λ v. FedRight (R n) n disk h x (own ((R n).event d v))) at f in
      let then : Good (ds ++ (d ∷ [])) (asked_by (R n) n x (own ((R n).event d u))) =
      subst (λ v. Good (ds ++ (d ∷ [])) (asked_by (R n) n x (own ((R n).event d v)))) (sym at) (own-holds (R n) laws n disk ds x d good h here) in
      subst (λ l. Good l (asked (R n) n (asked_by (R n) n x (own ((R n).event d u))) ms)) (append_assoc ds (d ∷ []) cs) (on _ then i)

  -- a reader's
  readers-on : (m : ℕ) (c : (R m).Call) (cs : List (Call R)) (w : World R) (ds : List (R n).Call) (h : Bool) (x : List RowName) →
      w.readers n ≡ final_of (R n) ds → Good ds x → Walk cs → Whose R n m c w.readers →
      InTurn (R n) n disk h x (map own (of_number (λ k. (R k).Event) n m ((R m).event c (w.readers m))) ++ moments R n (events R cs (next R (reader m c) w))) →
      Good (ds ++ (of_number (λ k. (R k).Call) n m c ++ calls_of R n cs))
      (asked (R n) n x (map own (of_number (λ k. (R k).Event) n m ((R m).event c (w.readers m))) ++ moments R n (events R cs (next R (reader m c) w))))
  unfolding next
  readers-on m c cs w ds h x at good on (another p q r) i =
      rw (p, q) (on (next R (reader m c) w) ds h x (r ∙ at) good (rw q at i))
  readers-on m c cs w ds h x at good on (its_own d p q r) i =
      rw (p, q)
      (own_on d (moments R n (events R cs (next R (reader m c) w))) (calls_of R n cs) ds h x (w.readers n) at good
      (λ y g j. on (next R (reader m c) w) (ds ++ (d ∷ [])) h y (r ∙ ap ((R n).next d) at ∙ sym (final-snoc (R n).next ds d (R n).fresh)) g j) (rw q at i))

  walk : (cs : List (Call R)) → Walk cs
  unfolding lists.events event next moments calls_of asked
  walk [] w ds h x at good i = subst (λ l. Good l x) (sym (append-nil ds)) good
  walk (turns c ∷ cs) w ds h x at good i =
      turns-on (moments R n (events R cs (next R (turns c) w))) (calls_of R n cs) ds h x (giver.event c w.giver)
      (λ g j. walk cs (next R (turns c) w) ds g x at good j) i
  walk (reader m c ∷ cs) w ds h x at good i = readers-on m c cs w ds h x at good (walk cs) (whose R n m c w.readers) i

-- ---- the theorem. The others' worlds are whatever they are; so is the turn-giver
pub fed-in-turn : (R : ℕ → Reading) (n : ℕ) → ReadingLaws (R n) → (disk : RowName → Area) (w : World R) → w.readers n ≡ (R n).fresh → (cs : List (Call R)) →
    InTurn (R n) n disk false [] (moments R n (events R cs w)) → FedInOrder R n disk (events R cs w) (λ c. (R n).event c ((final R cs w).readers n))
unfolding lists.final
fed-in-turn R n laws disk w at cs i = record {
  fed = subst (λ es. taken_by (R n) es ≡ map disk (take (length (taken_by (R n) es)) (R n).rows)) (sym shows) good.fed;
  wants_still = λ x a. ap (λ u. (R n).names ((R n).event (R n).want u)) leaves ∙ good.wants x a;
  takes_it = λ x a f.
      ap (λ u. (R n).takes ((R n).event ((R n).feed (disk x)) u)) leaves
      ∙ laws.takes_named (calls_of R n cs) (R n).want x (disk x) (good.wants x a) f;
}
  where
    good : Holds (R n) laws n disk (calls_of R n cs) (asked (R n) n [] (moments R n (events R cs w)))
    good = walk R n laws disk cs w [] false [] at (fresh_holds (R n) laws n disk) i

    shows : own_events R n (events R cs w) ≡ events_of (R n) (calls_of R n cs)
    shows = (reader-alone R n cs w).shows ∙ ap (lists.events (R n).event (R n).next (calls_of R n cs)) at

    leaves : (final R cs w).readers n ≡ final_of (R n) (calls_of R n cs)
    leaves = (reader-alone R n cs w).leaves ∙ ap (lists.final (R n).next (calls_of R n cs)) at

-- ---- the turns are as fair among the readers' calls: those go by the turn-giver's own calls alone
pub served-together : (R : ℕ → Reading) (n : ℕ) → n < readers → (w : World R) → w.giver ≡ fresh → (cs ds : List (Call R)) →
    giver.wants_after n false (turn_calls R cs) ≡ true → All (λ d. giver.clears_reader n d ≡ false) (turn_calls R ds) → readers ≤ giver.turns_in (turn_calls R ds) →
    ever (giver.serves n) (turn_events R (events R ds (final R cs w))) ≡ true
served-together R n h w at cs ds wants all enough =
    ap (ever (giver.serves n))
    (turns_alone R ds (final R cs w) ∙ ap (giver.events (turn_calls R ds)) (giver-alone R cs w ∙ ap (giver.final (turn_calls R cs)) at))
    ∙ served-within n h (turn_calls R cs) (turn_calls R ds) wants all enough
