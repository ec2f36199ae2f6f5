-- A list of calls of turn-giver and readers, looked at by one of them: what it shows of the turn-giver is what the turn-giver's own calls show
-- (`turns_alone`), and a call is reader n's or leaves it as it was (`whose`), so that of reader n it shows what its own calls show (`reader-alone`).
-- Assumes nothing.
use mathlib.Core.Path.{◌≡◌, refl, sym, ap, ap₂, subst, ◌∙◌}
use mathlib.Core.List.{List, [], ◌∷◌, ◌++◌}
use Prim.Native.Nat.{ℕ, zero, suc}
use Rattle.calls.specs.Lists as lists
use Rattle.turns.specs.Lists as giver
use Rattle.fair_turns.specs.Families.{changed, of_number}
use Rattle.fair_turns.specs.Reading.{Reading}
use Rattle.fair_turns.specs.Together.{Call, Event, World, turns, reader, event, next, turn_calls, turn_events, calls_of, own_events, events, final}

-- ---- the turn-giver
module _ (R : ℕ → Reading) where
  pub turns_alone : (cs : List (Call R)) (w : World R) → turn_events R (events R cs w) ≡ giver.events (turn_calls R cs) w.giver
  unfolding lists.events event next turn_calls turn_events
  turns_alone [] w = refl
  turns_alone (turns c ∷ cs) w = ap (λ es. giver.event c w.giver ∷ es) (turns_alone cs (next R (turns c) w))
  turns_alone (reader n c ∷ cs) w = turns_alone cs (next R (reader n c) w)

  pub giver-alone : (cs : List (Call R)) (w : World R) → (final R cs w).giver ≡ giver.final (turn_calls R cs) w.giver
  unfolding lists.final next turn_calls
  giver-alone [] w = refl
  giver-alone (turns c ∷ cs) w = giver-alone cs (next R (turns c) w)
  giver-alone (reader n c ∷ cs) w = giver-alone cs (next R (reader n c) w)

-- ---- reader n: a call c of reader m is its own, or leaves it as it was. f are the worlds of all
pub data Whose (R : ℕ → Reading) (n m : ℕ) (c : (R m).Call) (f : (k : ℕ) → (R k).World) : Type 0 where
  another : of_number (λ k. (R k).Call) n m c ≡ [] → of_number (λ k. (R k).Event) n m ((R m).event c (f m)) ≡ [] →
      changed (λ k. (R k).World) m ((R m).next c (f m)) f n ≡ f n → Whose R n m c f
  its_own : (d : (R n).Call) → of_number (λ k. (R k).Call) n m c ≡ d ∷ [] → of_number (λ k. (R k).Event) n m ((R m).event c (f m)) ≡ (R n).event d (f n) ∷ [] →
      changed (λ k. (R k).World) m ((R m).next c (f m)) f n ≡ (R n).next d (f n) → Whose R n m c f

pub whose : (R : ℕ → Reading) (n m : ℕ) (c : (R m).Call) (f : (k : ℕ) → (R k).World) → Whose R n m c f
whose R zero zero c f = its_own c refl refl refl
whose R zero (suc m) c f = another refl refl refl
whose R (suc n) zero c f = another refl refl refl
whose R (suc n) (suc m) c f = go (whose (λ k. R (suc k)) n m c (λ k. f (suc k)))
  where
    go : Whose (λ k. R (suc k)) n m c (λ k. f (suc k)) → Whose R (suc n) (suc m) c f
    go (another p q r) = another p q r
    go (its_own d p q r) = its_own d p q r

module _ (R : ℕ → Reading) (n : ℕ) where
  pub record Alone (cs : List (Call R)) (w : World R) : Type 0 where
    pub shows : own_events R n (events R cs w) ≡ lists.events (R n).event (R n).next (calls_of R n cs) (w.readers n)
    pub leaves : (final R cs w).readers n ≡ lists.final (R n).next (calls_of R n cs) (w.readers n)

  pub reader-alone : (cs : List (Call R)) (w : World R) → Alone cs w
  unfolding lists.events lists.final event next calls_of own_events
  reader-alone [] w = record { shows = refl; leaves = refl }
  reader-alone (turns c ∷ cs) w = let a = reader-alone cs (next R (turns c) w) in record { shows = a.shows; leaves = a.leaves }
  reader-alone (reader m c ∷ cs) w = go (reader-alone cs (next R (reader m c) w)) (whose R n m c w.readers)
    where
      go : Alone cs (next R (reader m c) w) → Whose R n m c w.readers → Alone (reader m c ∷ cs) w
      go a (another p q r) = record {
        shows =
            ap (λ l. l ++ own_events R n (events R cs (next R (reader m c) w))) q ∙ a.shows
            ∙ ap (lists.events (R n).event (R n).next (calls_of R n cs)) r
            ∙ ap (λ l. lists.events (R n).event (R n).next (l ++ calls_of R n cs) (w.readers n)) (sym p);
        leaves =
            a.leaves ∙ ap (lists.final (R n).next (calls_of R n cs)) r
            ∙ ap (λ l. lists.final (R n).next (l ++ calls_of R n cs) (w.readers n)) (sym p);
      }
      go a (its_own d p q r) = record {
        shows =
            ap (λ l. l ++ own_events R n (events R cs (next R (reader m c) w))) q
            ∙ ap (λ l. (R n).event d (w.readers n) ∷ l) (a.shows ∙ ap (lists.events (R n).event (R n).next (calls_of R n cs)) r)
            ∙ ap (λ l. lists.events (R n).event (R n).next (l ++ calls_of R n cs) (w.readers n)) (sym p);
        leaves =
            a.leaves ∙ ap (lists.final (R n).next (calls_of R n cs)) r
            ∙ ap (λ l. lists.final (R n).next (l ++ calls_of R n cs) (w.readers n)) (sym p);
      }
