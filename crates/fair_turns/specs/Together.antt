-- A turn-giver and sixteen readers together: each of any kind, each with a world of its own. Each call is one of the turn-giver's or one of a reader's, made in
-- the world that the call before left.
use Rattle.std.specs.Prelude.{List, [], ◌∷◌, ◌++◌, ℕ}
use Rattle.calls.specs.Lists as lists
use Rattle.turns.specs.declared.Turns.{Turns}
use Rattle.turns.specs.Lists as giver
use Rattle.fair_turns.specs.Families.{changed, of_number}
use Rattle.fair_turns.specs.Reading.{Reading}

module _ (R : ℕ → Reading) where
  pub data Call : Type 0 where
    turns : giver.Call → Call
    reader : (n : ℕ) → (R n).Call → Call

  pub data Event : Type 0 where
    turns : giver.Event → Event
    reader : (n : ℕ) → (R n).Event → Event

  pub record World : Type 0 where
    pub giver : Turns
    pub readers : (n : ℕ) → (R n).World

  unfoldable pub event : Call → World → Event
  event (turns c) w = turns (giver.event c w.giver)
  event (reader n c) w = reader n ((R n).event c (w.readers n))

  unfoldable pub next : Call → World → World
  next (turns c) w = record { giver = giver.next c w.giver; readers = w.readers }
  next (reader n c) w = record { giver = w.giver; readers = changed (λ m. (R m).World) n ((R n).next c (w.readers n)) w.readers }

  -- ---- what of a list concerns the turn-giver, and what reader n
  unfoldable pub turn_calls : List Call → List giver.Call
  turn_calls [] = []
  turn_calls (turns c ∷ cs) = c ∷ turn_calls cs
  turn_calls (reader n c ∷ cs) = turn_calls cs

  unfoldable pub turn_events : List Event → List giver.Event
  turn_events [] = []
  turn_events (turns e ∷ es) = e ∷ turn_events es
  turn_events (reader n e ∷ es) = turn_events es

  unfoldable pub calls_of : (n : ℕ) → List Call → List (R n).Call
  calls_of n [] = []
  calls_of n (turns c ∷ cs) = calls_of n cs
  calls_of n (reader m c ∷ cs) = of_number (λ k. (R k).Call) n m c ++ calls_of n cs

  unfoldable pub own_events : (n : ℕ) → List Event → List (R n).Event
  own_events n [] = []
  own_events n (turns e ∷ es) = own_events n es
  own_events n (reader m e ∷ es) = of_number (λ k. (R k).Event) n m e ++ own_events n es

abbrev pub events : (R : ℕ → Reading) → List (Call R) → World R → List (Event R)
events R = lists.events (event R) (next R)

abbrev pub final : (R : ℕ → Reading) → List (Call R) → World R → World R
final R = lists.final (next R)
