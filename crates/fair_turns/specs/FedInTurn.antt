-- "Fed at its turns the row it wants, it gets the first band rows of its own list of steps, whatever the others do." (document 02, Q-11)
-- The words go by the answers alone: whose turn it is by the turns, what a reader wants by its wants, what it was fed by its feeds.
use Rattle.std.specs.Prelude.{◌≡◌, Bool, true, false, List, [], ◌∷◌, ◌++◌, map, ℕ, eqb, length, take}
use Rattle.wavelet.specs.Order.{RowName}
use Rattle.calls.specs.Lists.{gives, refused, Area}
use Rattle.turns.specs.Order.{Served}
use Rattle.turns.specs.Order as order
use Rattle.turns.specs.Lists as giver
use Rattle.fair_turns.specs.Families.{of_number}
use Rattle.fair_turns.specs.Reading.{Reading, taken_by}
use Rattle.fair_turns.specs.Together.{Event, turns, reader, own_events}

-- ---- what of a list a reader's feeding goes by: the turns, and the events of its own
pub data Moment (R : Reading) : Type 0 where
  turned : Served → Moment R
  own : R.Event → Moment R

module _ (R : ℕ → Reading) (n : ℕ) where
  abbrev pub moments_at : Event R → List (Moment (R n))
  moments_at (turns (giver.turns (gives s))) = turned s ∷ []
  moments_at (turns (giver.turns (refused q))) = []
  moments_at (turns (giver.marks m r)) = []
  moments_at (turns (giver.clears m r)) = []
  moments_at (reader m e) = map own (of_number (λ k. (R k).Event) n m e)

  unfoldable pub moments : List (Event R) → List (Moment (R n))
  moments [] = []
  moments (e ∷ es) = moments_at e ++ moments es

-- ---- reader n, of the kind R
module _ (R : Reading) (n : ℕ) where
  -- is it its turn? From the turn that serves it to the next
  abbrev pub holds_by : Bool → Moment R → Bool
  holds_by h (turned (order.reader m)) = eqb m n
  holds_by h (turned order.nobody) = false
  holds_by h (own e) = h

  -- the row that it wants, as its last want named it; none from a feed to the next want
  abbrev pub asked_then : List Area → List RowName → List RowName → List RowName
  asked_then [] [] x = x
  asked_then [] (y ∷ ys) x = y ∷ ys
  asked_then (a ∷ bs) ys x = []

  abbrev pub asked_by : List RowName → Moment R → List RowName
  asked_by x (turned s) = x
  asked_by x (own e) = asked_then (R.takes e) (R.names e) x

  unfoldable pub asked : List RowName → List (Moment R) → List RowName
  asked x [] = x
  asked x (m ∷ ms) = asked (asked_by x m) ms

  -- ---- the row x, as the disk has it, is all that it is fed, and only at its turn
  module _ (disk : RowName → Area) where
    pub data FedRight (h : Bool) (x : List RowName) : Moment R → Type 0 where
      a_turn : {s : Served} → FedRight h x (turned s)
      not_fed : {e : R.Event} → R.takes e ≡ [] → FedRight h x (own e)
      fed_row : {e : R.Event} (y : RowName) → h ≡ true → x ≡ y ∷ [] → R.takes e ≡ disk y ∷ [] → FedRight h x (own e)

    pub data InTurn : Bool → List RowName → List (Moment R) → Type 0 where
      over : {h : Bool} {x : List RowName} → InTurn h x []
      more : {h : Bool} {x : List RowName} {m : Moment R} {ms : List (Moment R)} → FedRight h x m → InTurn (holds_by h m) (asked_by x m) ms → InTurn h x (m ∷ ms)

-- ---- the claim, of the events es of any list of calls of turn-giver and readers; `then` is what would be seen of a further call of reader n
pub record FedInOrder (R : ℕ → Reading) (n : ℕ) (disk : RowName → Area) (es : List (Event R)) (then : (R n).Call → (R n).Event) : Type 0 where
  -- it has been fed the first band rows of its steps
  pub fed : taken_by (R n) (own_events R n es) ≡ map disk (take (length (taken_by (R n) (own_events R n es))) (R n).rows)
  -- and the row that it named last is still the one that it wants, which it takes when it is fed
  pub wants_still : (x : RowName) → asked (R n) n [] (moments R n es) ≡ x ∷ [] → (R n).names (then (R n).want) ≡ x ∷ []
  pub takes_it : (x : RowName) → asked (R n) n [] (moments R n es) ≡ x ∷ [] → (R n).Fits x (disk x) → (R n).takes (then ((R n).feed (disk x))) ≡ disk x ∷ []
