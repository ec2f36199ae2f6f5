-- Lists of calls on a turn-giver, and what is promised of them. As in document 01, "The lists of demand 3", the words go by the calls' arguments and answers,
-- by nothing in the state.
use Rattle.std.specs.Prelude.{◌≡◌, ◌↔◌, Bool, true, false, List, [], ◌∷◌, ℕ, suc, ◌≤◌, ◌<◌, eqb, leb}
use Rattle.numbers.specs.Signal.{pick}
use Rattle.wavelet.specs.Questions.{ask}
use Rattle.calls.specs.Lists.{Reply, gives, refused, unless, seen, All, ever}
use Rattle.calls.specs.Lists as lists
use Rattle.turns.specs.declared.Turns.{Turns}
use Rattle.turns.specs.Marks.{readers, last_reader}
use Rattle.turns.specs.Order.{Served, reader, nobody, next_after}
use Rattle.turns.specs.Answers.{Given, a_reader, nothing}
use Rattle.turns.specs.Calls.{fresh, in_range, mark_reply, clear_reply, turn_reply}

-- ---- calls, and what is seen of them
pub data Call : Type 0 where
  mark : ℕ → Call
  clear : ℕ → Call
  turn : Call

-- a call's argument and its answer
pub data Event : Type 0 where
  marks : ℕ → Reply (Unit {0}) → Event
  clears : ℕ → Reply (Unit {0}) → Event
  turns : Reply Served → Event

abbrev pub served : Given → Served
served (a_reader n t) = reader n
served nothing = nobody

-- the turn-giver that a call leaves: as it was, t, where the call was turned away or gave Nothing
abbrev pub changed_to : Turns → Reply Turns → Turns
changed_to t (gives u) = u
changed_to t (refused q) = t

abbrev pub turned_to : Turns → Reply Given → Turns
turned_to t (gives (a_reader n u)) = u
turned_to t (gives nothing) = t
turned_to t (refused q) = t

unfoldable pub event : Call → Turns → Event
event (mark n) t = marks n (seen (λ _. tt) (mark_reply t n))
event (clear n) t = clears n (seen (λ _. tt) (clear_reply t n))
event turn t = turns (seen served (turn_reply t))

unfoldable pub next : Call → Turns → Turns
next (mark n) t = changed_to t (mark_reply t n)
next (clear n) t = changed_to t (clear_reply t n)
next turn t = turned_to t (turn_reply t)

abbrev pub events : List Call → Turns → List Event
events = lists.events event next

abbrev pub final : List Call → Turns → Turns
final = lists.final next

-- ---- "A reader's want is marked and cleared by its number and stands until cleared": the last mark or clear of its number says whether reader n wants,
-- and where there is none what held before, b
unfoldable pub wants_by : ℕ → Bool → Call → Bool
wants_by n b (mark m) = pick (eqb m n) true b
wants_by n b (clear m) = pick (eqb m n) false b
wants_by n b turn = b

unfoldable pub wants_after : ℕ → Bool → List Call → Bool
wants_after n b [] = b
wants_after n b (c ∷ cs) = wants_after n (wants_by n b c) cs

-- ---- the last one served, or l where none was
unfoldable pub last_by : ℕ → Event → ℕ
last_by l (marks n r) = l
last_by l (clears n r) = l
last_by l (turns (gives (reader n))) = n
last_by l (turns (gives nobody)) = l
last_by l (turns (refused q)) = l

unfoldable pub last_served : ℕ → List Event → ℕ
last_served l [] = l
last_served l (e ∷ es) = last_served (last_by l e) es

-- ---- the claim, after the calls cs, which showed the events es; `then` is what would be seen of a further call
pub record Fair (cs : List Call) (es : List Event) (then : Call → Event) : Type 0 where
  -- marks and clears pass for the readers 0 to 15, and for no other number
  pub marking : (n : ℕ) → then (mark n) ≡ marks n (unless (ask (leb n last_reader) 21 0) tt)
  pub clearing : (n : ℕ) → then (clear n) ≡ clears n (unless (ask (leb n last_reader) 21 0) tt)
  -- a turn serves the first that wants after the last one served; the first turn "looks from reader 0 on", as after reader 15
  pub turning : then turn ≡ turns (gives (next_after (λ n. wants_after n false cs) (last_served last_reader es)))
  -- a turn gives only marked readers
  pub marked_only : (n : ℕ) → then turn ≡ turns (gives (reader n)) → (n < readers) × (wants_after n false cs ≡ true)
  -- "With nobody wanting, the answer is Nothing", and only then
  pub nobody_wants : then turn ≡ turns (gives nobody) ↔ ((n : ℕ) → n < readers → wants_after n false cs ≡ false)

-- of a list of calls on a fresh turn-giver: question 1 always passes, and the claim
pub record OfCalls (cs : List Call) : Type 0 where
  pub in_range : in_range (final cs fresh) ≡ true
  pub claim : Fair cs (events cs fresh) (λ c. event c (final cs fresh))

-- ---- "any reader that goes on wanting is served within 16 turns, however the others ask"
-- how many of the calls are turns
unfoldable pub turns_in : List Call → ℕ
turns_in [] = 0
turns_in (mark n ∷ cs) = turns_in cs
turns_in (clear n ∷ cs) = turns_in cs
turns_in (turn ∷ cs) = suc (turns_in cs)

-- a call that is no clear of reader n
unfoldable pub clears_reader : ℕ → Call → Bool
clears_reader n (mark m) = false
clears_reader n (clear m) = eqb m n
clears_reader n turn = false

unfoldable pub serves : ℕ → Event → Bool
serves n (marks m r) = false
serves n (clears m r) = false
serves n (turns (gives (reader m))) = eqb m n
serves n (turns (gives nobody)) = false
serves n (turns (refused q)) = false

-- after the calls cs reader n wants, and none of the calls ds, sixteen turns among them, clears it: one of those turns serves it
abbrev pub ServedWithin : ℕ → List Call → List Call → Type 0
ServedWithin n cs ds =
    wants_after n false cs ≡ true → All (λ d. clears_reader n d ≡ false) ds → readers ≤ turns_in ds → ever (serves n) (events ds (final cs fresh)) ≡ true
