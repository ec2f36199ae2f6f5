-- Calls on a writer, what is seen of each, and of a list of them what was taken and drawn: document 01, "The lists of demand 3".
-- "The words below go by the calls' arguments and answers, by nothing in the state."
use Rattle.std.specs.Prelude.{Bool, true, false, List, [], ◌∷◌, ℕ, ℤ, take}
use Rattle.lifting.specs.Grid.{Side}
use Rattle.calls.specs.Lists.{Reply, gives, refused, seen, Area, gathered, ever}
use Rattle.calls.specs.Lists as lists
use Rattle.writer.specs.declared.Writer.{Writer}
use Rattle.writer.specs.declared.BandRow.{BandRow}
use Rattle.writer.specs.Answers.{Handed, a_row, nothing}
use Rattle.writer.specs.Holds.{left, after}
use Rattle.writer.specs.Calls.{fresh, set_up_store, offer_reply, offer_store, draw_reply, draw_store, draw_area, waits_reply, finish_reply, finish_store}
use Rattle.level.specs.Level.{Memory}

-- ---- calls, and what is seen of them
-- a call with its arguments; the number is the length of the line store that it is lent, in each call its own, long enough or not. A look is lent none.
pub data Call : Type 0 where
  offer : ℕ → List ℕ → Call
  draw : ℕ → Area → Call
  finish : ℕ → Call
  look : Call

-- what a draw gives
pub data Given : Type 0 where
  row : BandRow → Given
  none : Given

-- a call's run or area, its answer, and after a draw the output area
pub data Event : Type 0 where
  offered : List ℕ → Reply ℕ → Event
  drew : Area → Reply Given → Area → Event
  finished : Reply (Unit {0}) → Event
  looked : Reply BandRow → Event

-- ---- each call is made on the state and store that the one before left. Of the store it is lent the first numbers, as many as it says.
pub record World : Type 0 where
  pub writer : Writer
  pub store : Memory

abbrev pub given : Handed → Given
given (a_row r s) = row r
given nothing = none

unfoldable pub event : Call → World → Event
event (offer n run) w = offered run (seen (λ t. t.taken) (offer_reply w.writer n run w.store))
event (draw n a) w =
    drew a (seen given (draw_reply w.writer n a.size w.store))
    (record { size = a.size; numbers = draw_area w.writer n a.size w.store a.numbers })
event (finish n) w = finished (seen (λ _. tt) (finish_reply w.writer n w.store))
event look w = looked (waits_reply w.writer)

unfoldable pub next : Call → World → World
next (offer n run) w =
    record {
      writer = left (λ t. t.writer) w.writer (offer_reply w.writer n run w.store);
      store = offer_store w.writer n run w.store;
    }
next (draw n a) w =
    record {
      writer = left (after w.writer) w.writer (draw_reply w.writer n a.size w.store);
      store = draw_store w.writer n a.size w.store;
    }
next (finish n) w =
    record {
      writer = left (λ s. s) w.writer (finish_reply w.writer n w.store);
      store = finish_store w.writer n w.store;
    }
next look w = w

abbrev pub events : List Call → World → List Event
events = lists.events event next

abbrev pub final : List Call → World → World
final = lists.final next

-- "Fresh means the state and line store of a set-up that passed": of the filter of number f, the columns W, rows that start at s and L levels, on a store of
-- n numbers in which x stood
abbrev pub fresh_world : ℕ → Side → ℕ → ℕ → ℕ → Memory → World
fresh_world f W s L n x = record { writer = fresh f W s L; store = set_up_store f W L n x }

-- ---- "Taken: of each passed offer's run the first heights, as many as its answer says, run after run."
abbrev pub taken_by : Event → List ℕ
taken_by (offered run (gives n)) = take n run
taken_by (offered run (refused q)) = []
taken_by (drew a r b) = []
taken_by (finished r) = []
taken_by (looked r) = []

abbrev pub taken : List Event → List ℕ
taken = gathered taken_by

-- "once a finish passed"
abbrev pub finishes : Event → Bool
finishes (offered run r) = false
finishes (drew a r b) = false
finishes (finished (gives u)) = true
finishes (finished (refused q)) = false
finishes (looked r) = false

abbrev pub finished_by : List Event → Bool
finished_by = ever finishes

-- "A drawn row is its level, band, number, length and values."
pub record DrawnRow : Type 0 where
  pub row : BandRow
  pub values : ℕ → ℤ

abbrev pub drawn_by : Event → List DrawnRow
drawn_by (offered run r) = []
drawn_by (drew a (gives (row r)) b) = record { row = r; values = b.numbers } ∷ []
drawn_by (drew a (gives none) b) = []
drawn_by (drew a (refused q) b) = []
drawn_by (finished r) = []
drawn_by (looked r) = []

abbrev pub drawn : List Event → List DrawnRow
drawn = gathered drawn_by
