-- What the bytes of an input bring, event by event, and at their end: as the definition reads them (`reading_of`), and byte by byte (`read_all`).
use Rattle.std.specs.Prelude.{false, List, [], ◌∷◌, ◌++◌, map, ℕ, zero, suc, ltb, eqb, length}
use Rattle.numbers.specs.Signal.{pick}
use Rattle.wavelet.specs.Limits.{max_levels}
use Rattle.pgm.specs.Header.{Read, found, short, wrong}
use Rattle.pgm.specs.Heights.{heights_taken, too_large, bytes_of, refusal_in}
use Rattle.listing.specs.Listing.{Shape, Head, cells, head_of}
use Rattle.pgm.specs.InputSteps.{read_byte, input_ended}
use Rattle.pgm.specs.declared.input.Input.{Input}
use Rattle.pgm.specs.StepAnswer.{StepAnswer}
use Rattle.pgm.specs.StepAnswer as steps
use Rattle.pgm.specs.EndedAnswer.{EndedAnswer}
use Rattle.pgm.specs.EndedAnswer as ended

-- the head is there, a height is there, a question (15 or 16) says no
pub data Event : Type 0 where
  begins : Shape → Event
  height : ℕ → Event
  refusal : ℕ → Event

-- the event of an answer: none of 0, which is no refusal
abbrev pub answer_events : ℕ → List Event
answer_events zero = []
answer_events (suc q) = refusal (suc q) ∷ []

-- the end of the input: all heights came and no more, too few, or a question said no before
pub data Ending : Type 0 where
  whole few over : Ending

pub record Reading : Type 0 where
  pub events : List Event
  pub ending : Ending

abbrev pub with_event : Event → Reading → Reading
with_event e t = record { events = e ∷ t.events; ending = t.ending }

-- ---- as the definition reads the bytes
-- the bytes r after the head, of which n heights are taken, m being the largest value
unfoldable pub heights_reading : ℕ → ℕ → List ℕ → Reading
heights_reading m n r =
    record {
      events = map height (heights_taken m n r) ++ answer_events (refusal_in false m n r);
      ending = pick (too_large m n r) over (pick (eqb (length r) (bytes_of m n)) whole (pick (ltb (bytes_of m n) (length r)) over few));
    }

abbrev pub nothing_yet : Reading
nothing_yet = record { events = []; ending = few }

abbrev pub refused_reading : Reading
refused_reading = record { events = refusal 15 ∷ []; ending = over }

abbrev pub head_reading : Read Head → Reading
head_reading (found h r) = with_event (begins h.shape) (heights_reading h.largest (cells h.shape) r)
head_reading short = nothing_yet
head_reading wrong = refused_reading

unfoldable pub reading_of : List ℕ → Reading
reading_of s = head_reading (head_of s)

-- ---- byte by byte
-- the events that came, and the input's state then
pub record Progress : Type 0 where
  pub events : List Event
  pub input : Input

abbrev pub and_on : Event → Progress → Progress
and_on e h = record { events = e ∷ h.events; input = h.input }

abbrev pub step_then : (Input → Progress) → StepAnswer → Progress
step_then f (steps.More i) = f i
step_then f (steps.Begun i w h) = and_on (begins (record { width = w; height = h; levels = i.levels })) (f i)
step_then f (steps.Height i v) = and_on (height v) (f i)
step_then f (steps.No i q) = and_on (refusal q) (f i)

unfoldable pub read_all : Input → List ℕ → Progress
read_all i [] = record { events = []; input = i }
read_all i (b ∷ s) = step_then (λ j. read_all j s) (read_byte max_levels i b)

abbrev pub ending_of : EndedAnswer → Ending
ending_of (ended.Whole i) = whole
ending_of (ended.No15 i) = few
ending_of ended.Before = over

abbrev pub sum : Progress → Reading
sum h = record { events = h.events; ending = ending_of (input_ended h.input) }
