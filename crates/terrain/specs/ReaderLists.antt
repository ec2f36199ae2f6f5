-- Lists of C calls on a reader, and what is seen of them in C, as WriterLists does for a writer.
use Rattle.std.specs.Prelude.{Bool, false, ◌≡◌, List, ℕ, ℤ}
use Rattle.numbers.specs.Signal.{both}
use Rattle.lifting.specs.Grid.{Side}
use Rattle.calls.specs.Lists.{gives, refused, Area, Mixed, mine, stray, told_by}
use Rattle.calls.specs.Lists as lists
use Rattle.reader.specs.Answers.{number}
use Rattle.reader.specs.Questions.{set_up_question}
use Rattle.reader.specs.Reading.{counts_fit}
use Rattle.reader.specs.Calls.{set_up_reply, set_up_store}
use Rattle.reader.specs.Demand3.{Call, Event, World, heights, nothing, event, events, final, fresh_world, Demand3}
use Rattle.reader.specs.Demand3 as rattle
use Rattle.terrain.specs.Memories.{Memories}
use Rattle.states.specs.ReaderState.{is_reader, reader_of, reader_words}
use Rattle.states.specs.ReaderAnswers.{count_of}
use Rattle.terrain.specs.ReaderCalls as c

-- the arguments of a call that Rattle's has too, and what its out-parameter held: `want` of a want, `drawn` of a draw
pub record CCall : Type 0 where
  pub call : Call
  pub want : List ℕ
  pub drawn : ℕ

-- question 1: the array is a reader's, and every count is inside its range
abbrev pub holds_reader : List ℕ → Bool
holds_reader s = both (is_reader s) (counts_fit (reader_of s))

-- a call that is lent another array, to which it says no: of another kind, as a writer's, or with a count out of its range
pub record Stray : Type 0 where
  pub array : List ℕ
  pub no_reader : holds_reader array ≡ false
  pub given : CCall

-- what is seen of a call: its run or area, the number answered, the out-parameter and the area afterwards; of a stray also its array afterwards
pub data Seen : Type 0 where
  wanted : ℕ → List ℕ → Seen
  fed : Area → ℕ → Seen
  drew : Area → ℕ → ℕ → Area → Seen
  strayed : List ℕ → Seen → Seen

-- ---- a call that is lent the array s and a store in which x stands
-- by the contracts of `terrain_reader_want`, `terrain_reader_feed` and `terrain_reader_draw`
module _ (s : List ℕ) (x : ℕ → ℤ) where
  unfoldable pub seen_of : Call → List ℕ → ℕ → Seen
  seen_of rattle.want q z = wanted (number (c.wanting s)) (c.want_of (c.wanting s) q)
  seen_of (rattle.feed n a) q z = fed a (number (c.feeding s n x a.size a.numbers))
  seen_of (rattle.draw n a) q z =
      drew a (number (c.drawing s n x a.size)) (count_of (c.drawing s n x a.size) z)
      (record { size = a.size; numbers = c.drawing_area s n x a.size a.numbers })

  -- the array and the store afterwards
  unfoldable pub array_after : Call → List ℕ
  array_after rattle.want = s
  array_after (rattle.feed n a) = c.state_of (c.feeding s n x a.size a.numbers) s
  array_after (rattle.draw n a) = c.state_drawn (c.drawing s n x a.size) s

  unfoldable pub store_after : Call → ℕ → ℤ
  store_after rattle.want = x
  store_after (rattle.feed n a) = c.feeding_store s n x a.size a.numbers
  store_after (rattle.draw n a) = c.drawing_store s n x a.size

-- ---- the machine
unfoldable pub shows : Mixed CCall Stray → Memories → Seen
shows (mine d) m = seen_of m.state m.store d.call d.want d.drawn
shows (stray b) m =
    strayed (array_after b.array m.store b.given.call)
    (seen_of b.array m.store b.given.call b.given.want b.given.drawn)

unfoldable pub leaves : Mixed CCall Stray → Memories → Memories
leaves (mine d) m = record { state = array_after m.state m.store d.call; store = store_after m.state m.store d.call }
leaves (stray b) m = record { state = m.state; store = store_after b.array m.store b.given.call }

abbrev pub seen_all : List (Mixed CCall Stray) → Memories → List Seen
seen_all = lists.events shows leaves

abbrev pub leaves_all : List (Mixed CCall Stray) → Memories → Memories
leaves_all = lists.final leaves

-- what `terrain_reader_set_up` answers and leaves, by its contract, of a store of n numbers
abbrev pub set_up_asked : ℕ → Side → Side → ℕ → ℕ → ℕ
set_up_asked f W H L n = number (set_up_reply f W H L (set_up_question f W H L n))

abbrev pub set_up : ℕ → Side → Side → ℕ → ℕ → Memories → Memories
set_up f W H L n m =
    record { state = c.state_of (set_up_reply f W H L (set_up_question f W H L n)) m.state; store = set_up_store f W L (set_up_question f W H L n) m.store }

-- ---- the same told of a list of Rattle's calls: an answer by its number, what it gives by the out-parameter, which a refusal leaves
unfoldable pub told : List ℕ → ℕ → Event → Seen
told q z (rattle.wanted (gives v)) = wanted 0 (c.want_words v)
told q z (rattle.wanted (refused k)) = wanted k q
told q z (rattle.fed a (gives u)) = fed a 0
told q z (rattle.fed a (refused k)) = fed a k
told q z (rattle.drew a (gives (heights k)) b) = drew a 0 k b
told q z (rattle.drew a (gives nothing) b) = drew a 0 0 b
told q z (rattle.drew a (refused k) b) = drew a k z b

abbrev pub tell : CCall → Event → Seen
tell d e = told d.want d.drawn e

-- a stray is turned away by 1, and nothing changes
unfoldable pub turned : Call → Event
turned rattle.want = rattle.wanted (refused 1)
turned (rattle.feed n a) = rattle.fed a (refused 1)
turned (rattle.draw n a) = rattle.drew a (refused 1) a

abbrev pub say : Stray → Seen
say b = strayed b.array (tell b.given (turned b.given.call))

abbrev pub told_all : List (Mixed CCall Stray) → List Event → List Seen
told_all = told_by tell say

-- the memory of a C program that holds this reader
abbrev pub holding : World → Memories
holding w = record { state = reader_words w.reader; store = w.store }

abbrev pub calls : List (Mixed CCall Stray) → List Call
calls = lists.calls (λ d. d.call)

-- ---- any C calls ds after a set-up that left `start`, of the reader and the store of w, of whose lists of calls Claim holds
pub record AfterSetUp (start : Memories) (w : World) (Claim : List Event → (Call → Event) → Type 0) (ds : List (Mixed CCall Stray)) : Type 0 where
  -- the set-up leaves the fresh reader of the lists of Claim and its store
  pub set-up : start ≡ holding w
  -- what is seen of the calls is what is seen of Rattle's, so told, and the claim holds of these
  pub shown : seen_all ds start ≡ told_all ds (events (calls ds) w)
  pub claim : Claim (events (calls ds) w) (λ k. event k (final (calls ds) w))
  -- a further call shows what Rattle's would
  pub next : (d : CCall) → shows (mine d) (leaves_all ds start) ≡ tell d (event d.call (final (calls ds) w))
  -- array and store are the reader's and its store's
  pub left : leaves_all ds start ≡ holding (final (calls ds) w)

-- a set-up that answered 0, of the filter f, the columns W, the rows H and L levels, on a store of n numbers: demand 3
module _ (f : ℕ) (W H : Side) (L n : ℕ) (m : Memories) (ds : List (Mixed CCall Stray)) where
  -- the fresh reader, and the array and the store after the calls
  abbrev pub fresh : World
  fresh = fresh_world f 0 0 W H L m.store

  abbrev pub then : Memories
  then = leaves_all ds (set_up f W H L n m)

  abbrev pub OfCalls : Type 0
  OfCalls = AfterSetUp (set_up f W H L n m) fresh (Demand3 f 0 0 W H L) ds
