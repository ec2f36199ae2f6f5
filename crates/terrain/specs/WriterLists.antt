-- Lists of C calls on a writer, and what is seen of them in C: the number that each answers, its out-parameter and its area.
-- Each call is made on the state array and the line store that the one before left; a stray is lent the store and another array, which holds no writer.
use Rattle.std.specs.Prelude.{Bool, false, ◌≡◌, List, [], ◌∷◌, ℕ}
use Rattle.numbers.specs.Signal.{both}
use Rattle.lifting.specs.Grid.{Side}
use Rattle.calls.specs.Lists.{gives, refused, Area, Mixed, mine, stray, told_by}
use Rattle.calls.specs.Lists as lists
use Rattle.progress.specs.Counts.{start_of}
use Rattle.writer.specs.Questions.{in_ranges}
use Rattle.writer.specs.Calls.{set_up_reply, set_up_store}
use Rattle.writer.specs.History.{Call, Event, World, row, none, event, events, final, fresh_world}
use Rattle.writer.specs.History as rattle
use Rattle.writer.specs.Demand3.{Demand3}
use Rattle.writer.specs.Before as before
use Rattle.level.specs.Level.{Memory}
use Rattle.terrain.specs.Memories.{Memories}
use Rattle.states.specs.WriterState.{is_writer, writer_of, writer_words}
use Rattle.states.specs.WriterAnswers.{number, taken_of, row_of}
use Rattle.terrain.specs.WriterCalls as c

-- the arguments of a call that Rattle's has too, and what its out-parameter held: `taken` of an offer, `row` of a draw and of a look
pub record CCall : Type 0 where
  pub call : Call
  pub taken : ℕ
  pub row : List ℕ

-- question 1: the array is a writer's, and every count is inside its range
abbrev pub holds_writer : List ℕ → Bool
holds_writer s = both (is_writer s) (in_ranges (writer_of s))

-- a call that is lent another array, to which it says no: of another kind, as a reader's, or with a count out of its range
pub record Stray : Type 0 where
  pub array : List ℕ
  pub no_writer : holds_writer array ≡ false
  pub given : CCall

-- what is seen of a call: its run or area, the number answered, the out-parameter and the area afterwards; of a stray also its array afterwards
pub data Seen : Type 0 where
  offered : List ℕ → ℕ → ℕ → Seen
  drew : Area → ℕ → List ℕ → Area → Seen
  finished : ℕ → Seen
  looked : ℕ → List ℕ → Seen
  strayed : List ℕ → Seen → Seen

-- ---- a call that is lent the array s and a store in which x stands
-- by the contracts of `terrain_writer_offer`, `terrain_writer_draw`, `terrain_writer_finish` and `terrain_writer_waits`
module _ (s : List ℕ) (x : Memory) where
  unfoldable pub seen_of : Call → ℕ → List ℕ → Seen
  seen_of (rattle.offer n run) z q = offered run (number (c.offered s n run x)) (taken_of (c.offered s n run x) z)
  seen_of (rattle.draw n a) z q =
      drew a (number (c.drawn s n a.size x)) (row_of (c.drawn s n a.size x) q)
      (record { size = a.size; numbers = c.drawn_area s n a.size x a.numbers })
  seen_of (rattle.finish n) z q = finished (number (c.finished s n x))
  seen_of rattle.look z q = looked (number (c.waiting s)) (c.look_of (c.waiting s) q)

  -- the array and the store afterwards
  unfoldable pub array_after : Call → List ℕ
  array_after (rattle.offer n run) = c.state_took (c.offered s n run x) s
  array_after (rattle.draw n a) = c.state_handed (c.drawn s n a.size x) s
  array_after (rattle.finish n) = c.state_of (c.finished s n x) s
  array_after rattle.look = s

  unfoldable pub store_after : Call → Memory
  store_after (rattle.offer n run) = c.offered_store s n run x
  store_after (rattle.draw n a) = c.drawn_store s n a.size x
  store_after (rattle.finish n) = c.finished_store s n x
  store_after rattle.look = x

-- ---- the machine
unfoldable pub shows : Mixed CCall Stray → Memories → Seen
shows (mine d) m = seen_of m.state m.store d.call d.taken d.row
shows (stray b) m =
    strayed (array_after b.array m.store b.given.call)
    (seen_of b.array m.store b.given.call b.given.taken b.given.row)

unfoldable pub leaves : Mixed CCall Stray → Memories → Memories
leaves (mine d) m = record { state = array_after m.state m.store d.call; store = store_after m.state m.store d.call }
leaves (stray b) m = record { state = m.state; store = store_after b.array m.store b.given.call }

abbrev pub seen_all : List (Mixed CCall Stray) → Memories → List Seen
seen_all = lists.events shows leaves

abbrev pub leaves_all : List (Mixed CCall Stray) → Memories → Memories
leaves_all = lists.final leaves

-- what `terrain_writer_set_up` leaves, by its contract, of a store of n numbers
abbrev pub set_up : ℕ → Side → ℕ → ℕ → ℕ → Memories → Memories
set_up f W s L n m = record { state = c.state_of (set_up_reply f W s L n) m.state; store = set_up_store f W L n m.store }

-- ---- the same told of a list of Rattle's calls: an answer by its number, what it gives by the out-parameter, which a refusal leaves
unfoldable pub told : ℕ → List ℕ → Event → Seen
told z q (rattle.offered run (gives k)) = offered run 0 k
told z q (rattle.offered run (refused k)) = offered run k z
told z q (rattle.drew a (gives (row r)) b) = drew a 0 (r.level ∷ r.band ∷ r.row ∷ r.length ∷ []) b
told z q (rattle.drew a (gives none) b) = drew a 0 (0 ∷ 0 ∷ 0 ∷ 0 ∷ []) b
told z q (rattle.drew a (refused k) b) = drew a k q b
told z q (rattle.finished (gives u)) = finished 0
told z q (rattle.finished (refused k)) = finished k
told z q (rattle.looked (gives r)) = looked 0 (r.level ∷ r.band ∷ r.row ∷ r.length ∷ [])
told z q (rattle.looked (refused k)) = looked k q

abbrev pub tell : CCall → Event → Seen
tell d e = told d.taken d.row e

-- a stray is turned away by 1, and nothing changes
unfoldable pub turned : Call → Event
turned (rattle.offer n run) = rattle.offered run (refused 1)
turned (rattle.draw n a) = rattle.drew a (refused 1) a
turned (rattle.finish n) = rattle.finished (refused 1)
turned rattle.look = rattle.looked (refused 1)

abbrev pub say : Stray → Seen
say b = strayed b.array (tell b.given (turned b.given.call))

abbrev pub told_all : List (Mixed CCall Stray) → List Event → List Seen
told_all = told_by tell say

-- the memory of a C program that holds this writer
abbrev pub holding : World → Memories
holding w = record { state = writer_words w.writer; store = w.store }

abbrev pub calls : List (Mixed CCall Stray) → List Call
calls = lists.calls (λ d. d.call)

-- ---- any C calls ds after a set-up that answered 0, of the filter f, the columns W, rows that start at s and L levels, on a store of n numbers
module _ (f : ℕ) (W : Side) (s L n : ℕ) (m : Memories) (ds : List (Mixed CCall Stray)) where
  -- the fresh writer, and the array and the store after the calls
  abbrev pub fresh : World
  fresh = fresh_world f W s L n m.store

  abbrev pub then : Memories
  then = leaves_all ds (set_up f W s L n m)

  pub record OfCalls : Type 0 where
    -- the set-up leaves the fresh writer of the lists of demand 3 and its store
    pub set-up : set_up f W s L n m ≡ holding fresh
    -- what is seen of the calls is what is seen of Rattle's, so told, and demand 3 holds of these
    pub shown : seen_all ds (set_up f W s L n m) ≡ told_all ds (events (calls ds) fresh)
    pub claim : Demand3 f W s L (events (calls ds) fresh) (λ k. event k (final (calls ds) fresh))
    -- a further call shows what Rattle's would
    pub next : (d : CCall) → shows (mine d) then ≡ tell d (event d.call (final (calls ds) fresh))
    -- array and store are the writer's and its store's
    pub left : then ≡ holding (final (calls ds) fresh)
    -- so the store is that of the writer without an offset, and the offset in the array is where the stretch of the level being handed out begins
    pub store_is : then.store ≡ (before.final (calls ds) (before.fresh_world f W s L n m.store)).store
    pub offset_is : (writer_of then.state).offset ≡ start_of f W (writer_of then.state).level
