-- Demand 1 of the reader's calls, and of the C calls on a reader. n is the length of the line store, x what stands in it, r the reader, s C's state array.
-- Of Rattle's calls the reader is a value: an answer that names a question other than 14 holds none, so the caller's stays.
use Rattle.std.specs.Prelude.{◌≡◌, true, false, List, ◌↔◌, ℕ, ◌+◌, ◌≤◌}
use Rattle.lifting.specs.Grid.{Side}
use Rattle.wavelet.specs.Asks.{Width, Height, Known, Levels, needed, ReaderSetUpAsks}
use Rattle.reader.specs.declared.Reader.{Reader}
use Rattle.reader.specs.Answers.{Reply, impossible, number}
use Rattle.reader.specs.State.{columns, ended_reader}
use Rattle.reader.specs.Questions.{set_up_question}
use Rattle.reader.specs.Reading.{by, want_question, feed_question, draw_question, want_reply, feed_reply, feed_store, draw_reply, draw_store, draw_area}
use Rattle.reader.specs.Plain.{FeedAsks}
use Rattle.reader.specs.Calls.{set_up_reply, set_up_store}
use Rattle.states.specs.ReaderAnswers.{count_of}
use Rattle.states.specs.ReaderState.{is_reader, reader_of, reader_words}
use Rattle.terrain.specs.ReaderCalls as c
use Rattle.level.specs.Level.{Memory}
use Rattle.demand_1.specs.Words.{Kept, KeptBut14, Zeroed, Surplus}

-- the numbers of the line store that a reader needs: those of its levels, and those that a stop leaves spare
abbrev pub own : Reader → ℕ
own r = r.spare + by r.levels 0 (needed r.filter (columns r) r.levels)

-- what a set-up by the filter f answers, of the columns W, the rows H and L levels
abbrev pub ready : ℕ → Side → Side → ℕ → ℕ → Reply Reader
ready f W H L n = set_up_reply f W H L (set_up_question f W H L n)

pub record SetUp (f : ℕ) (W H : Side) (L n : ℕ) (x : Memory) (s : List ℕ) : Type 0 where
  pub answer : ReaderSetUpAsks f W H L n (number (ready f W H L n))
  pub passes : number (ready f W H L n) ≡ 0 ↔ Width W.length × Height H.length × Known f × Levels f L × (needed f W L ≤ n)
  pub store : Kept (number (ready f W H L n)) x (set_up_store f W L (set_up_question f W H L n) x)
  pub array : Kept (number (ready f W H L n)) s (c.state_of (ready f W H L n) s)
  pub passed : number (ready f W H L n) ≡ 0 → Zeroed (needed f W L) x (set_up_store f W L (set_up_question f W H L n) x)

-- ---- Rattle's calls. 14: "Here a no zeroes the needed line store and ends the reader, in a feed or a draw, with the output untouched"
-- a run v of m numbers; q is the question that turns the feed away
pub record Feed (r : Reader) (n : ℕ) (x : Memory) (m : ℕ) (v : Memory) (q : ℕ) : Type 0 where
  pub answer : number (feed_reply r q) ≡ q
  -- of a reader with levels to work out
  pub asks : (r.levels ≡ 0 → ⊥) → FeedAsks r n x m v q
  pub store : KeptBut14 q x (feed_store r q v x)
  pub ended : q ≡ 14 → feed_reply r q ≡ impossible (ended_reader r)
  pub zeroed : q ≡ 14 → Zeroed (own r) x (feed_store r q v x)

-- into an area that holds z
pub record Draw (r : Reader) (x z : Memory) (q : ℕ) : Type 0 where
  pub answer : number (draw_reply r q) ≡ q
  pub store : KeptBut14 q x (draw_store r q x)
  pub area : Kept q z (draw_area r q x z)
  pub ended : q ≡ 14 → draw_reply r q ≡ impossible (ended_reader r)
  pub zeroed : q ≡ 14 → Zeroed (own r) x (draw_store r q x)

-- ---- C's: an array that holds no reader gives 1; `want` and `drawn` held z
pub record CWant (s z : List ℕ) : Type 0 where
  pub other : is_reader s ≡ false → number (c.wanting s) ≡ 1
  pub answer : is_reader s ≡ true → number (c.wanting s) ≡ want_question (reader_of s)
  pub want : Kept (number (c.wanting s)) z (c.want_of (c.wanting s) z)

pub record CFeed (s : List ℕ) (n : ℕ) (x : Memory) (m : ℕ) (v : Memory) : Type 0 where
  pub other : is_reader s ≡ false → number (c.feeding s n x m v) ≡ 1
  pub answer : is_reader s ≡ true → number (c.feeding s n x m v) ≡ feed_question (reader_of s) n x m v
  pub array : KeptBut14 (number (c.feeding s n x m v)) s (c.state_of (c.feeding s n x m v) s)
  pub store : KeptBut14 (number (c.feeding s n x m v)) x (c.feeding_store s n x m v)
  pub ended : number (c.feeding s n x m v) ≡ 14 → c.state_of (c.feeding s n x m v) s ≡ reader_words (ended_reader (reader_of s))
  pub zeroed : number (c.feeding s n x m v) ≡ 14 → Zeroed (own (reader_of s)) x (c.feeding_store s n x m v)

pub record CDraw (s : List ℕ) (n : ℕ) (x : Memory) (m : ℕ) (y : Memory) (z : ℕ) : Type 0 where
  pub other : is_reader s ≡ false → number (c.drawing s n x m) ≡ 1
  pub answer : is_reader s ≡ true → number (c.drawing s n x m) ≡ draw_question (reader_of s) n x m
  pub array : KeptBut14 (number (c.drawing s n x m)) s (c.state_drawn (c.drawing s n x m) s)
  pub store : KeptBut14 (number (c.drawing s n x m)) x (c.drawing_store s n x m)
  pub area : Kept (number (c.drawing s n x m)) y (c.drawing_area s n x m y)
  pub drawn : Kept (number (c.drawing s n x m)) z (count_of (c.drawing s n x m) z)
  pub ended : number (c.drawing s n x m) ≡ 14 → c.state_drawn (c.drawing s n x m) s ≡ reader_words (ended_reader (reader_of s))
  pub zeroed : number (c.drawing s n x m) ≡ 14 → Zeroed (own (reader_of s)) x (c.drawing_store s n x m)

-- for every argument, and whatever stands in state and store
pub record ReaderCalls : Type 0 where
  pub set-up : (f : ℕ) (W H : Side) (L n : ℕ) (x : Memory) (s : List ℕ) → SetUp f W H L n x s
  pub want : (r : Reader) → number (want_reply r (want_question r)) ≡ want_question r
  pub feed : (r : Reader) (n : ℕ) (x : Memory) (m : ℕ) (v : Memory) → Feed r n x m v (feed_question r n x m v)
  pub draw : (r : Reader) (n : ℕ) (x : Memory) (m : ℕ) (z : Memory) → Draw r x z (draw_question r n x m)
  pub c_want : (s z : List ℕ) → CWant s z
  pub c_feed : (s : List ℕ) (n : ℕ) (x : Memory) (m : ℕ) (v : Memory) → CFeed s n x m v
  pub c_draw : (s : List ℕ) (n : ℕ) (x : Memory) (m : ℕ) (y : Memory) (z : ℕ) → CDraw s n x m y z
  -- "Every lent area may be longer than needed; the surplus is untouched."
  pub feed_surplus : (r : Reader) (n : ℕ) (x : Memory) (m : ℕ) (v : Memory) → Surplus (own r) x (feed_store r (feed_question r n x m v) v x)
  pub draw_surplus : (r : Reader) (n : ℕ) (x : Memory) (m : ℕ) → Surplus (own r) x (draw_store r (draw_question r n x m) x)
