-- Demand 1 of the writer's calls, and of the C calls on a writer. n is the length of the line store, x what stands in it, w the writer, s C's state array.
-- Of Rattle's calls the writer is a value: an answer that names a question holds none, so the caller's stays.
use Rattle.std.specs.Prelude.{◌≡◌, true, false, List, ◌↔◌, ℕ, ◌≤◌, length}
use Rattle.numbers.specs.Signal.{pick}
use Rattle.lifting.specs.Grid.{Side}
use Rattle.wavelet.specs.Asks.{Width, Known, Levels, needed}
use Rattle.level.specs.Level.{Memory}
use Rattle.filters.specs.Figures.{store_by, writer_store_by, streamable}
use Rattle.writer.specs.declared.Writer.{Writer}
use Rattle.writer.specs.Taking.{columns_of}
use Rattle.writer.specs.Asks.{writer_needed, WriterSetUpAsks}
use Rattle.writer.specs.Questions.{offer_question, draw_question, waits_question, finish_question}
use Rattle.writer.specs.Calls.{set_up_reply, set_up_store, offer_reply, offer_store, draw_reply, draw_store, draw_area, waits_reply, finish_reply, finish_store}
use Rattle.calls.specs.Lists.{seen}
use Rattle.writer.specs.Runs.{progress, run_of, run_turned, run_reply, left_by}
use Rattle.states.specs.WriterAnswers.{number, taken_of, row_of, ran_words, counts_of}
use Rattle.states.specs.WriterState.{is_writer, writer_of}
use Rattle.terrain.specs.WriterCalls as c
use Rattle.demand_1.specs.Words.{Kept, Zeroed, Surplus}

-- the numbers of the line store that a writer needs
abbrev pub own : Writer → ℕ
own w = writer_needed w.filter (columns_of w) w.levels

-- of the filter f, the columns W and L levels, the rows starting at y; in C the state array held s
pub record SetUp (f : ℕ) (W : Side) (y L n : ℕ) (x : Memory) (s : List ℕ) : Type 0 where
  pub answer : WriterSetUpAsks f W L n (number (set_up_reply f W y L n))
  pub passes : number (set_up_reply f W y L n) ≡ 0 ↔ Width W.length × Known f × Levels f L × (writer_needed f W L ≤ n)
  pub store : Kept (number (set_up_reply f W y L n)) x (set_up_store f W L n x)
  pub array : Kept (number (set_up_reply f W y L n)) s (c.state_of (set_up_reply f W y L n) s)
  pub passed : number (set_up_reply f W y L n) ≡ 0 → Zeroed (writer_needed f W L) x (set_up_store f W L n x)

-- ---- Rattle's calls
pub record Offer (w : Writer) (n : ℕ) (run : List ℕ) (x : Memory) : Type 0 where
  pub answer : number (offer_reply w n run x) ≡ offer_question w n (length run)
  pub store : Kept (number (offer_reply w n run x)) x (offer_store w n run x)
  pub surplus : Surplus (own w) x (offer_store w n run x)

-- into an area of k numbers that holds z
pub record Draw (w : Writer) (n k : ℕ) (x z : Memory) : Type 0 where
  pub answer : number (draw_reply w n k x) ≡ draw_question w n k
  pub store : Kept (number (draw_reply w n k x)) x (draw_store w n k x)
  pub area : Kept (number (draw_reply w n k x)) z (draw_area w n k x z)
  pub surplus : Surplus (own w) x (draw_store w n k x)

pub record Finish (w : Writer) (n : ℕ) (x : Memory) : Type 0 where
  pub answer : number (finish_reply w n x) ≡ finish_question w n
  pub store : Kept (number (finish_reply w n x)) x (finish_store w n x)
  pub surplus : Surplus (own w) x (finish_store w n x)

-- a run of the heights hs, into an area of k numbers that holds z and an area for names that holds l
pub record Many (w : Writer) (n : ℕ) (hs : List ℕ) (k : ℕ) (x z : Memory) (l : List ℕ) : Type 0 where
  pub answer : number (run_reply w n hs k x z l) ≡ run_turned w n hs (run_of w n hs k x z l)
  pub store : Kept (number (run_reply w n hs k x z l)) x (left_by (λ p. p.world.store) x (run_reply w n hs k x z l))
  pub area : Kept (number (run_reply w n hs k x z l)) z (left_by (λ p. p.area) z (run_reply w n hs k x z l))
  pub names : Kept (number (run_reply w n hs k x z l)) l (left_by (λ p. p.names) l (run_reply w n hs k x z l))
  pub surplus : Surplus (own w) x (left_by (λ p. p.world.store) x (run_reply w n hs k x z l))

-- ---- C's: an array that holds no writer gives 1; `taken` and `row` held z
pub record COffer (s : List ℕ) (n : ℕ) (run : List ℕ) (x : Memory) (z : ℕ) : Type 0 where
  pub other : is_writer s ≡ false → number (c.offered s n run x) ≡ 1
  pub answer : is_writer s ≡ true → number (c.offered s n run x) ≡ offer_question (writer_of s) n (length run)
  pub array : Kept (number (c.offered s n run x)) s (c.state_took (c.offered s n run x) s)
  pub store : Kept (number (c.offered s n run x)) x (c.offered_store s n run x)
  pub taken : Kept (number (c.offered s n run x)) z (taken_of (c.offered s n run x) z)

pub record CDraw (s : List ℕ) (n k : ℕ) (x y : Memory) (z : List ℕ) : Type 0 where
  pub other : is_writer s ≡ false → number (c.drawn s n k x) ≡ 1
  pub answer : is_writer s ≡ true → number (c.drawn s n k x) ≡ draw_question (writer_of s) n k
  pub array : Kept (number (c.drawn s n k x)) s (c.state_handed (c.drawn s n k x) s)
  pub store : Kept (number (c.drawn s n k x)) x (c.drawn_store s n k x)
  pub area : Kept (number (c.drawn s n k x)) y (c.drawn_area s n k x y)
  pub row : Kept (number (c.drawn s n k x)) z (row_of (c.drawn s n k x) z)

-- a look at what waits is lent the array to read only
pub record CLook (s z : List ℕ) : Type 0 where
  pub other : is_writer s ≡ false → number (c.waiting s) ≡ 1
  pub answer : is_writer s ≡ true → number (c.waiting s) ≡ waits_question (writer_of s)
  pub row : Kept (number (c.waiting s)) z (c.look_of (c.waiting s) z)

pub record CFinish (s : List ℕ) (n : ℕ) (x : Memory) : Type 0 where
  pub other : is_writer s ≡ false → number (c.finished s n x) ≡ 1
  pub answer : is_writer s ≡ true → number (c.finished s n x) ≡ finish_question (writer_of s) n
  pub array : Kept (number (c.finished s n x)) s (c.state_of (c.finished s n x) s)
  pub store : Kept (number (c.finished s n x)) x (c.finished_store s n x)

-- `counts` held y
pub record CMany (s : List ℕ) (n : ℕ) (hs : List ℕ) (k : ℕ) (x z : Memory) (l y : List ℕ) : Type 0 where
  pub same : number (seen progress (c.ran s n hs k x z l)) ≡ number (c.ran s n hs k x z l)
  pub other : is_writer s ≡ false → number (c.ran s n hs k x z l) ≡ 1
  pub answer : is_writer s ≡ true → number (c.ran s n hs k x z l) ≡ run_turned (writer_of s) n hs (run_of (writer_of s) n hs k x z l)
  pub array : Kept (number (c.ran s n hs k x z l)) s (ran_words (seen progress (c.ran s n hs k x z l)) s)
  pub store : Kept (number (c.ran s n hs k x z l)) x (left_by (λ p. p.world.store) x (c.ran s n hs k x z l))
  pub area : Kept (number (c.ran s n hs k x z l)) z (left_by (λ p. p.area) z (c.ran s n hs k x z l))
  pub names : Kept (number (c.ran s n hs k x z l)) l (left_by (λ p. p.names) l (c.ran s n hs k x z l))
  pub counts : Kept (number (c.ran s n hs k x z l)) y (counts_of (seen progress (c.ran s n hs k x z l)) y)

-- the numbers that a line store needs, as `terrain_store_length` tells a writer's and `terrain_reader_store_length` a reader's: 0 where a set-up would give
-- 2, 18 or 4
abbrev pub writer_numbers : ℕ → Side → ℕ → ℕ
writer_numbers f W L = pick (streamable f W L) (writer_store_by f W L) 0

abbrev pub store_numbers : ℕ → Side → ℕ → ℕ
store_numbers f W L = pick (streamable f W L) (store_by f W L) 0

pub record StoreLength (f : ℕ) (W : Side) (L : ℕ) : Type 0 where
  pub writer_sized : Width W.length × Known f × Levels f L → writer_numbers f W L ≡ writer_needed f W L
  pub writer_none : (Width W.length × Known f × Levels f L → ⊥) → writer_numbers f W L ≡ 0
  pub sized : Width W.length × Known f × Levels f L → store_numbers f W L ≡ needed f W L
  pub none : (Width W.length × Known f × Levels f L → ⊥) → store_numbers f W L ≡ 0

-- for every argument, and whatever stands in state and store
pub record WriterCalls : Type 0 where
  pub store-length : (f : ℕ) (W : Side) (L : ℕ) → StoreLength f W L
  pub set-up : (f : ℕ) (W : Side) (y L n : ℕ) (x : Memory) (s : List ℕ) → SetUp f W y L n x s
  pub offer : (w : Writer) (n : ℕ) (run : List ℕ) (x : Memory) → Offer w n run x
  pub draw : (w : Writer) (n k : ℕ) (x z : Memory) → Draw w n k x z
  pub look : (w : Writer) → number (waits_reply w) ≡ waits_question w
  pub finish : (w : Writer) (n : ℕ) (x : Memory) → Finish w n x
  pub c_offer : (s : List ℕ) (n : ℕ) (run : List ℕ) (x : Memory) (z : ℕ) → COffer s n run x z
  pub c_draw : (s : List ℕ) (n k : ℕ) (x y : Memory) (z : List ℕ) → CDraw s n k x y z
  pub c_look : (s z : List ℕ) → CLook s z
  pub c_finish : (s : List ℕ) (n : ℕ) (x : Memory) → CFinish s n x
  pub many : (w : Writer) (n : ℕ) (hs : List ℕ) (k : ℕ) (x z : Memory) (l : List ℕ) → Many w n hs k x z l
  pub c_many : (s : List ℕ) (n : ℕ) (hs : List ℕ) (k : ℕ) (x z : Memory) (l y : List ℕ) → CMany s n hs k x z l y
