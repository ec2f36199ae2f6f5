-- What the private functions of a run require and leave. Nothing here needs to be believed.
use Rattle.std.specs.Prelude.{◌≡◌, Bool, true, false, List, ℕ, suc, ◌+◌, ◌<◌, ◌≤◌, length}
use Rattle.level.specs.Level.{Memory}
use Rattle.writer.specs.declared.Writer.{Writer}
use Rattle.writer.specs.declared.BandRow.{BandRow}
use Rattle.writer.specs.declared.draws.PlacedRow.{PlacedRow}
use Rattle.writer.specs.declared.runs.Counts.{Counts}
use Rattle.writer.specs.FirstQuestions.{state_question}
use Rattle.writer.specs.Runs.{Run, due, after_call, ran}

-- the writer with i bands left
abbrev pub with_left : Writer → ℕ → Writer
with_left s i = record {
  x = s.x;
  y = s.y;
  width = s.width;
  levels = s.levels;
  rows = s.rows;
  column = s.column;
  finished = s.finished;
  closed = s.closed;
  level = s.level;
  left = i;
  offset = s.offset;
  filter = s.filter;
}

-- a row as a draw answers it
abbrev pub row_at : PlacedRow → BandRow
row_at r = record { level = r.level; band = r.band; row = r.row; length = r.length }

-- a run that has come so far
abbrev pub run_at : Counts → Writer → Memory → Memory → List ℕ → Run
run_at d s x z l =
    record { world = record { writer = s; store = x }; taken = d.taken; rows = d.rows; numbers = d.numbers; area = z; names = l }

abbrev pub one_more : Counts → ℕ → Counts
one_more d i = record { taken = d.taken; rows = d.rows + 1; numbers = d.numbers + i }

-- j calls from p to r
pub data Steps (n : ℕ) (hs : List ℕ) (k m : ℕ) : ℕ → Run → Run → Type 0 where
  stay : {p : Run} → Steps n hs k m 0 p p
  step : {j : ℕ} {p r : Run} → due n hs k m p ≡ true → Steps n hs k m j (after_call n hs k m p) r → Steps n hs k m (suc j) p r

-- some calls from p to r, each of which took a height or put a name
pub record Went (n : ℕ) (hs : List ℕ) (k m : ℕ) (p r : Run) : Type 0 where
  pub count : ℕ
  pub steps : Steps n hs k m count p r
  pub few : count + (p.taken + p.rows) ≤ r.taken + r.rows

-- a writer that passes questions 1 and 5, and numbers and names that have room
pub record Ready (n k m : ℕ) (p : Run) : Type 0 where
  pub sound : state_question p.world.writer n ≡ 0
  pub numbers : p.numbers ≤ k
  pub rows : p.rows ≤ m

-- draws alone: heights are neither taken nor looked at
pub record Draws (n k m : ℕ) (p r : Run) : Type 0 where
  pub went : (hs : List ℕ) → Went n hs k m p r
  pub ready : Ready n k m r
  pub taken : r.taken ≡ p.taken
  pub finished : r.world.writer.finished ≡ p.world.writer.finished

-- a turn of the run; e: it goes on
pub record Turned (n : ℕ) (hs : List ℕ) (k m : ℕ) (p r : Run) (e : Bool) : Type 0 where
  pub went : Went n hs k m p r
  pub ready : Ready n k m r
  pub taken : r.taken ≤ length hs
  pub finished : r.world.writer.finished ≡ p.world.writer.finished
  -- more is done, or nothing more is to be done
  pub more : e ≡ true → p.taken + p.rows < r.taken + r.rows
  pub ends : e ≡ false → due n hs k m r ≡ false

-- of the set that is being handed out
pub record SetDrawn (n k m : ℕ) (p r : Run) (e : Bool) : Type 0 where
  pub draws : Draws n k m p r
  pub more : e ≡ true → p.rows < r.rows
  pub ends : e ≡ false → (hs : List ℕ) → due n hs k m r ≡ false

-- a run that is over, from p
pub record Over (n : ℕ) (hs : List ℕ) (k m : ℕ) (p r : Run) : Type 0 where
  pub is : r ≡ ran n hs k m (length hs + m) p
  pub taken : r.taken ≤ length hs
  pub rows : r.rows ≤ m
  -- it made a call, or left everything
  pub none : r.taken + r.rows ≡ 0 → r ≡ p
