-- What the private functions of a run require and ensure of each other. No public contract cites it.
use Rattle.std.specs.Prelude.{Option, Some, None, Result, ◌≡◌, Bool, true, false, ℕ, zero, suc, ◌+◌, ◌-◌, ◌*◌, ◌≤◌, ◌<◌, ℤ, leb, ltb}
use Rattle.numbers.specs.Signal.{pick, both}
use Rattle.refusal.specs.declared.Refusal.{Refusal}
use Rattle.refusal.specs.Numbers.{answer}
use Rattle.lifting.specs.Grid.{Side}
use Rattle.lifting.specs.Halves.{fronted}
use Rattle.level.specs.Tried.{failed, passed}
use Rattle.reader_steps.specs.Sets.{ahead, needed}
use Rattle.reader_steps.specs.Places as machine
use Rattle.reader.specs.declared.Reader.{Reader}
use Rattle.reader.specs.declared.walk.Level.{Level}
use Rattle.reader.specs.declared.run_steps.Place.{Place}
use Rattle.reader.specs.declared.runs.Tally.{Tally}
use Rattle.reader.specs.Store.{zeroed}
use Rattle.reader.specs.State.{needs, settles, feeds, fed_reader, drawn_reader, ended_reader}
use Rattle.reader.specs.Calls.{height_row}
use Rattle.reader.specs.Inside.{Collected, IsLevel}
use Rattle.reader.specs.Questions.{counts_fit}
use Rattle.reader.specs.Reading as reading
use Rattle.reader.specs.Runs.{Run, drawable, due, after_call, ran, turned_by, most}

-- ---- a reader at a place
abbrev pub reader_at : Reader → Place → Reader
reader_at s p = record {
  width = s.width;
  height = s.height;
  levels = s.levels;
  x = s.x;
  y = s.y;
  drawn = p.drawn;
  level = p.level;
  back = p.back;
  band = p.band;
  ended = p.ended;
  filter = s.filter;
  stop = s.stop;
  spare = s.spare;
  admission = s.admission;
}

-- l is its own level, if rows are collected
abbrev pub Own : Reader → Level → Type 0
Own s l = 0 < s.level → Collected s l

-- its other numbers are those of a reader that passes question 1
pub record Formed (s : Reader) : Type 0 where
  pub of : Reader
  pub place : Place
  pub fits : counts_fit of ≡ true
  pub is : s ≡ reader_at of place

-- the ranges of what calls change of it
unfoldable pub place_fits : Reader → Bool
place_fits s =
    both (leb s.drawn s.height)
    (both (leb s.level s.levels)
    (both (leb s.band 4)
    (leb s.back (2 * ahead s.filter - 1))))

-- p is the place of q while row d is waited for, with its level
pub record IsPlace (f : ℕ) (W H : Side) (d : ℕ) (q : machine.Spot) (p : Place) : Type 0 where
  pub drawn : p.drawn ≡ d
  pub level : p.level ≡ q.level
  pub back : p.back ≡ needed f H 0 d q.level - q.set
  pub band : p.band ≡ q.band
  pub ended : p.ended ≡ false
  pub at : 0 < p.level → IsLevel f W H d (p.level - 1) p.at × (p.at.set ≡ needed f H 0 d p.level - p.back)

-- the row wanted fed with the numbers v, or a height row drawn, on the store x, which then holds y, into the area z, which then holds z'
pub record FedTo (s : Reader) (v x y : ℕ → ℤ) (p : Place) : Type 0 where
  pub passes : p.ended ≡ false → (passed y ≡ feeds s v x) × (reader_at s p ≡ fed_reader s)
  pub ends : p.ended ≡ true → (failed ≡ feeds s v x) × (reader_at s p ≡ ended_reader s) × (y ≡ zeroed (needs s) x)
  pub own : Own (reader_at s p) p.at

pub record DrawnTo (s : Reader) (x y z z' : ℕ → ℤ) (p : Place) : Type 0 where
  pub passes : p.ended ≡ false → (passed y ≡ settles s x) × (reader_at s p ≡ drawn_reader s) × (z' ≡ fronted s.width (height_row s y) z)
  pub ends : p.ended ≡ true → (failed ≡ settles s x) × (reader_at s p ≡ ended_reader s) × (y ≡ zeroed (needs s) x) × (z' ≡ z)
  pub own : Own (reader_at s p) p.at

-- ---- a run
abbrev pub run_at : Tally → Reader → (ℕ → ℤ) → (ℕ → ℤ) → Run
run_at d s x z = record { world = record { reader = s; store = x }; used = d.used; rows = d.rows; area = z }

-- what is left of the numbers, of the rows, and of the reader's life: each call takes of it
abbrev pub life : Bool → ℕ
life true = 0
life false = 1

abbrev pub left_of : ℕ → Run → ℕ
left_of m p = (m - p.used) + (p.world.reader.height - p.world.reader.drawn) + life p.world.reader.ended

-- some calls of it
pub data Steps (n m : ℕ) (v : ℕ → ℤ) (k : ℕ) : ℕ → Run → Run → Type 0 where
  stay : {p : Run} → Steps n m v k zero p p
  step : {j : ℕ} {p r : Run} → due n m v k p ≡ true → Steps n m v k j (after_call n m v k p) r → Steps n m v k (suc j) p r

-- as many as of what is left was taken
pub record Went (n m : ℕ) (v : ℕ → ℤ) (k : ℕ) (p r : Run) : Type 0 where
  pub count : ℕ
  pub steps : Steps n m v k count p r
  pub few : count + left_of m r ≤ left_of m p

-- a question of a feed, where there are m numbers
abbrev pub where_some : ℕ → ℕ → ℕ
where_some q zero = 0
where_some q (suc m) = q

-- the question that turns a run away at its beginning
abbrev pub refusal : ℕ → ℕ → (ℕ → ℤ) → ℕ → Run → ℕ
refusal n m v k p = pick (pick (drawable p.world.reader) true (ltb 0 m)) (turned_by n m v k p) 0

-- the question that turns the next call away once a run is over, 0: none
abbrev pub told : {A : Type 0} → Option (Result A Refusal) → ℕ
told None = 0
told (Some r) = answer r

-- a turn: a call, or none; e: the run goes on; q: the question that turns the next call away, of a state that passes question 1
pub record Turned (n m : ℕ) (v : ℕ → ℤ) (k : ℕ) (p r : Run) (e : Bool) (q : ℕ) : Type 0 where
  pub more : e ≡ true → (due n m v k p ≡ true) × (after_call n m v k p ≡ r) × (left_of m r < left_of m p)
  pub ends : e ≡ false → (due n m v k p ≡ false) × (r ≡ p)
  pub says : e ≡ false → reading.counts_fit p.world.reader ≡ true → p.world.reader.ended ≡ false → q ≡ refusal n m v k p
  -- something was done
  pub shows : e ≡ true → r.world.reader.ended ≡ false → p.used + p.rows < r.used + r.rows
  pub used : r.used ≤ m
  pub put : r.rows * r.world.reader.width ≤ k

-- a run that is over, from p
pub record Over (n m : ℕ) (v : ℕ → ℤ) (k : ℕ) (p r : Run) (q : ℕ) : Type 0 where
  pub is : r ≡ ran n m v k (most p.world.reader m) p
  -- it made a call, or left everything
  pub none : r.used + r.rows ≡ 0 → r.world.reader.ended ≡ false → (r ≡ p) × (reading.counts_fit p.world.reader ≡ true → q ≡ refusal n m v k p)
  -- a run that made a call was not turned away
  pub some : (r.used + r.rows ≡ 0 → r.world.reader.ended ≡ true) → refusal n m v k p ≡ 0
