-- A run is a list of the calls that stand, `run_calls`: what it answers and leaves, by what is seen of these calls. And lists of runs and of single calls, as
-- the calls that stand: of every list of those demand 3 holds, and so of these.
use Rattle.std.specs.Prelude.{◌≡◌, Bool, true, false, List, [], ◌∷◌, ◌++◌, ℕ, zero, suc, ◌+◌, ◌≤◌, ℤ, length}
use Rattle.numbers.specs.Signal.{pick, both, spliced}
use Rattle.calls.specs.Lists.{gives, refused, Area, gathered}
use Rattle.reader.specs.Demand3.{Call, heights, nothing, Event, wanted, fed, drew, World, events, final, goes_on, ends}
use Rattle.reader.specs.Runs.{Run, run_calls, run_turned}

-- ---- by the events alone: the runs of the feeds that passed, the height rows of the draws that gave one
unfoldable pub run_fed : Event → List Area
run_fed (wanted v) = []
run_fed (fed a (gives u)) = a ∷ []
run_fed (fed a (refused q)) = []
run_fed (drew a v b) = []

abbrev pub runs_fed : List Event → List Area
runs_fed = gathered run_fed

unfoldable pub row_drawn : Event → List Area
row_drawn (wanted v) = []
row_drawn (fed a v) = []
row_drawn (drew a (gives (heights m)) b) = record { size = m; numbers = b.numbers } ∷ []
row_drawn (drew a (gives nothing) b) = []
row_drawn (drew a (refused q) b) = []

abbrev pub rows_drawn : List Event → List Area
rows_drawn = gathered row_drawn

-- their numbers one after the other, from place o on, in place of those of z; and how many they are
unfoldable pub laid : ℕ → List Area → (ℕ → ℤ) → ℕ → ℤ
laid o [] z = z
laid o (a ∷ l) z = laid (o + a.size) l (spliced o a.size a.numbers z)

unfoldable pub total : List Area → ℕ
total [] = 0
total (a ∷ l) = a.size + total l

-- each of them passed, a draw with a row; but the last may have given 14
abbrev pub no_more : List Event → Bool
no_more [] = true
no_more (e ∷ es) = false

unfoldable pub all_pass : List Event → Bool
all_pass [] = true
all_pass (e ∷ es) = pick (goes_on e) (all_pass es) (both (ends e) (no_more es))

-- a run of the m numbers v came to r; z stood in the output area, w is the world before it and cs are its calls
pub record IsList (w : World) (m : ℕ) (v z : ℕ → ℤ) (cs : List Call) (r : Run) : Type 0 where
  pub world : final cs w ≡ r.world
  pub pass : all_pass (events cs w) ≡ true
  -- the runs fed are the first of the numbers that were lent, as many as were used
  pub used : total (runs_fed (events cs w)) ≡ r.used
  pub few : r.used ≤ m
  pub numbers : laid 0 (runs_fed (events cs w)) v ≡ v
  pub rows : length (rows_drawn (events cs w)) ≡ r.rows
  pub area : laid 0 (rows_drawn (events cs w)) z ≡ r.area

-- ---- a single call, or a run lent a store of n numbers, a run of numbers and an output area
pub data Piece : Type 0 where
  single : Call → Piece
  many : ℕ → Area → Area → Piece

-- the calls that it makes; q is the question that turns a run away, and one that is turned away makes none
abbrev pub unless_turned : ℕ → List Call → List Call
unless_turned zero cs = cs
unless_turned (suc q) cs = []

unfoldable pub calls_of : Piece → World → List Call
calls_of (single c) w = c ∷ []
calls_of (many n v a) w =
    unless_turned (run_turned w.reader n v.size v.numbers a.size w.store a.numbers)
    (run_calls w.reader n v.size v.numbers a.size w.store a.numbers)

unfoldable pub all_calls : List Piece → World → List Call
all_calls [] w = []
all_calls (p ∷ ps) w = calls_of p w ++ all_calls ps (final (calls_of p w) w)
