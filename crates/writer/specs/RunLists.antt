-- A run is a list of the calls that stand, `run_calls`: what it answers and leaves, by what is seen of these calls. And lists of runs and of single calls, as
-- the calls that stand: of every list of those demand 3 holds, and so of these.
use Rattle.std.specs.Prelude.{◌≡◌, List, [], ◌∷◌, ◌++◌, ℕ, zero, suc, ◌+◌, length, drop}
use Rattle.calls.specs.Lists.{Area}
use Rattle.level.specs.Level.{Memory, rest, join_at}
use Rattle.writer.specs.History.{Call, World, events, final, taken, DrawnRow, drawn}
use Rattle.writer.specs.Runs.{Run, run_calls, run_question}

-- the values of drawn rows one after the other in an area that held z, and how many they are; the rows' names in an area that held l
unfoldable pub laid : List DrawnRow → Memory → Memory
laid [] z = z
laid (d ∷ ds) z = join_at d.row.length d.values (laid ds (rest d.row.length z))

unfoldable pub total : List DrawnRow → ℕ
total [] = 0
total (d ∷ ds) = d.row.length + total ds

unfoldable pub listed : List DrawnRow → List ℕ → List ℕ
listed [] l = l
listed (d ∷ ds) l = d.row.level ∷ d.row.band ∷ d.row.row ∷ d.row.length ∷ listed ds (drop 4 l)

-- a run of the heights hs came to r; z stood in the output area and l in the area for names, w is the world before it and cs are its calls
pub record IsList (w : World) (hs : List ℕ) (z : Memory) (l : List ℕ) (cs : List Call) (r : Run) : Type 0 where
  pub world : final cs w ≡ r.world
  -- the heights taken, and then those that are left, are those that were lent
  pub heights : taken (events cs w) ++ drop r.taken hs ≡ hs
  pub taken : length (taken (events cs w)) ≡ r.taken
  pub rows : length (drawn (events cs w)) ≡ r.rows
  pub numbers : total (drawn (events cs w)) ≡ r.numbers
  pub area : laid (drawn (events cs w)) z ≡ r.area
  pub names : listed (drawn (events cs w)) l ≡ r.names

-- ---- a single call, or a run lent a store of n numbers, heights, an output area and an area for names
pub data Piece : Type 0 where
  single : Call → Piece
  many : ℕ → List ℕ → Area → List ℕ → Piece

-- the calls that it makes; q is what a run's questions say, and one that they turn away makes none
abbrev pub unless_turned : ℕ → List Call → List Call
unless_turned zero cs = cs
unless_turned (suc q) cs = []

unfoldable pub calls_of : Piece → World → List Call
calls_of (single c) w = c ∷ []
calls_of (many n hs a l) w =
    unless_turned (run_question w.writer n (length hs)) (run_calls w.writer n hs a.size w.store a.numbers l)

unfoldable pub all_calls : List Piece → World → List Call
all_calls [] w = []
all_calls (p ∷ ps) w = calls_of p w ++ all_calls ps (final (calls_of p w) w)
