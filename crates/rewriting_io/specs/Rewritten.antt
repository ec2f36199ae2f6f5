-- The rewriting as a machine of rounds, and what its program promises. No contract can say what is read or written, so the promise is that there was a
-- run: rounds as rounds/specs/Rounds has them, on a row area in which every row has room. What is written in it is proofs/RewrittenTheorem's to say.
use Rattle.std.specs.Prelude.{◌≡◌, Bool, List, ℕ, ◌<◌, length}
use Rattle.pgm.specs.Limits.{max_picture_width}
use Rattle.picture.specs.Machine.{started, Kept, kept, Move, busy_on, end_kept}
use Rattle.rounds.specs.Machine.{Machine}
use Rattle.rounds.specs.Rounds.{Answers}

abbrev pub rewriting_machine : Machine Kept
rewriting_machine = record { Move = Move; busy = busy_on; phase = λ s. s.state.input.phase }

-- the program answers b; z stands in the row area at first
pub record Rewritten (b : Bool) : Type 0 where
  pub z : List ℕ
  pub row : length z ≡ max_picture_width
  pub A : ℕ
  pub area : 0 < A
  pub answers : Answers rewriting_machine A end_kept (kept started z) b
