-- The listing as a machine of rounds, and what its program promises. No contract can say what is read or written, so the promise is that there was a run:
-- rounds as rounds/specs/Rounds has them, on a line store and a row area in which every map that is listed has room. What is written in it is
-- proofs/ListedTheorem's to say. n and k are the lengths of line store and row area.
use Rattle.std.specs.Prelude.{Bool, ℕ, ◌<◌}
use Rattle.level.specs.Level.{Memory}
use Rattle.pgm.specs.Limits.{max_picture_width}
use Rattle.listing.specs.States.{map_store, State, state_of, started, end_state}
use Rattle.listing.specs.Moves.{Move, busy_on}
use Rattle.rounds.specs.Machine.{Machine}
use Rattle.rounds.specs.Rounds.{Answers}

abbrev pub listing_machine : ℕ → ℕ → Machine State
listing_machine n k = record { Move = Move n k; busy = busy_on; phase = λ s. s.listing.input.phase }

-- the program answers b; x and z stand in line store and row area at first
pub record Listed (b : Bool) : Type 0 where
  pub x : Memory
  pub z : Memory
  pub A : ℕ
  pub area : 0 < A
  pub answers : Answers (listing_machine map_store max_picture_width) A (end_state map_store max_picture_width) (state_of started x z) b
