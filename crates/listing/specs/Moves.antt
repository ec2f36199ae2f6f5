-- What a listing does, move by move: the bytes that each move reads of the input and those it writes. n and k are the lengths of line store and row area.
-- proofs/ListingTheorem: whatever the calls, the bytes written are `due_of` the bytes read, and after the end of the input `listing_of` them.
use Rattle.std.specs.Prelude.{Bool, false, ◌≡◌, List, [], ◌∷◌, ◌++◌, ℕ, ◌+◌, ◌*◌, ◌≤◌, ◌<◌, length, take, drop}
use Rattle.pgm.specs.Runs.{sample_size, heights_of}
use Rattle.calls.specs.Lists.{gives}
use Rattle.writer.specs.Answers.{Took}
use Rattle.level.specs.Level.{Memory}
use Rattle.writer.specs.Calls.{offer_reply, offer_store}
use Rattle.pgm.specs.InputSteps.{heights_came}
use Rattle.text.specs.Text.{Wrote}
use Rattle.text.specs.Moves as moves
use Rattle.listing.specs.Parts.{part_text, start_of, left_of, done_part}
use Rattle.listing.specs.States.{State, state_of, listed, draw_state, read_state, advance_state}
use Rattle.listing.specs.declared.line.Line.{Line}
use Rattle.listing.specs.declared.listing.Listing.{Listing}

abbrev pub line_on : State → Line
line_on s = s.listing.line

-- the largest value of a sample
abbrev pub largest_on : State → ℕ
largest_on s = s.listing.input.samples.largest

-- no line is being written
abbrev pub Idle : State → Type 0
Idle s = (line_on s).part ≡ 0

-- the text of the line's part, and what is left of it
abbrev pub text_on : ℕ → State → List ℕ
text_on k s = part_text k s.row (line_on s)

abbrev pub left_on : ℕ → State → List ℕ
left_on k s = left_of (text_on k s) (line_on s).done

-- m bytes more of the part are written, not all of it
abbrev pub written_on : ℕ → ℕ → State → State
written_on k m s =
    state_of (listed s.listing.input s.listing.writer (done_part (line_on s) (start_of (length (text_on k s)) (line_on s).done + m))) s.store s.row

-- ---- the moves from state s to s': u is read, t is written
pub data Move (n k : ℕ) (s : State) (u t : List ℕ) (s' : State) : Type 0 where
  -- a part of the line is written as far as m bytes go
  partly : (m : ℕ) → 0 < (line_on s).part → m < length (left_on k s) → u ≡ [] → t ≡ take m (left_on k s) → s' ≡ written_on k m s → Move n k s u t s'
  -- it is written to its end
  wholly : 0 < (line_on s).part → u ≡ [] → t ≡ left_on k s → s' ≡ advance_state n k s → Move n k s u t s'
  -- a byte is read
  read_byte : (b : ℕ) → Idle s → u ≡ b ∷ [] → t ≡ [] → s' ≡ read_state n k b s → Move n k s u t s'
  -- heights that came together are offered together, and the writer takes some of them
  takes : (bytes : List ℕ) (j : Took) → Idle s → s.listing.input.phase ≡ 3 → s.listing.input.samples.half ≡ false
      → length (heights_of (largest_on s) bytes) ≤ s.listing.input.left
      → offer_reply s.listing.writer n (heights_of (largest_on s) bytes) s.store ≡ gives j → 0 < j.taken
      → u ≡ take (sample_size (largest_on s) * j.taken) bytes → t ≡ []
      → s' ≡ draw_state n k (heights_came j.taken s.listing.input) j.writer
      (offer_store s.listing.writer n (heights_of (largest_on s) bytes) s.store) s.row
      → Move n k s u t s'

-- any number of moves, one after the other (text/specs/Moves)
abbrev pub Goes : ℕ → ℕ → State → List ℕ → List ℕ → State → Type 0
Goes n k = moves.Goes (Move n k)

-- ---- the calls
-- bytes of the piece p are read, from place a to a', at least one
pub record Reads (n k : ℕ) (s : State) (p : List ℕ) (a a' : ℕ) (s' : State) : Type 0 where
  pub bytes : List ℕ
  pub goes : Goes n k s bytes [] s'
  pub read : drop a p ≡ bytes ++ drop a' p
  pub used : a' ≡ a + length bytes
  pub part : a' ≤ length p
  pub some : a < a'

-- text is written into the area o from place b to b', at least one byte; o' stands there then
pub record Writes (n k : ℕ) (s : State) (o o' : List ℕ) (b b' : ℕ) (s' : State) : Type 0 where
  pub text : List ℕ
  pub goes : Goes n k s [] text s'
  pub wrote : Wrote text b b' o o'
  pub some : b < b'

-- the same, the line store being whatever it is
abbrev pub WritesOnly : ℕ → Listing → Memory → List ℕ → List ℕ → ℕ → ℕ → Listing → Type 0
WritesOnly k l z o o' b b' l' = (n : ℕ) (x : Memory) → Writes n k (state_of l x z) o o' b b' (state_of l' x z)

-- a call, its piece, its area and its places, and where it stops (text/specs/Moves)
abbrev pub Went : ℕ → ℕ → State → List ℕ → ℕ → ℕ → List ℕ → List ℕ → ℕ → ℕ → State → Type 0
Went n k = moves.Went (Move n k)

-- 0 where no line is being written
abbrev pub busy_on : State → ℕ
busy_on s = (line_on s).part

abbrev pub Stops : State → List ℕ → ℕ → List ℕ → ℕ → Bool → Type 0
Stops = moves.Stops busy_on

-- ---- any calls, one after the other: u is all that was read of the pieces, t all that was written
abbrev pub Session : ℕ → ℕ → State → List ℕ → List ℕ → State → Type 0
Session n k = moves.Session (Move n k)
