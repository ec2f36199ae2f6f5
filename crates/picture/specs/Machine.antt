-- A rewriting with its row area z: what each byte makes of them, move by move, and the text that it owes: `owed`, what is left of the part that is being
-- written and all that further bytes bring. proofs/RewritingTheorem: from the start it is `due_of` of the bytes, and `rewriting_of` of an input that ends
-- with them.
use Rattle.std.specs.Prelude.{◌≡◌, Bool, List, [], ◌∷◌, ◌++◌, ℕ, ◌+◌, ◌≤◌, ◌<◌, leb, ltb, eqb, length, take, drop, set}
use Rattle.numbers.specs.Signal.{pick}
use Rattle.text.specs.Text.{Wrote}
use Rattle.text.specs.Moves.{Goes}
use Rattle.picture.specs.Form.{form_head, row_bytes}
use Rattle.text.specs.Refusal.{refused_line}
use Rattle.pgm.specs.InputSteps.{start_at, phased, read_byte, input_ended}
use Rattle.pgm.specs.declared.input.Input.{Input}
use Rattle.pgm.specs.StepAnswer.{StepAnswer}
use Rattle.pgm.specs.StepAnswer as steps
use Rattle.pgm.specs.EndedAnswer.{EndedAnswer}
use Rattle.pgm.specs.EndedAnswer as ended
use Rattle.picture.specs.declared.parts.Part.{Part}
use Rattle.picture.specs.declared.rewriting.Rewriting.{Rewriting}

-- ---- the parts
-- 1 the header, 2 a row, 3 the line of a refusal
abbrev pub part_of : ℕ → ℕ → Part
part_of k q = record { kind = k; number = q; done = 0 }

abbrev pub no_part : Part
no_part = part_of 0 0

unfoldable pub part_text : ℕ → ℕ → List ℕ → ℕ → ℕ → List ℕ
part_text W H z k q =
    pick (eqb k 1) (form_head W H)
    (pick (eqb k 2) (row_bytes (take W z))
    (pick (eqb k 3) (refused_line q)
    []))

-- of a W × H picture, f heights of the begun row in the row area
abbrev pub rewriting : Input → ℕ → ℕ → ℕ → Part → Rewriting
rewriting i W H f p = record { input = i; width = W; height = H; filled = f; part = p }

-- there is no line for the levels
abbrev pub started : Rewriting
started = rewriting (start_at 2) 0 0 0 no_part

-- the size stays
abbrev pub moved : Rewriting → Input → ℕ → Part → Rewriting
moved r i f p = rewriting i r.width r.height f p

abbrev pub text_on : Rewriting → List ℕ → List ℕ
text_on r z = part_text r.width r.height z r.part.kind r.part.number

-- what is left of the part
unfoldable pub left_on : Rewriting → List ℕ → List ℕ
left_on r z = drop r.part.done (text_on r z)

-- the part is written: after a row the next one begins
unfoldable pub settled : Rewriting → Rewriting
settled r = moved r r.input (pick (eqb r.part.kind 2) 0 r.filled) no_part

-- d bytes of the part are written
abbrev pub done_on : ℕ → Rewriting → Rewriting
done_on d r = moved r r.input r.filled (record { kind = r.part.kind; number = r.part.number; done = d })

-- ---- a byte
-- a rewriting and what stands in its row area
pub record Kept : Type 0 where
  pub state : Rewriting
  pub row : List ℕ

abbrev pub kept : Rewriting → List ℕ → Kept
kept r z = record { state = r; row = z }

-- a row is written once it is whole
unfoldable pub row_part : ℕ → ℕ → Part
row_part f w = pick (eqb f w) (part_of 2 0) no_part

-- the header of a W × H picture is read: `room` is how many heights the row area holds
unfoldable pub begun_on : Rewriting → Input → ℕ → ℕ → ℕ → Rewriting
begun_on r i W H room = pick (ltb room W) (moved r (phased 4 i) r.filled (part_of 3 5)) (rewriting i W H 0 (part_of 1 0))

-- a height goes to its place in the row area; a state that was made up may have none
unfoldable pub height_kept : Rewriting → Input → ℕ → List ℕ → Kept
height_kept r i v z =
    pick (leb (length z) r.filled)
    (kept (moved r (phased 4 i) r.filled (part_of 3 5)) z)
    (kept (moved r i (r.filled + 1) (row_part (r.filled + 1) r.width)) (set z r.filled v))

abbrev pub step_to : Rewriting → List ℕ → StepAnswer → Kept
step_to r z (steps.More i) = kept (moved r i r.filled no_part) z
step_to r z (steps.Begun i W H) = kept (begun_on r i W H (length z)) z
step_to r z (steps.Height i v) = height_kept r i v z
step_to r z (steps.No i q) = kept (moved r i r.filled (part_of 3 q)) z

unfoldable pub byte_read : Rewriting → List ℕ → ℕ → Kept
byte_read r z b = step_to r z (read_byte 0 r.input b)

-- ---- the end of the input
-- once nothing is being written
abbrev pub end_to : Rewriting → EndedAnswer → Rewriting
end_to r (ended.Whole i) = moved r i r.filled no_part
end_to r (ended.No15 i) = moved r i r.filled (part_of 3 15)
end_to r ended.Before = moved r r.input r.filled no_part

unfoldable pub end_of : Rewriting → Rewriting
end_of r = pick (eqb r.part.kind 0) (end_to r (input_ended r.input)) r

-- ---- the text owed
-- e: the input ends with these bytes; else more may come
unfoldable pub owed : Bool → Rewriting → List ℕ → List ℕ → List ℕ
owed e r z [] = left_on r z ++ pick e (left_on (end_of (settled r)) z) []
owed e r z (b ∷ u) = left_on r z ++ (let k = byte_read (settled r) z b in owed e k.state k.row u)

-- ---- the moves: u is read, t is written, and all else of state and row area is as it was
-- 0 where nothing is being written
abbrev pub busy_on : Kept → ℕ
busy_on s = s.state.part.kind

-- what is left of the part
abbrev pub left_in : Kept → List ℕ
left_in s = left_on s.state s.row

pub data Move (s : Kept) (u t : List ℕ) (s' : Kept) : Type 0 where
  -- m bytes of the part are written
  partly : (m : ℕ) → 0 < busy_on s → m ≤ length (left_in s) → u ≡ [] → t ≡ take m (left_in s)
      → s' ≡ kept (done_on (s.state.part.done + m) s.state) s.row → Move s u t s'
  -- it is written to its end
  wholly : 0 < busy_on s → u ≡ [] → t ≡ left_in s → s' ≡ kept (settled s.state) s.row → Move s u t s'
  -- a byte is read
  reads : (b : ℕ) → busy_on s ≡ 0 → u ≡ b ∷ [] → t ≡ [] → s' ≡ byte_read s.state s.row b → Move s u t s'

-- the end of the input leaves the row area as it was
abbrev pub end_kept : Kept → Kept
end_kept s = kept (end_of s.state) s.row

-- ---- the calls, whose piece, area and places are those of text/specs/Moves
-- text is written into the area o from place b to b', the row area z being only read: the part is written to its end, or all room is used
pub record Writes (r : Rewriting) (z o o' : List ℕ) (b b' : ℕ) (r' : Rewriting) : Type 0 where
  pub text : List ℕ
  pub goes : Goes Move (kept r z) [] text (kept r' z)
  pub wrote : Wrote text b b' o o'
  pub end : b' < length o → r' ≡ settled r

-- bytes of the piece p are read, from place a to a', at least one
pub record Reads (s : Kept) (p : List ℕ) (a a' : ℕ) (s' : Kept) : Type 0 where
  pub bytes : List ℕ
  pub goes : Goes Move s bytes [] s'
  pub read : drop a p ≡ bytes ++ drop a' p
  pub used : a' ≡ a + length bytes
  pub part : a' ≤ length p
  pub some : a < a'

-- 1 where nothing is being written
abbrev pub quiet : Kept → ℕ
quiet s = pick (eqb (busy_on s) 0) 1 0
