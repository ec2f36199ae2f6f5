-- What the rewriting program writes, as a definition on the bytes of its input. Document 02, Q-7, with questions 15 and 16 as of the listing.
use Rattle.std.specs.Prelude.{◌≡◌, Bool, false, List, ◌++◌, ℕ, ◌*◌, ◌/◌, length, take, eqb}
use Rattle.numbers.specs.Signal.{pick}
use Rattle.text.specs.Refusal.{refused_line, answer_line}
use Rattle.pgm.specs.Header.{Read, found, short, wrong, and_then, Size, header_of}
use Rattle.pgm.specs.Limits.{size_fits}
use Rattle.pgm.specs.Heights.{heights_taken, too_large, bytes_of, refusal_in}
use Rattle.picture.specs.Form.{form_head, row_bytes}

unfoldable pub size_end : Size → List ℕ → Read Size
size_end z s = pick (size_fits z.width z.height) (found z s) wrong

-- "reads a PGM by the rules of Q-1, without the line for L"
unfoldable pub picture_of : List ℕ → Read Size
picture_of s = and_then (header_of s) size_end

-- ---- the heights: r is the bytes after the header
abbrev pub cells : Size → ℕ
cells z = z.width * z.height

abbrev pub heights_in : Size → List ℕ → List ℕ
heights_in z r = heights_taken z.largest (cells z) r

-- the header and the complete rows of some heights: "A refusal's line follows directly on the header, if that passed, and the complete rows before it."
unfoldable pub whole_rows : ℕ → List ℕ → List ℕ
whole_rows W hs = take (length hs / W * W) hs

unfoldable pub rows_of : Size → List ℕ → List ℕ
rows_of z hs = form_head z.width z.height ++ row_bytes (whole_rows z.width hs)

unfoldable pub body_of : Size → List ℕ → List ℕ
body_of z r =
    pick (too_large z.largest (cells z) r) (rows_of z (heights_in z r) ++ refused_line 16)
    (pick (eqb (length r) (bytes_of z.largest (cells z))) (rows_of z (heights_in z r)) (rows_of z (heights_in z r) ++ refused_line 15))

-- all that is written, once the input has ended
unfoldable pub rewriting_of : List ℕ → List ℕ
rewriting_of s = elim (picture_of s) [ found z r ↦ body_of z r | short ↦ refused_line 15 | wrong ↦ refused_line 15 ]

-- an input that is accepted: no question says no
pub record Accepted (s : List ℕ) (W H : ℕ) (hs : List ℕ) : Type 0 where
  pub largest : ℕ
  pub rest : List ℕ
  pub head : picture_of s ≡ found (record { width = W; height = H; largest = largest }) rest
  pub within : too_large largest (W * H) rest ≡ false
  pub bytes : length rest ≡ bytes_of largest (W * H)
  pub heights : hs ≡ heights_taken largest (W * H) rest

-- ---- what is due of the bytes so far; e: the input ends with them
unfoldable pub body_due : Bool → Size → List ℕ → List ℕ
body_due e z r = rows_of z (heights_in z r) ++ answer_line (refusal_in e z.largest (cells z) r)

unfoldable pub due_of : Bool → List ℕ → List ℕ
due_of e s = elim (picture_of s) [ found z r ↦ body_due e z r | short ↦ answer_line (pick e 15 0) | wrong ↦ refused_line 15 ]
