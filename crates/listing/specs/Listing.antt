-- What the listing program writes, as a definition on the bytes of its input. Document 01, "The listing program" and question 15; document 02, Q-1.
use Rattle.std.specs.Prelude.{Bool, true, false, ◌≡◌, List, [], ◌++◌, ℕ, ◌+◌, ◌*◌, ◌/◌, pos, length, get_or, eqb}
use Rattle.numbers.specs.Signal.{pick}
use Rattle.lifting.specs.Grid.{side}
use Rattle.wavelet.specs.Bands.{Grid}
use Rattle.wavelet.specs.Order.{made}
use Rattle.wavelet.specs.Limits.{max_levels}
use Rattle.pgm.specs.Characters.{digit_value}
use Rattle.pgm.specs.Header.{Read, found, short, wrong, and_then, is, one, header_of}
use Rattle.pgm.specs.Limits.{size_fits}
use Rattle.pgm.specs.InputSteps.{level_digit}
use Rattle.pgm.specs.Heights.{heights_taken, too_large, bytes_of, refusal_in}
use Rattle.text.specs.Refusal.{refused_line, answer_line}
use Rattle.listing.specs.Lines.{lines_of, size_line}

-- ---- the head: "one digit for L, a newline, then a binary PGM"
-- question 15: "Listing program, asked before all others: is the header as below, with L 1 to 5, width 1 to 1,025, height 1 to 65,535?"
pub record Shape : Type 0 where
  pub width : ℕ
  pub height : ℕ
  pub levels : ℕ

-- the map's shape and the largest value of a sample
pub record Head : Type 0 where
  pub shape : Shape
  pub largest : ℕ

unfoldable pub head_end : ℕ → ℕ → ℕ → ℕ → List ℕ → Read Head
head_end L W H m s = pick (size_fits W H) (found (record { shape = record { width = W; height = H; levels = L }; largest = m }) s) wrong

unfoldable pub head_of : List ℕ → Read Head
head_of s =
    and_then (one (level_digit max_levels) s) λ d s.
    and_then (one (is 10) s) λ _ s.
    and_then (header_of s) λ z s.
    head_end (digit_value d) z.width z.height z.largest s

-- ---- the heights: r is the bytes after the head, m the largest value, n how many heights the map has
abbrev pub cells : Shape → ℕ
cells q = q.width * q.height

-- the map that begins with some heights, row by row
unfoldable pub grid_of : ℕ → List ℕ → Grid
grid_of W hs i j = pos (get_or hs (i * W + j) 0)

-- the W H L line and the lines that some heights make due, and those of the finish if there was one
unfoldable pub lines_due : Shape → List ℕ → Bool → List ℕ
lines_due q hs finished =
    size_line q.width q.height q.levels
    ++ lines_of q.width q.height (grid_of q.width hs) (made 1 (side 0 q.width) 0 q.levels (length hs / q.width) finished)

-- "Asked again before the finish: are the height bytes neither too few nor too many?" A refusal comes "on a line after all lines that the heights
-- before it made due".
unfoldable pub body_of : Shape → ℕ → List ℕ → List ℕ
body_of q m r =
    pick (too_large m (cells q) r)
    (lines_due q (heights_taken m (cells q) r) false ++ refused_line 16)
    (pick (eqb (length r) (bytes_of m (cells q)))
    (lines_due q (heights_taken m (cells q) r) true)
    (lines_due q (heights_taken m (cells q) r) false ++ refused_line 15))

-- ---- all that is written, once the input has ended
unfoldable pub listing_of : List ℕ → List ℕ
listing_of s = elim (head_of s) [ found h r ↦ body_of h.shape h.largest r | short ↦ refused_line 15 | wrong ↦ refused_line 15 ]

-- ---- what is due while more input may come: no finish, no refusal for a want of bytes
unfoldable pub body_due : Shape → ℕ → List ℕ → List ℕ
body_due q m r = lines_due q (heights_taken m (cells q) r) false ++ answer_line (refusal_in false m (cells q) r)

unfoldable pub due_of : List ℕ → List ℕ
due_of s = elim (head_of s) [ found h r ↦ body_due h.shape h.largest r | short ↦ [] | wrong ↦ refused_line 15 ]

-- ---- an input that is accepted: no question says no. L, size and heights are all that its listing shows (proofs/ListingSame)
pub record Accepted (s : List ℕ) (q : Shape) (hs : List ℕ) : Type 0 where
  pub largest : ℕ
  pub rest : List ℕ
  pub head : head_of s ≡ found (record { shape = q; largest = largest }) rest
  pub within : too_large largest (cells q) rest ≡ false
  pub bytes : length rest ≡ bytes_of largest (cells q)
  pub heights : hs ≡ heights_taken largest (cells q) rest
