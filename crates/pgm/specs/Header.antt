-- A header, as a definition on the bytes of an input: Netpbm's grammar of a binary PGM. P5, width, height and largest value, gaps before each number,
-- one gap after the last.
use Rattle.std.specs.Prelude.{Bool, true, false, List, [], ◌∷◌, ℕ, ◌+◌, ◌*◌, eqb}
use Rattle.numbers.specs.Signal.{pick, both}
use Rattle.pgm.specs.Characters.{space, line_end, digit, digit_value}
use Rattle.pgm.specs.Limits.{max_field, up_to}

-- what an input begins with: this, and the bytes after it; the input ends too soon; or, whatever follows, it is wrong
pub data Read (A : Type 0) : Type 0 where
  found : A → List ℕ → Read A
  short : Read A
  wrong : Read A

-- first one thing, then the next
abbrev pub and_then : {A B : Type 0} → Read A → (A → List ℕ → Read B) → Read B
and_then (found a s) f = f a s
and_then short f = short
and_then wrong f = wrong

abbrev pub is : ℕ → ℕ → Bool
is c b = eqb b c

-- one byte that passes a test
unfoldable pub one : (ℕ → Bool) → List ℕ → Read ℕ
one p [] = short
one p (b ∷ s) = pick (p b) (found b s) wrong

-- ---- gaps
-- a comment after its "#": up to and with the first CR or LF
unfoldable pub comment : List ℕ → Read ℕ
comment [] = short
comment (b ∷ s) = pick (line_end b) (found b s) (comment s)

-- a gap is one whitespace byte or a comment (35 is #)
unfoldable pub gap : List ℕ → Read ℕ
gap [] = short
gap (b ∷ s) = pick (space b) (found b s) (pick (eqb b 35) (comment s) wrong)

-- the bytes after as many gaps as an input begins with; c: it begins inside a comment
unfoldable pub after_gaps : Bool → List ℕ → List ℕ
after_gaps c [] = []
after_gaps true (b ∷ s) = pick (line_end b) (after_gaps false s) (after_gaps true s)
after_gaps false (b ∷ s) = pick (space b) (after_gaps false s) (pick (eqb b 35) (after_gaps true s) (b ∷ s))

-- ---- numbers
-- a number has one digit or more, of which leading zeros are some; v is the value of the digits so far, any: there was one
unfoldable pub number_from : Bool → ℕ → List ℕ → Read ℕ
number_from any v [] = short
number_from any v (b ∷ s) =
    pick (digit b) (number_from true (10 * v + digit_value b) s)
    (pick any (found v (b ∷ s)) wrong)

abbrev pub number : List ℕ → Read ℕ
number = number_from false 0

-- gaps, one or more, and then a number
unfoldable pub field : List ℕ → Read ℕ
field s = and_then (gap s) λ _ s. number (after_gaps false s)

-- ---- the header
pub record Size : Type 0 where
  pub width : ℕ
  pub height : ℕ
  pub largest : ℕ

-- a width, a height or a largest value
unfoldable pub side : ℕ → Bool
side n = up_to max_field n

unfoldable pub sized : ℕ → ℕ → ℕ → Bool
sized w h m = both (side w) (both (side h) (side m))

unfoldable pub header_end : ℕ → ℕ → ℕ → List ℕ → Read Size
header_end w h m s = pick (sized w h m) (found (record { width = w; height = h; largest = m }) s) wrong

-- the header that an input begins with (80 53 is P5): its size, and the bytes after it
unfoldable pub header_of : List ℕ → Read Size
header_of s =
    and_then (one (is 80) s) λ _ s.
    and_then (one (is 53) s) λ _ s.
    and_then (field s) λ w s.
    and_then (field s) λ h s.
    and_then (field s) λ m s.
    and_then (gap s) λ _ s.
    header_end w h m s
