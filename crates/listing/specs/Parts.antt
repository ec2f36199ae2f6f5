-- The parts of a line, as the code writes them: `part_text`. proofs/LineLeft joins them to lines.
use Rattle.std.specs.Prelude.{Bool, true, false, List, [], ◌∷◌, ◌++◌, ◌≡◌, ℕ, ◌+◌, ◌-◌, ◌%◌, min, leb, ltb, eqb, ℤ, length, drop}
use Rattle.std.proofs.Math.Seq.{paste}
use Rattle.numbers.specs.Signal.{pick}
use Rattle.text.specs.Decimal.{numeral, integer}
use Rattle.text.specs.Refusal.{refused_line}
use Rattle.listing.specs.Lines.{size_line}
use Rattle.listing.specs.declared.line.Line.{Line}
use Rattle.listing.specs.declared.spelling.Spelt.{Spelt}

-- the letters of a band by its code
unfoldable pub letter : Bool → ℕ
letter true = 72
letter false = 76

abbrev pub first : ℕ → ℕ
first c = letter (eqb (c % 2) 1)

abbrev pub second : ℕ → ℕ
second c = letter (ltb 1 c)

unfoldable pub size_text : Line → List ℕ
size_text l = size_line l.length l.row l.level

unfoldable pub refused_text : Line → List ℕ
refused_text l = refused_line l.row

unfoldable pub head_text : Line → List ℕ
head_text l = numeral l.level ++ (32 ∷ first l.band ∷ second l.band ∷ 32 ∷ numeral l.row)

-- y is what stands in the row area, of k numbers
unfoldable pub value_text : ℕ → (ℕ → ℤ) → Line → List ℕ
value_text k y l = pick (leb l.length l.value) (10 ∷ []) (pick (leb k l.value) (10 ∷ []) (32 ∷ integer (y l.value)))

unfoldable pub part_text : ℕ → (ℕ → ℤ) → Line → List ℕ
part_text k y l =
    pick (eqb l.part 1) (size_text l)
    (pick (eqb l.part 2) (refused_text l)
    (pick (eqb l.part 3) (head_text l)
    (value_text k y l)))

-- ---- the lines that begin
abbrev pub no_line : Line
no_line = record { part = 0; level = 0; band = 0; row = 0; length = 0; value = 0; done = 0 }

abbrev pub size_part : ℕ → ℕ → ℕ → Line
size_part W H L = record { part = 1; level = L; band = 0; row = H; length = W; value = 0; done = 0 }

abbrev pub refused_part : ℕ → Line
refused_part q = record { part = 2; level = 0; band = 0; row = q; length = 0; value = 0; done = 0 }

abbrev pub head_part : ℕ → ℕ → ℕ → ℕ → Line
head_part k b r n = record { part = 3; level = k; band = b; row = r; length = n; value = 0; done = 0 }

-- d bytes of the part written
abbrev pub done_part : Line → ℕ → Line
done_part l d = record { part = l.part; level = l.level; band = l.band; row = l.row; length = l.length; value = l.value; done = d }

-- ---- what is left of a part of text t, d bytes of which are written; past its end nothing is written yet
unfoldable pub start_of : ℕ → ℕ → ℕ
start_of t d = pick (ltb d t) d 0

unfoldable pub left_of : List ℕ → ℕ → List ℕ
left_of t d = drop (start_of (length t) d) t

-- as much of it as there is room for is written to o from place a on, and o' stands there then; r says how much, up to where, and how much is left
pub record Spelled (t : List ℕ) (d a : ℕ) (o o' : List ℕ) (r : Spelt) : Type 0 where
  pub count : r.written ≡ min (length (left_of t d)) (length o - a)
  pub bytes : o' ≡ paste o a (left_of t d) r.written
  pub done : r.done ≡ start_of (length t) d + r.written
  pub rest : r.rest ≡ length (left_of t d) - r.written
