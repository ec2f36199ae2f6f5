-- What the first 24 bytes of a file say, and the questions that they are asked. docs/FORMAT.md, "Header".
use Rattle.std.specs.Prelude.{Bool, true, not, List, [], ◌∷◌, ℕ, leb, eqb, length, take, drop}
use Rattle.numbers.specs.Signal.{pick, both}
use Rattle.wavelet.specs.declared.shape.Shape.{Shape}
use Rattle.wavelet.specs.Questions.{ask}
use Rattle.ground_file.specs.Groups.{digits}
use Rattle.ground_file.specs.Saving.{set_up_number}

-- the n bytes from byte k on, as a number: "All numbers stand least significant byte first."
unfoldable pub number_in : List ℕ → ℕ → ℕ → ℕ
number_in b k n = digits 256 (take n (drop k b))

unfoldable pub shape_in : List ℕ → Shape
shape_in b =
    record {
      width = number_in b 16 2;
      height = number_in b 18 4;
      levels = number_in b 10 1;
      x = number_in b 12 2;
      y = number_in b 14 2;
      filter = number_in b 9 1;
    }

unfoldable pub step_in : List ℕ → ℕ
step_in b = number_in b 11 1

-- "the first eight bytes, version, last two"
unfoldable pub is_header : List ℕ → Bool
is_header b =
    both (eqb (number_in b 0 8) (digits 256 (137 ∷ 71 ∷ 78 ∷ 68 ∷ 13 ∷ 10 ∷ 26 ∷ 10 ∷ []))) (both (eqb (number_in b 8 1) 1) (eqb (number_in b 22 2) 0))

-- not "a step above 1 with an origin or the 9/7"
unfoldable pub roundable : Shape → ℕ → Bool
roundable s q = pick (leb q 1) true (both (eqb s.x 0) (both (eqb s.y 0) (not (eqb s.filter 1))))

-- "5 for fewer, 22 (first eight bytes, version, last two, a step above 1 with an origin or the 9/7), then 2, 3, 18, 4, 20"
unfoldable pub header_number : List ℕ → ℕ
header_number b =
    ask (leb 24 (length b)) 5 (ask (is_header b) 22 (ask (roundable (shape_in b) (step_in b)) 22 (set_up_number (shape_in b) (step_in b))))

-- a shape and a step as seven numbers
abbrev pub header_words : Shape → ℕ → List ℕ
header_words s q = s.width ∷ s.height ∷ s.levels ∷ s.x ∷ s.y ∷ s.filter ∷ q ∷ []

abbrev pub header_in : List ℕ → List ℕ
header_in b = header_words (shape_in b) (step_in b)
