-- The line of a refusal. Document 01, "The listing program": "A refusal prints "refused", one space and the number, on a line".
use Rattle.std.specs.Prelude.{List, [], ◌∷◌, ◌++◌, ℕ, zero, suc}
use Rattle.text.specs.Decimal.{numeral}

-- 114 101 102 117 115 101 100 32 is "refused" and a space, 10 a line feed
unfoldable pub refused_line : ℕ → List ℕ
refused_line q = 114 ∷ 101 ∷ 102 ∷ 117 ∷ 115 ∷ 101 ∷ 100 ∷ 32 ∷ (numeral q ++ (10 ∷ []))

-- the line of an answer: none of 0, which is no refusal
abbrev pub answer_line : ℕ → List ℕ
answer_line zero = []
answer_line (suc q) = refused_line (suc q)
