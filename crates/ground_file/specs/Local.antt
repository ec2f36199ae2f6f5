-- What private functions cite; no public contract does.
use Rattle.std.specs.Prelude.{List, [], ◌∷◌, ℕ, leb, ltb}
use Rattle.numbers.specs.Signal.{pick}

-- the largest number of a part, 0 of one without numbers
unfoldable pub largest_of : List ℕ → ℕ
largest_of [] = 0
largest_of (x ∷ l) = pick (ltb (largest_of l) x) x (largest_of l)

-- the code of the smallest width that holds numbers of so many bits
unfoldable pub code_for : ℕ → ℕ
code_for b = pick (leb b 11) b (pick (leb b 13) 12 (pick (leb b 16) 13 (pick (leb b 20) 14 15)))
