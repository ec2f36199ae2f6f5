-- The numbers of a band row as bytes. docs/FORMAT.md, "A band row", sentence by sentence.
use Rattle.std.specs.Prelude.{Bool, true, List, [], ◌∷◌, ◌++◌, ℕ, zero, suc, ◌+◌, ◌*◌, ◌/◌, ◌%◌, ◌^◌, ℤ, pos, negsuc, ltb, leb, eqb, length, take, drop}
use Rattle.numbers.specs.Signal.{pick, both}

-- "A number v becomes 2v, or −2v − 1 below 0." (negsuc n is −n − 1)
unfoldable pub zigzag : ℤ → ℕ
zigzag (pos n) = 2 * n
zigzag (negsuc n) = 2 * n + 1

-- "widths .. from 0, 1, 2, 3, 4, 5, 6, 7, 8, 9, 10, 11, 13, 16, 20, 28", by the four bits that choose one
unfoldable pub width_of : ℕ → ℕ
width_of c = pick (leb c 11) c (pick (eqb c 12) 13 (pick (eqb c 13) 16 (pick (eqb c 14) 20 28)))

-- is each number of a part below 2^w?
unfoldable pub holds : ℕ → List ℕ → Bool
holds w [] = true
holds w (x ∷ l) = both (ltb x (2 ^ w)) (holds w l)

-- "the smallest that holds the part's numbers, 0 for a part without numbers": the first code from c on, of the n before 15, whose width does
unfoldable pub code_from : ℕ → ℕ → List ℕ → ℕ
code_from zero c l = c
code_from (suc n) c l = pick (holds (width_of c) l) c (code_from n (c + 1) l)

unfoldable pub code_of : List ℕ → ℕ
code_of l = code_from 15 0 l

-- numbers as digits in a base, "the first lowest"
unfoldable pub digits : ℕ → List ℕ → ℕ
digits base [] = 0
digits base (x ∷ l) = x + base * digits base l

-- a number as so many bytes, least significant first
unfoldable pub bytes_of : ℕ → ℕ → List ℕ
bytes_of zero n = []
bytes_of (suc k) n = (n % 256) ∷ bytes_of k (n / 256)

-- "A part of width w is its numbers as digits in base 2^w, the first lowest, in as few whole bytes as hold them"
unfoldable pub part_of : ℕ → List ℕ → List ℕ
part_of w l = bytes_of ((w * length l + 7) / 8) (digits (2 ^ w) l)

-- "A group is one byte, then its first eight numbers, then the others. The byte's low and high four bits choose the widths of the two parts"
unfoldable pub group_of : List ℕ → List ℕ
group_of l = (code_of (take 8 l) + 16 * code_of (drop 8 l)) ∷ (part_of (width_of (code_of (take 8 l))) (take 8 l) ++ part_of (width_of (code_of (drop 8 l))) (drop 8 l))

-- "A row is cut into groups of 16 numbers, the last one of what is left."
unfoldable pub groups_of : ℕ → List ℕ → List ℕ
groups_of zero l = []
groups_of (suc n) l = group_of (take 16 l) ++ groups_of n (drop 16 l)

unfoldable pub row_bytes : List ℕ → List ℕ
row_bytes l = groups_of ((length l + 15) / 16) l
