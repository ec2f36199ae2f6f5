-- Numbers and heights of an area, one by one.
use Rattle.std.specs.Prelude.{Bool, List, map, ℕ, ◌+◌, ◌/◌, ◌%◌, ℤ, pos, ◌-ℤ◌, ◌*ℤ◌, get_or, eqb}
use Rattle.std.specs.Int.Signed.{shr_z, le_z}
use Rattle.numbers.specs.Signal.{pick, both}

-- a number from low to high
unfoldable pub between : ℤ → ℤ → ℤ → Bool
between low high v = both (le_z low v) (le_z v high)

-- a slice of u16 heights as a signal of whole numbers, and as a list of them
abbrev pub heights_at : List ℕ → ℕ → ℤ
heights_at l i = pos (get_or l i 0)

abbrev pub wholes : List ℕ → List ℤ
wholes l = map pos l

-- z modulo 65,536, what a u16 keeps: "a made height row is then drawn modulo 65,536"
unfoldable pub height16 : ℤ → ℤ
height16 z = z -ℤ pos 65536 *ℤ shr_z z 65536

-- the numbers of a and of b in turn, a's first
unfoldable pub alternated : (ℕ → ℤ) → (ℕ → ℤ) → ℕ → ℤ
alternated a b i = pick (eqb (i % 2) 0) (a (i / 2)) (b (i / 2))

-- the numbers of x from place a on and those from place b on, in turn
abbrev pub in_turn : ℕ → ℕ → (ℕ → ℤ) → ℕ → ℤ
in_turn a b x = alternated (λ i. x (a + i)) (λ i. x (b + i))
