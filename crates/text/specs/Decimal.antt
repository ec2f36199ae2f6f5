-- A number in decimal, as bytes (48 is 0, 45 is −).
use Rattle.std.specs.Prelude.{List, [], ◌∷◌, ◌++◌, ℕ, zero, suc, ◌+◌, ◌/◌, ◌%◌, ltb, ℤ, pos, negsuc}
use Rattle.numbers.specs.Signal.{pick}

-- below ten one digit, else those of n / 10 and then the last one: at most so many
unfoldable pub digits_of : ℕ → ℕ → List ℕ
digits_of zero n = []
digits_of (suc most) n = pick (ltb n 10) ((48 + n) ∷ []) (digits_of most (n / 10) ++ ((48 + n % 10) ∷ []))

-- no number n has more than n + 1 digits
unfoldable pub numeral : ℕ → List ℕ
numeral n = digits_of (suc n) n

unfoldable pub integer : ℤ → List ℕ
integer (pos n) = numeral n
integer (negsuc n) = 45 ∷ numeral (suc n)
