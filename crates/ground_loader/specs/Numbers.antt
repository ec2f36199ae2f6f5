-- Numbers of so many bits each, taken from a number's bits. docs/FORMAT.md, "A band row".
use Rattle.std.specs.Prelude.{List, [], ◌∷◌, ℕ, zero, suc, ◌*◌, ◌/◌, ◌%◌, ◌^◌, ℤ, pos, negsuc, ltb, eqb}
use Rattle.numbers.specs.Signal.{pick}

-- the value that becomes this number: "2v, or −2v − 1 below 0" (negsuc n is −n − 1)
unfoldable pub value_of : ℕ → ℤ
value_of x = pick (eqb (x % 2) 0) (pos (x / 2)) (negsuc (x / 2))

-- number i of those of w bits
unfoldable pub number_at : ℕ → ℕ → ℕ → ℕ
number_at w x i = x / 2 ^ (w * i) % 2 ^ w

-- the first k of them
unfoldable pub numbers_in : ℕ → ℕ → ℕ → List ℕ
numbers_in w zero x = []
numbers_in w (suc k) x = (x % 2 ^ w) ∷ numbers_in w k (x / 2 ^ w)

-- the largest of a number and a list
unfoldable pub greatest : ℕ → List ℕ → ℕ
greatest m [] = m
greatest m (x ∷ l) = greatest (pick (ltb m x) x m) l
