-- The marks of sixteen readers as one number: bit n is the mark of reader n. Document 02, Q-11: "A reader's want is marked and cleared by its number and stands
-- until cleared".
use Rattle.std.specs.Prelude.{Bool, ℕ, ◌+◌, ◌-◌, ◌/◌, ◌%◌, ◌^◌, eqb}
use Rattle.numbers.specs.Signal.{pick}

-- "up to 16 readers", with the numbers 0 to 15, and the marks of all
abbrev pub readers : ℕ
readers = 16

abbrev pub last_reader : ℕ
last_reader = 15

abbrev pub all_marked : ℕ
all_marked = 65535

-- is reader n marked?
unfoldable pub marked : ℕ → ℕ → Bool
marked marks n = eqb (marks / 2 ^ n % 2) 1

-- the marks with that of reader n, and without it
unfoldable pub with_mark : ℕ → ℕ → ℕ
with_mark marks n = pick (marked marks n) marks (marks + 2 ^ n)

unfoldable pub without_mark : ℕ → ℕ → ℕ
without_mark marks n = pick (marked marks n) (marks - 2 ^ n) marks
