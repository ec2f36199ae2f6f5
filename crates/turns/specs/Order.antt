-- The order of turns. Document 02, Q-11: "the next reader, in circular order after the last one served, that wants a band row."
use Rattle.std.specs.Prelude.{Bool, ℕ, zero, suc, ◌+◌, ◌%◌, Option, Some, None}
use Rattle.numbers.specs.Signal.{pick}
use Rattle.turns.specs.Marks.{readers}

-- whom a turn serves: "With nobody wanting, the answer is Nothing"
pub data Served : Type 0 where
  reader : ℕ → Served
  nobody : Served

-- the first that wants among k readers in circular order from reader r on
unfoldable pub first_from : (ℕ → Bool) → ℕ → ℕ → Served
first_from wants zero r = nobody
first_from wants (suc k) r = pick (wants (r % readers)) (reader (r % readers)) (first_from wants k (r + 1))

-- all sixteen are looked at, from the one after the last one served on: that one comes last
unfoldable pub next_after : (ℕ → Bool) → ℕ → Served
next_after wants last = first_from wants readers (last + 1)

-- as the code has it
abbrev pub served : Option ℕ → Served
served (Some n) = reader n
served None = nobody
