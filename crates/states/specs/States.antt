-- The state of a stream as the caller's numbers, sixteen of a writer or a reader, thirty-two of a saver: a kind, the counts, and 0 in the rest.
-- docs/STATE.md lists them.
use Rattle.std.specs.Prelude.{Bool, true, List, ℕ, zero, suc, ◌+◌, ◌-◌, eqb, leb, get_or}
use Rattle.numbers.specs.Signal.{pick, both}

-- a yes or no as a number
abbrev pub flag : Bool → ℕ
flag b = pick b 1 0

-- are the n numbers from place k on 0; all from there to the end of n; of sixteen?
unfoldable pub zero_next : ℕ → ℕ → List ℕ → Bool
zero_next zero k s = true
zero_next (suc n) k s = both (eqb (get_or s k 0) 0) (zero_next n (k + 1) s)

unfoldable pub zero_to : ℕ → ℕ → List ℕ → Bool
zero_to n k s = zero_next (n - k) k s

abbrev pub zero_from : ℕ → List ℕ → Bool
zero_from k s = zero_to 16 k s

-- is this a state of a kind, with its flag at place f and nothing but 0 from place k on?
unfoldable pub is_state : ℕ → ℕ → ℕ → List ℕ → Bool
is_state kind f k s = both (eqb (get_or s 0 0) kind) (both (leb (get_or s f 0) 1) (zero_from k s))
