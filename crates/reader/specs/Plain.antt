-- Which answers a feed gives: document 01, questions 1, 5, 9, 8, 13, 7 and 14 in their order, 5 and 7 in plain numbers (wavelet's Asks).
use Rattle.std.specs.Prelude.{◌≡◌, true, false, ℕ, ◌+◌, ◌≤◌, ◌<◌, ℤ, nat_abs}
use Rattle.wavelet.specs.Asks.{Asks, Passes, needed, largest}
use Rattle.level.specs.Tried.{fits}
use Rattle.reader.specs.declared.Reader.{Reader}
use Rattle.reader.specs.State.{columns, next, next_length, row_due, feeds}
use Rattle.reader.specs.Questions.{counts_fit}

-- the store x of n numbers; the run v of m numbers
abbrev pub FeedAsks : Reader → ℕ → (ℕ → ℤ) → ℕ → (ℕ → ℤ) → ℕ → Type 0
FeedAsks s n x m v =
    Asks 1 (counts_fit s ≡ true)
    (Asks 5 (s.spare + needed s.filter (columns s) s.levels ≤ n)
    (Asks 9 (s.ended ≡ false)
    (Asks 8 (row_due s ≡ true)
    (Asks 13 (m ≡ next_length s)
    (Asks 7 ((i : ℕ) → i < m → nat_abs (v i) ≤ largest s.filter (s.stop + (next s).level))
    (Asks 14 (fits (feeds s v x) ≡ true)
    Passes))))))
