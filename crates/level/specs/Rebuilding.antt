-- What the calls that work a set out ask and keep.
use Rattle.std.specs.Prelude.{◌≡◌, Bool, ℕ, zero, suc, ◌+◌, ◌*◌, ◌≤◌, ℤ, pos, ◌-ℤ◌, leb, ltb}
use Rattle.numbers.specs.Signal.{pick, both}
use Rattle.lifting.specs.Line.{lo}
use Rattle.lifting.specs.Grid.{Side, count}
use Rattle.lifting.specs.Halves.{fronted}
use Rattle.lifting.specs.Filter.{Filter}
use Rattle.wavelet.specs.Limits.{range}
use Rattle.wavelet.specs.Order.{last_set}
use Rattle.level.specs.Tried.{Tried, fits, memory}

-- the longest row, and the most rows, of a level that the calls take: 2^16 and 2^32 − 1, so small that no place in memory overflows
abbrev pub widest : ℕ
widest = 65536

abbrev pub tallest : ℕ
tallest = 4294967295

-- the memory that a level of the columns W works in: its own rows and, below the last level, those of the next, whose row it takes
abbrev pub work_length_by : ℕ → Bool → Side → ℕ
work_length_by rows last W = rows * W.length + rows * pick last 0 (count lo W)

-- set n of a level of the columns W and the rows H, of at most so many levels and with so many rows kept, can be worked out in a memory of m numbers; its rows
-- are low-low values of level k
unfoldable pub workable_by : ℕ → ℕ → Bool → ℕ → Side → Side → ℕ → ℕ → Bool
workable_by levels rows last k W H n m =
    both (leb k levels)
    (both (leb W.length widest)
    (both (leb H.length tallest)
    (both (ltb 0 H.length)
    (both (leb n (last_set H))
    (leb (work_length_by rows last W) m)))))

-- the answer of working it out: 5 where it can not, 14 where a row that it makes does not fit or has an odd number that would be halved
abbrev pub work_answer : Bool → Tried → ℕ
work_answer room t = pick room (pick (fits t) 0 14) 5

-- what stands there afterwards, x before: the set worked out; zeros in the level's own stretch where a number does not fit
unfoldable pub work_left_by : ℕ → Side → Bool → Tried → (ℕ → ℤ) → ℕ → ℤ
work_left_by rows W room t x = pick room (memory (fronted (rows * W.length) (λ _. pos 0) x) t) x

-- nothing changed from place n on
pub record Kept (n : ℕ) (x y : ℕ → ℤ) : Type 0 where
  pub same : (j : ℕ) → n ≤ j → y j ≡ x j

-- the least value that the rows of level k's low-low part may have: 0 for heights, k = 0
unfoldable pub lowest_by : Filter → ℕ → ℤ
lowest_by F zero = pos 0
lowest_by F (suc k) = pos 0 -ℤ pos (range F (suc k))
