-- The sets that are waited for, by the number f of the filter: its look-ahead is all that they know of it. H is the side of the map's rows.
-- What is waited for at a level is told by a number: at level 0, the map itself, a row; at level k + 1 a set of that level.
use Rattle.std.specs.Prelude.{Bool, true, ℕ, zero, suc, ◌+◌, ◌-◌, ◌*◌, ◌%◌, min, leb, eqb}
use Rattle.numbers.specs.Signal.{pick}
use Rattle.lifting.specs.Line.{lo}
use Rattle.lifting.specs.Grid.{Side}
use Rattle.wavelet.specs.Levels.{side_at}
use Rattle.wavelet.specs.Order.{first_set}
use Rattle.wavelet.specs.Steps.{set_of}
use Rattle.filters.specs.Filters.{filter_of}

-- how far the filter looks ahead
abbrev pub ahead : ℕ → ℕ
ahead f = (filter_of f).ahead

-- ---- number n of level k: does it take a row of level k's low-low part, and which? A set of a high row alone takes none.
unfoldable pub has_row : Side → ℕ → ℕ → Bool
has_row H zero n = true
has_row H (suc k) n = leb (first_set (side_at k H) lo) n

unfoldable pub row_of : Side → ℕ → ℕ → ℕ
row_of H zero n = n
row_of H (suc k) n = n - first_set (side_at k H) lo

-- the number of level k that takes row r
unfoldable pub taking : Side → ℕ → ℕ → ℕ
taking H zero r = r
taking H (suc k) r = r + first_set (side_at k H) lo

-- ---- to the coarser levels: the last set of level j that number n of level k needs; at level k itself n
unfoldable pub needed : ℕ → Side → ℕ → ℕ → ℕ → ℕ
needed f H k n zero = n
needed f H k n (suc j) = pick (eqb k (suc j)) n (set_of (ahead f) (side_at j H) (row_of H j (needed f H k n j)))

-- ---- to the finer ones: the first row of a level that set n or a later one makes, n past 0, were its rows as many,
abbrev pub row_to : ℕ → Side → ℕ → ℕ
row_to f S n = 2 * (n - ahead f) + 1 - S.start % 2

-- of the rows S, and whether set n makes it
unfoldable pub first_row : ℕ → Side → ℕ → ℕ
first_row f S zero = 0
first_row f S (suc n) = min (row_to f S (suc n)) (S.length - 1)

unfoldable pub makes : ℕ → Side → ℕ → Bool
makes f S n = leb (set_of (ahead f) S (first_row f S n)) n

-- the number of level k that waits while set n of level k + 1 is collected,
unfoldable pub waiting : ℕ → Side → ℕ → ℕ → ℕ
waiting f H k n = taking H k (first_row f (side_at k H) n)

-- and that of level j while number n of level k is
unfoldable pub waits_at : ℕ → Side → ℕ → ℕ → ℕ → ℕ
waits_at f H zero n j = n
waits_at f H (suc k) n j = pick (eqb j (suc k)) n (waits_at f H k (waiting f H k n) j)
