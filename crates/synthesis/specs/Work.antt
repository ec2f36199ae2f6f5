-- Working out set n of a level that splits the columns W and the rows H, whatever its filter. Its rows are low-low values of level k (k = 0: heights).
-- Document 01, "Back: rows, then columns"; document 02, Q-8. Along the row first. Then the even row at 2n, by its low row and the high rows next to it; it
-- stands there for the odd rows, and passes the test of 14 with the set that makes it. An odd row is rebuilt, and tested, with the set that makes it: the
-- last even row that it goes by is that set's. At the look-ahead a set n makes the rows at 2(n − a) + 1 and 2(n − a) + 2, a first row at an even coordinate
-- is made by its own set, the last set makes all that is left. Q-3: an only column, or an only row, at an odd coordinate is halved; where a number of it is
-- odd, nothing goes on (14).
use Rattle.std.specs.Prelude.{Bool, ℕ, zero, suc, ◌+◌, ◌-◌, ◌*◌, ℤ, ltb, leb}
use Rattle.numbers.specs.Signal.{pick, both}
use Rattle.lifting.specs.Grid.{Side, single_high}
use Rattle.level.specs.Tried.{Tried, passed, bind}
use Rattle.level.specs.Stretch as stretch
use Rattle.level.specs.Stretch.{end_of, has_low, Admission}
use Rattle.synthesis.specs.Columns.{Columns}

-- a first row at an even coordinate alone is made by its own set
unfoldable pub own_even : Side → ℕ → Bool
own_even H n = both (has_low H n) (ltb n 1)

-- of set n the pair of j sets before it: the rows at 2i + 1 and 2i + 2 for this i
unfoldable pub pair_of : ℕ → ℕ → ℕ
pair_of n j = n - j

module _ (C : Columns) where
  abbrev pub kept : ℕ
  kept = C.filter.rows

  -- the even row of set n, if it has one
  unfoldable pub even_done : ℕ → ℕ → Side → ℕ → (ℕ → ℤ) → ℕ → ℤ
  even_done k w H n x = pick (has_low H n) (C.even k w H (2 * n) x) x

  -- the test of the row at q
  abbrev pub row_fits : ℕ → ℕ → ℕ → (ℕ → ℤ) → Bool
  row_fits = stretch.row_fits kept C.fits

  abbrev pub admitted : Admission
  admitted = stretch.admitted kept C.fits

  -- the rows at 2i + 1 and 2i + 2 made, the even rows that the odd one goes by being there
  unfoldable pub pair_made : ℕ → ℕ → Side → ℕ → (ℕ → ℤ) → Tried
  pair_made k w H i x = bind (admitted k w (2 * i + 1) (C.odd k w H (2 * i + 1) x)) (admitted k w (2 * i + 2))

  -- ---- the rows that set n makes: a first row,
  unfoldable pub first_made : ℕ → ℕ → Side → ℕ → (ℕ → ℤ) → Tried
  first_made k w H n x = pick (own_even H n) (admitted k w (2 * n) x) (passed x)

  -- the pair of j sets before it, if there is one: at the look-ahead it is this set's,
  unfoldable pub pair_before : ℕ → ℕ → ℕ → Side → ℕ → (ℕ → ℤ) → Tried
  pair_before j k w H n x = pick (ltb n j) (passed x) (pair_made k w H (pair_of n j) x)

  abbrev pub earlier_made : ℕ → ℕ → Side → ℕ → (ℕ → ℤ) → Tried
  earlier_made = pair_before C.filter.ahead

  -- and those of the last j sets, one after another: of the last set all that are nearer than the look-ahead,
  unfoldable pub pairs_made : ℕ → ℕ → ℕ → Side → ℕ → (ℕ → ℤ) → Tried
  pairs_made zero k w H n x = passed x
  pairs_made (suc j) k w H n x = bind (pair_before (suc j) k w H n x) (pairs_made j k w H n)

  abbrev pub own_made : ℕ → ℕ → Side → ℕ → (ℕ → ℤ) → Tried
  own_made = pairs_made (C.filter.ahead - 1)

  -- an only row, at an odd coordinate,
  abbrev pub single_made : ℕ → ℕ → ℕ → (ℕ → ℤ) → Tried
  single_made = stretch.single_made kept admitted

  -- and the row at 2n + 1, if there is one:
  unfoldable pub last_made : ℕ → ℕ → Side → ℕ → (ℕ → ℤ) → Tried
  last_made k w H n x =
      pick (ltb (2 * n + 1) (end_of H))
      (pick (single_high H) (single_made k w (2 * n + 1) x) (admitted k w (2 * n + 1) (C.odd k w H (2 * n + 1) x)))
      (passed x)

  -- if no row comes after the set's own
  unfoldable pub rest_made : ℕ → ℕ → Side → ℕ → (ℕ → ℤ) → Tried
  rest_made k w H n x = pick (leb (end_of H) (2 * n + 2)) (bind (own_made k w H n x) (last_made k w H n)) (passed x)

  unfoldable pub most_made : ℕ → ℕ → Side → ℕ → (ℕ → ℤ) → Tried
  most_made k w H n x = bind (first_made k w H n x) (earlier_made k w H n)

  unfoldable pub rows_made : ℕ → ℕ → Side → ℕ → (ℕ → ℤ) → Tried
  rows_made k w H n x = bind (most_made k w H n x) (rest_made k w H n)

  -- ---- the whole set: along the rows, the even row, and the rows that it makes
  abbrev pub set_unlifted : Side → Side → ℕ → (ℕ → ℤ) → Tried
  set_unlifted = stretch.set_unlifted kept C.along

  unfoldable pub set_made : ℕ → Side → Side → ℕ → (ℕ → ℤ) → Tried
  set_made k W H n x = bind (set_unlifted W H n x) (λ y. rows_made k W.length H n (even_done k W.length H n y))

  -- below level L the low-low row, if there is one, is taken from the next level first
  unfoldable pub set_worked : Bool → ℕ → Side → Side → ℕ → (ℕ → ℤ) → Tried
  set_worked last k W H n x = set_made k W H n (stretch.low_taken kept last W H n x)
