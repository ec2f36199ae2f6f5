-- What a level of the writer does, of the columns W, in its own stretch of the line store. The store is a signal x: what stands at each place, counted from
-- where the level's stretch begins. The level's rows are counted from 0, the first at coordinate s; its sets are those of `Order` (grid).
-- The machine above knows a level by these seven definitions alone; those of the two filters are `kind_of` (crate analysis).
use Rattle.std.specs.Prelude.{◌≡◌, Bool, ℕ, zero, suc, ◌+◌, ◌-◌, ◌*◌, ◌%◌, ◌<◌, ◌≤◌, ℤ, ltb, leb, eqb}
use Rattle.numbers.specs.Signal.{pick, both}
use Rattle.numbers.specs.Word.{wrap32}
use Rattle.lifting.specs.Grid.{Side, count}
use Rattle.lifting.specs.Filter.{Filter}
use Rattle.wavelet.specs.Bands.{Grid, Band, across, down, subband}
use Rattle.wavelet.specs.Order.{first_set, set_row}

abbrev pub Memory : Type 0
Memory = ℕ → ℤ

pub record LevelKind : Type 0 where
  -- its filter: set n is made once the row at coordinate 2n + 2 × the filter's look-ahead is there
  pub filter : Filter
  -- stretch W: how many numbers the level keeps; the next level's stretch begins there
  pub stretch : Side → ℕ
  -- cell W s m c: where column c of row m is put
  pub cell : Side → ℕ → ℕ → ℕ → ℕ
  -- put W s m row: a whole row m is put
  pub put : Side → ℕ → ℕ → (ℕ → ℤ) → Memory → Memory
  -- make W s n: set n is made, that row being there
  pub make : Side → ℕ → ℕ → Memory → Memory
  -- close W H n: set n is made, all rows H being there, and the sets before it being made
  pub close : Side → Side → ℕ → Memory → Memory
  -- place W s n b: where the row of band b of set n stands while it waits
  pub place : Side → ℕ → ℕ → Band → ℕ

-- the look-ahead of a level
abbrev pub ahead : LevelKind → ℕ
ahead K = K.filter.ahead

-- Row m completes a set, at the look-ahead a: it stands at an even coordinate 2n + 2a, and the set is n.
unfoldable pub completes : ℕ → ℕ → ℕ → Bool
completes a s m = both (eqb ((s % 2 + m) % 2) 0) (leb (2 * a) (s % 2 + m))

-- ---- what its store means: Held W H g m c x, what a level of the columns W holds after m rows of a grid g of the rows H and c columns of row m
abbrev pub Meaning : Type 1
Meaning = (W H : Side) → Grid → (m c : ℕ) → Memory → Type 0

-- Ended W H g n x: what it holds once all rows H of g are there, n being the first set that is not made
abbrev pub Ending : Type 1
Ending = (W H : Side) → Grid → (n : ℕ) → Memory → Type 0

-- the rows of set n stand where they wait
abbrev pub SetStands : LevelKind → Side → Side → Grid → ℕ → Memory → Type 0
SetStands K W H g n x =
    (b : Band) (i : ℕ) → first_set H (down b) ≤ n → set_row H b n < count (down b) H → i < count (across b) W
    → x (K.place W H.start n b + i) ≡ subband K.filter wrap32 W H g b (set_row H b n) i

-- ---- the store from place a on, and the store with t from place a on
unfoldable pub rest : ℕ → Memory → Memory
rest a x j = x (a + j)

unfoldable pub join_at : ℕ → Memory → Memory → Memory
join_at a x t j = pick (ltb j a) (x j) (t (j - a))

-- ---- one less, and 0 of 0
abbrev pub prev : ℕ → ℕ
prev zero = zero
prev (suc n) = n
