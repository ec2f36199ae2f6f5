-- What a level does on the way back, of the columns W and the rows H, in its own stretch of the line store. The store is a signal x: what stands at each place,
-- counted from where the level's stretch begins.
-- The machine above knows a level by these definitions alone; those of the two filters are `back_of` (crate synthesis). The way back and the test are fields, so
-- that another reader, which limits a value where this one refuses it, is another level and no other machine.
use Rattle.std.specs.Prelude.{Bool, ℕ, ℤ}
use Rattle.lifting.specs.Grid.{Side}
use Rattle.wavelet.specs.Bands.{Band, Grid}
use Rattle.level.specs.Tried.{Tried}

pub record ReaderLevel : Type 0 where
  -- the look-ahead of its filter: row r is made by set set_of ahead H r (wavelet/specs/Steps)
  pub ahead : ℕ
  -- stretch W: how many numbers the level keeps; the next level's stretch begins there
  pub stretch : Side → ℕ
  -- feed W s b n v: the row of band b of set n, the numbers v, is put; the level's rows start at s
  pub feed : Side → ℕ → Band → ℕ → (ℕ → ℤ) → (ℕ → ℤ) → ℕ → ℤ
  -- work last k W H n: set n is worked out, its bands and the sets before it being there. Its rows are low-low values of level k, and each is admitted before
  -- it is used. Below the last level its low-low row, if it has one, is the next level's, whose stretch follows.
  pub work : Bool → ℕ → Side → Side → ℕ → (ℕ → ℤ) → Tried
  -- made W s r: row r, in its own order, once its set is worked out; the level's rows start at s
  pub made : Side → ℕ → ℕ → (ℕ → ℤ) → ℕ → ℤ
  -- back k W H p: the grid that the bands p come to, its rows low-low values of level k (k = 0: heights)
  pub back : ℕ → Side → Side → (Band → Grid) → Grid
  -- fits k v: v may stand in such a row; else 14
  pub fits : ℕ → ℤ → Bool
