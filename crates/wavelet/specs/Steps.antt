-- The reader's steps for a map on the grid: each band row to feed and each height row to draw, in their order. Document 01, "The reader"; document 02, Q-3.
-- A level k, from 1, splits the columns W and the rows H; l levels lie below it. Sets are counted as in Order.
-- a is the look-ahead of the filter: 1 for the 5/3, 2 for the 9/7 (02, Q-8).
use Rattle.std.specs.Prelude.{List, [], ◌∷◌, ◌++◌, ℕ, zero, suc, ◌+◌, ◌-◌, ◌/◌, ◌%◌, min, leb}
use Rattle.numbers.specs.Signal.{pick}
use Rattle.lifting.specs.Line.{lo}
use Rattle.lifting.specs.Grid.{Side}
use Rattle.wavelet.specs.Levels.{next}
use Rattle.wavelet.specs.Order.{RowName, in_turn, first_set, last_set, set_rows}

pub data Step : Type 0 where
  feed : RowName → Step
  draw : ℕ → Step

unfoldable pub feed_all : List RowName → List Step
feed_all [] = []
feed_all (x ∷ xs) = feed x ∷ feed_all xs

-- The set that makes a row: that which brings the last value that it or any row before it needs. For the 5/3 "A complete set makes rows 2n−1 and 2n"; "the last
-- set of an even height also makes the last row". Q-3: "A set makes those of its rows that the level has; an even height reads as a last row at an odd
-- coordinate." Q-8: set n makes rows 2n − 3 and 2n − 2, a first row at an even coordinate is made by its own set, and the last set makes all that is left.
-- First of a row at q, counted from the last even coordinate that is not after the level's start, if there were no last set; then of row r of a level.
unfoldable pub set_to : ℕ → ℕ → ℕ
set_to a zero = 0
set_to a (suc q) = q / 2 + a

unfoldable pub set_of : ℕ → Side → ℕ → ℕ
set_of a H r = min (set_to a (H.start % 2 + r)) (last_set H)

-- the sets that the rows before row r need: those before this one
unfoldable pub sets_before : ℕ → Side → ℕ → ℕ
sets_before a H zero = 0
sets_before a H (suc r) = set_of a H r + 1

-- "Made rows are used before another set is asked for." What row r needs, `set n` being the steps of set n: those of the sets that no row before it needs, up
-- to the set that makes it.
unfoldable pub row_steps : ℕ → Side → (ℕ → List Step) → ℕ → List Step
row_steps a H set r = in_turn (sets_before a H (suc r) - sets_before a H r) (λ i. set (sets_before a H r + i))

-- "Set n of level k needs its LL row (for k below L: the next row that level k+1 makes, which may ask for a set there first), then HL, LH, HH, skipping bands
-- without rows." A set of a high row alone has no LL row.
unfoldable pub set_steps : ℕ → ℕ → ℕ → Side → Side → ℕ → List Step
set_steps a zero k W H n = feed_all (set_rows zero k W H n)
set_steps a (suc l) k W H n =
    pick (leb (first_set H lo) n) (row_steps a (next H) (set_steps a l (suc k) (next W) (next H)) (n - first_set H lo)) []
    ++ feed_all (set_rows (suc l) k W H n)

-- all of them: for each height row what it needs, then it is drawn
unfoldable pub steps : ℕ → Side → Side → ℕ → List Step
steps a W H L = in_turn H.length (λ r. row_steps a H (set_steps a (L - 1) 1 W H) r ++ (draw r ∷ []))

-- the band rows among some steps, and the height rows
unfoldable pub band_rows_of : List Step → List RowName
band_rows_of [] = []
band_rows_of (feed x ∷ t) = x ∷ band_rows_of t
band_rows_of (draw r ∷ t) = band_rows_of t

unfoldable pub height_rows_of : List Step → List ℕ
height_rows_of [] = []
height_rows_of (feed x ∷ t) = height_rows_of t
height_rows_of (draw r ∷ t) = r ∷ height_rows_of t
