-- One level of a map on the grid: all columns lifted, then all rows, by a filter F. Document 01, "The lifting of a line"; document 02, Q-3 and Q-8.
-- A map's columns and its rows are two sides, each a start and a length: W across, H down. Rows and columns of a grid, of a band and of the plane are counted
-- from 0; row r of a map stands at coordinate start + r.
use Rattle.std.specs.Prelude.{Bool, ℕ, ℤ}
use Rattle.numbers.specs.Signal.{both}
use Rattle.numbers.specs.Tests.{every}
use Rattle.numbers.specs.Word.{wrap32}
use Rattle.lifting.specs.Line.{Half, lo, hi}
use Rattle.lifting.specs.Grid.{Side, count, has_line}
use Rattle.lifting.specs.Filter.{Filter, line_back_by}

-- numbers by row and column
abbrev pub Grid : Type 0
Grid = ℕ → ℕ → ℤ

-- "Band codes: 0 LL, 1 HL, 2 LH, 3 HH." The first letter is horizontal: HL is high along rows, low along columns.
pub data Band : Type 0 where
  LL HL LH HH : Band
  deriving Discrete as Band-discrete

unfoldable pub code : Band → ℕ
code LL = 0
code HL = 1
code LH = 2
code HH = 3

-- the half along the rows (the first letter), and the half along the columns
unfoldable pub across : Band → Half
across LL = lo
across HL = hi
across LH = lo
across HH = hi

unfoldable pub down : Band → Half
down LL = lo
down HL = lo
down LH = hi
down HH = hi

unfoldable pub band_of : Half → Half → Band
band_of lo lo = LL
band_of hi lo = HL
band_of lo hi = LH
band_of hi hi = HH

-- "One level lifts all columns": column j of the grid as a line, half h of its values
unfoldable pub columns_lifted : Filter → (ℤ → ℤ) → Side → Grid → Half → Grid
columns_lifted F keep H g h r c = F.forward keep H (λ i. g i c) h r

-- "then all rows"
unfoldable pub subband : Filter → (ℤ → ℤ) → Side → Side → Grid → Band → Grid
subband F keep W H g b r = F.forward keep W (columns_lifted F keep H g (down b) r) (across b)

-- "Back: rows, then columns."
unfoldable pub rows_unlifted : Filter → (ℤ → ℤ) → Side → (Band → Grid) → Half → Grid
rows_unlifted F keep W p h r = line_back_by F keep W (λ a. p (band_of a h) r)

unfoldable pub level_back : Filter → (ℤ → ℤ) → Side → Side → (Band → Grid) → Grid
level_back F keep W H p r c = line_back_by F keep H (λ h i. rows_unlifted F keep W p h i c) r

-- Q-3: "Back, such a value that is odd when it is due to be halved belongs to no map and gives 14": each row of the bands is a line's, and then each column.
unfoldable pub rows_have : Side → Side → (Band → Grid) → Bool
rows_have W H p =
    both (every (count lo H) (λ r. has_line W (λ a. p (band_of a lo) r)))
    (every (count hi H) (λ r. has_line W (λ a. p (band_of a hi) r)))

unfoldable pub columns_have : Filter → Side → Side → (Band → Grid) → Bool
columns_have F W H p = every W.length (λ c. has_line H (λ h i. rows_unlifted F wrap32 W p h i c))

unfoldable pub level_has : Filter → Side → Side → (Band → Grid) → Bool
level_has F W H p = both (rows_have W H p) (columns_have F W H p)
