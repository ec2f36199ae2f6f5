-- The order in which the band rows of a map on the grid are made as its rows come in. Document 01, "The writer"; document 02, Q-3.
-- A level k has the columns W and l levels below it; L counts the levels from level k on, 0: none. The rows of a level and of a band are counted from 0, and so
-- are its sets: set n has the rows at the coordinates 2n and 2n + 1 past the last even coordinate that is not after the level's start. So where a level
-- starts at an odd coordinate, its set 0 has a high row alone, and low row n is in set n + 1.
use Rattle.std.specs.Prelude.{Bool, List, [], ◌∷◌, ◌++◌, ℕ, zero, suc, ◌+◌, ◌-◌, ◌*◌, ◌/◌, ◌%◌, ltb, leb, eqb}
use Rattle.numbers.specs.Signal.{pick, both}
use Rattle.lifting.specs.Line.{Half, lo, hi}
use Rattle.lifting.specs.Grid.{Side, side, count}
use Rattle.wavelet.specs.Bands.{Band, LL, HL, LH, HH, code, across, down}
use Rattle.wavelet.specs.Levels.{next}

-- a band row's name: its level from 1, its band, its number
pub record RowName : Type 0 where
  pub level : ℕ
  pub band : Band
  pub row : ℕ

abbrev pub row_name : ℕ → Band → ℕ → RowName
row_name k b n = record { level = k; band = b; row = n }

-- the first set that has a row of half h: row n of that half is in set first_set + n
unfoldable pub first_set : Side → Half → ℕ
first_set H lo = H.start % 2
first_set H hi = 0

-- the last set of a level
unfoldable pub last_set : Side → ℕ
last_set H = (H.start % 2 + (H.length - 1)) / 2

-- the row of band b that set n has, and whether it has one: "A band with no row or no column has no band row."
unfoldable pub set_row : Side → Band → ℕ → ℕ
set_row H b n = n - first_set H (down b)

unfoldable pub set_has : Side → Side → Band → ℕ → Bool
set_has W H b n =
    both (ltb 0 (count (across b) W))
    (both (leb (first_set H (down b)) n) (ltb (set_row H b n) (count (down b) H)))

-- the rows of set n, of those of these bands that it has
unfoldable pub rows_of : ℕ → Side → Side → ℕ → List Band → List RowName
rows_of k W H n [] = []
rows_of k W H n (b ∷ bs) = pick (set_has W H b n) (row_name k b (set_row H b n) ∷ rows_of k W H n bs) (rows_of k W H n bs)

-- "Its rows wait in the order HL, LH, HH (at level L: LL, HL, LH, HH)."
unfoldable pub handed_out : ℕ → List Band
handed_out zero = LL ∷ HL ∷ LH ∷ HH ∷ []
handed_out (suc l) = HL ∷ LH ∷ HH ∷ []

-- set n of level k
unfoldable pub set_rows : ℕ → ℕ → Side → Side → ℕ → List RowName
set_rows l k W H n = rows_of k W H n (handed_out l)

-- f 0, then f 1, to f (n − 1)
unfoldable pub in_turn : {A : Type 0} → ℕ → (ℕ → List A) → List A
in_turn zero f = []
in_turn (suc n) f = in_turn n f ++ f n

-- A level's look-ahead a is its filter's: 1 for the 5/3, 2 for the 9/7.
-- "Set n of a level is made when its row 2n+2 is complete" (01; Q-8: "when row 2n+4 is complete"): the row at coordinate 2n + 2a. "Then its LL row goes to the
-- next level, and all that this makes there comes before anything else.": what row r makes of a level whose rows start at coordinate s. A set of a high row
-- alone has no LL row.
unfoldable pub made_by : ℕ → ℕ → ℕ → Side → ℕ → ℕ → List RowName
made_by a zero k W s r = []
made_by a (suc l) k W s r =
    pick (both (eqb ((s % 2 + r) % 2) 0) (leb (2 * a) (s % 2 + r)))
    (set_rows l k W (side s (r + 1)) ((s % 2 + r) / 2 - a)
    ++ pick (leb (s % 2) ((s % 2 + r) / 2 - a)) (made_by a l (suc k) (next W) ((s + 1) / 2) ((s % 2 + r) / 2 - a - s % 2)) [])
    []

-- the first set that the rows H do not make: it and the sets after it, at most a, are left for the finish
unfoldable pub unmade : ℕ → Side → ℕ
unmade a H = last_set H + 1 - a

-- "or when the map is finished. At the finish level 1 closes first, then level 2, and so on." (Q-8: "at the finish, in order"):
-- what the finish makes of the rows H of level k: each set left with what its LL row makes, then the closing of the next level
unfoldable pub closing : ℕ → ℕ → ℕ → Side → Side → List RowName
closing a zero k W H = []
closing a (suc l) k W H =
    in_turn (last_set H + 1 - unmade a H)
    (λ i. set_rows l k W H (unmade a H + i)
    ++ pick (leb (first_set H lo) (unmade a H + i)) (made_by a l (suc k) (next W) (next H).start (unmade a H + i - first_set H lo)) [])
    ++ closing a l (suc k) (next W) (next H)

-- the rows that the rules make of so many whole rows, the first at coordinate s, of the columns W at L levels, and of the finish if there was one
unfoldable pub made : ℕ → Side → ℕ → ℕ → ℕ → Bool → List RowName
made a W s L rows finished = in_turn rows (made_by a L 1 W s) ++ pick finished (closing a L 1 W (side s rows)) []

-- ---- how often a name stands in a list
unfoldable pub same_name : RowName → RowName → Bool
same_name x y = both (eqb x.level y.level) (both (eqb (code x.band) (code y.band)) (eqb x.row y.row))

unfoldable pub times : RowName → List RowName → ℕ
times x [] = 0
times x (y ∷ l) = pick (same_name x y) 1 0 + times x l
