-- The order in which the band rows of a map at origin 0 are made as its rows come in. Document 01, "The writer".
-- A level k has w columns and l levels below it; L counts the levels from level k on, 0: none.
use Rattle.std.specs.Prelude.{Bool, List, [], ◌∷◌, ◌++◌, ℕ, zero, suc, ◌+◌, ◌-◌, ◌/◌, ◌%◌, ltb, eqb}
use Rattle.numbers.specs.Signal.{pick, both}
use Rattle.lifting.specs.Line.{lo, count}
use Rattle.wavelet.specs.Bands.{Band, across, down}
use Rattle.wavelet.specs.Order.{RowName, row_name, handed_out, in_turn}

-- Has band b a row n, at a level of w columns and m rows? "A band with no row or no column has no band row."
unfoldable pub has_row : ℕ → ℕ → Band → ℕ → Bool
has_row w m b n = both (ltb 0 (count (across b) w)) (ltb n (count (down b) m))

-- row n of each of these bands that has it
unfoldable pub rows_of : ℕ → ℕ → ℕ → ℕ → List Band → List RowName
rows_of k w m n [] = []
rows_of k w m n (b ∷ bs) = pick (has_row w m b n) (row_name k b n ∷ rows_of k w m n bs) (rows_of k w m n bs)

-- set n of level k, which has m rows
unfoldable pub set_rows : ℕ → ℕ → ℕ → ℕ → ℕ → List RowName
set_rows l k w m n = rows_of k w m n (handed_out l)

-- "Set n of a level is made when its row 2n+2 is complete. Then its LL row goes to the next level, and all that this makes there comes before anything else.":
-- what row r of level k makes
unfoldable pub made_by : ℕ → ℕ → ℕ → ℕ → List RowName
made_by zero k w r = []
made_by (suc l) k w r =
    pick (both (eqb (r % 2) 0) (ltb 0 r))
    (set_rows l k w (r + 1) (r / 2 - 1) ++ made_by l (suc k) (count lo w) (r / 2 - 1))
    []

-- "or when the map is finished. At the finish level 1 closes first, then level 2, and so on.":
-- what the finish makes of m rows of level k: its last set, what that set's LL row makes, then the closing of the next level
unfoldable pub closing : ℕ → ℕ → ℕ → ℕ → List RowName
closing zero k w m = []
closing (suc l) k w m =
    (set_rows l k w m (count lo m - 1) ++ made_by l (suc k) (count lo w) (count lo m - 1))
    ++ closing l (suc k) (count lo w) (count lo m)

-- the rows that the rules make of so many whole rows of W heights at L levels, and of the finish if there was one
unfoldable pub made : ℕ → ℕ → ℕ → Bool → List RowName
made W L rows finished = in_turn rows (made_by L 1 W) ++ pick finished (closing L 1 W rows) []
