-- The order in which a writer's band rows are made, in grid coordinates. Document 01, "The writer"; document 02, Q-3 and Q-8.
-- Level k has the columns W and the rows H of the grid, and l levels follow it.
use Rattle.std.specs.Prelude.{Bool, List, [], ◌∷◌, ◌++◌, ℕ, zero, suc, ◌+◌, ◌-◌, ◌*◌, ◌/◌, ltb, leb, eqb}
use Rattle.numbers.specs.Signal.{pick, both}
use Rattle.lifting.specs.Line.{lo}
use Rattle.wavelet.specs.Bands.{Band, LL, HL, LH, HH, across, down}
use Rattle.wavelet.specs.Order.{RowName, row_name, in_turn}
use Rattle.standard.specs.Line.{Interval, interval, half_of}
use Rattle.standard.specs.Transform.{size}

-- f a, then f (a + 1), to f (b − 1)
unfoldable pub between : {A : Type 0} → ℕ → ℕ → (ℕ → List A) → List A
between a b f = in_turn (b - a) (λ i. f (a + i))

-- Set n has the rows 2n and 2n + 1 of its level: of LL and HL, and of LH and HH, the row at the band's own coordinate n. Its name has its number from 0.
-- "A band with no row or no column has no band row."
unfoldable pub has : Interval → ℕ → Bool
has I n = both (leb I.i0 n) (ltb n I.i1)

unfoldable pub band_rows : ℕ → Interval → Interval → ℕ → List Band → List RowName
band_rows k W H n [] = []
band_rows k W H n (b ∷ bs) =
    pick (both (ltb 0 (size (half_of (across b) W))) (has (half_of (down b) H) n))
    (row_name k b (n - (half_of (down b) H).i0) ∷ band_rows k W H n bs)
    (band_rows k W H n bs)

-- "Its rows wait in the order HL, LH, HH (at level L: LL, HL, LH, HH)."
unfoldable pub waiting : ℕ → ℕ → Interval → Interval → ℕ → List RowName
waiting zero k W H n = band_rows k W H n (LL ∷ HL ∷ LH ∷ HH ∷ [])
waiting (suc l) k W H n = band_rows k W H n (HL ∷ LH ∷ HH ∷ [])

-- "Then its LL row goes to the next level, and all that this makes there comes before anything else." LL's row n is row n of the next level's grid; a set of a
-- high row alone has none. `below v` is what the row at coordinate v of the next level makes.
unfoldable pub set_made : ℕ → ℕ → Interval → Interval → ℕ → (ℕ → List RowName) → List RowName
set_made l k W H n below = waiting l k W H n ++ pick (leb H.i0 (2 * n)) (below n) []

-- "Set n of a level is made when its row 2n+2 is complete": the row 2n + late, of the 9/7 "row 2n+4".
unfoldable pub late_of : ℕ → ℕ
late_of zero = 2
late_of (suc f) = 4

unfoldable pub row_for : ℕ → ℕ → ℕ
row_for late n = 2 * n + late

-- what row v makes of level k, whose rows start at v0: of the sets begun that whose row it is
unfoldable pub made_by : ℕ → ℕ → ℕ → Interval → ℕ → ℕ → List RowName
made_by late zero k W v0 v = []
made_by late (suc l) k W v0 v =
    between (v0 / 2) (v / 2 + 1)
    (λ n. pick (eqb v (row_for late n)) (set_made l k W (interval v0 (v + 1)) n (made_by late l (suc k) (half_of lo W) ((v0 + 1) / 2))) [])

-- "or when the map is finished": the sets of level k whose row did not come, in order. "At the finish level 1 closes first, then level 2, and so on."
unfoldable pub closing : ℕ → ℕ → ℕ → Interval → Interval → List RowName
closing late zero k W H = []
closing late (suc l) k W H =
    between (H.i0 / 2) ((H.i1 + 1) / 2)
    (λ n. pick (leb H.i1 (row_for late n)) (set_made l k W H n (made_by late l (suc k) (half_of lo W) (half_of lo H).i0)) [])
    ++ closing late l (suc k) (half_of lo W) (half_of lo H)

-- the band rows made of so many whole rows, the first at coordinate v0, of the columns W at L levels, and of the finish if there was one
unfoldable pub made : ℕ → Interval → ℕ → ℕ → ℕ → Bool → List RowName
made late W v0 L rows finished =
    between v0 (v0 + rows) (made_by late L 1 W v0) ++ pick finished (closing late L 1 W (interval v0 (v0 + rows))) []
