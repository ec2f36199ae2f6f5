-- The change of a single height that is nearest to altering a cell of the level-1 LL. Document 02, Q-12: "the change of a single height, staying in 0 to
-- 65,535, that alters the cell's value with the smallest difference between new and old height; ties go to a raise before a cut, then the upper row, then the
-- left column".
use Rattle.std.specs.Prelude.{◌≡◌, ◌⊎◌, List, ℕ, ◌+◌, ◌-◌, ◌*◌, ◌≤◌, ◌<◌, ℤ, pos, get_or, ltb, eqb}
use Rattle.numbers.specs.Signal.{pick, both}
use Rattle.numbers.specs.Word.{whole}
use Rattle.lifting.specs.Grid.{side}
use Rattle.lifting.specs.FiveThree.{five_three_filter}
use Rattle.wavelet.specs.Limits.{max_sample}
use Rattle.wavelet.specs.Bands.{LL}
use Rattle.wavelet.specs.Levels.{level_band}
use Rattle.nearest_change.specs.declared.Change.{Change}

-- heights by row and column
abbrev pub Ground : Type 0
Ground = ℕ → ℕ → ℕ

-- those of a map of W columns as they follow each other in memory
abbrev pub ground_of : ℕ → List ℕ → Ground
ground_of W heights r c = get_or heights (r * W + c) 0

-- the cells of the level-1 LL of a map of H rows of W, by the 5/3 at origin 0
unfoldable pub cell_of : ℕ → ℕ → Ground → ℕ → ℕ → ℤ
cell_of W H g = level_band five_three_filter whole (side 0 W) (side 0 H) (λ r c. pos (g r c)) 1 LL

-- the ground with the one height changed
unfoldable pub changed : Change → Ground → Ground
changed d g r c = pick (both (eqb r d.row) (eqb c d.column)) d.height (g r c)

-- a change of one of the map's heights to another height that alters the cell in row r and column c
pub record Alters (W H : ℕ) (g : Ground) (r c : ℕ) (d : Change) : Type 0 where
  pub row_in : d.row < H
  pub column-in : d.column < W
  pub height_in : d.height ≤ max_sample
  pub alters : cell_of W H (changed d g) r c ≡ cell_of W H g r c → ⊥

-- the difference between new and old height, and whether it is a raise, 0, or a cut, 1
unfoldable pub difference : Ground → Change → ℕ
difference g d = (d.height - g d.row d.column) + (g d.row d.column - d.height)

unfoldable pub cut : Ground → Change → ℕ
cut g d = pick (ltb d.height (g d.row d.column)) 1 0

-- the smaller number comes first; where they are equal, the rest decides
abbrev pub first : ℕ → ℕ → Type 0 → Type 0
first m n rest = (m < n) ⊎ ((m ≡ n) × rest)

unfoldable pub Before : Ground → Change → Change → Type 0
Before g d e =
    first (difference g d) (difference g e)
    (first (cut g d) (cut g e)
    (first d.row e.row
    (d.column < e.column)))

-- the nearest change: one that alters the cell, and every other one that does comes after it
pub record IsNearest (W H : ℕ) (g : Ground) (r c : ℕ) (d : Change) : Type 0 where
  pub alters : Alters W H g r c d
  pub others : (e : Change) → Alters W H g r c e → (e ≡ d) ⊎ Before g d e
