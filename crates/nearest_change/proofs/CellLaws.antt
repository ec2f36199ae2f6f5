-- A cell as the low value of the low values of its columns; the heights that it reads. Assumes nothing.
use mathlib.Core.Path.{◌≡◌, refl, ap}
use Prim.Native.Nat.{ℕ, ◌+◌, ◌*◌, ◌≤◌, ◌<◌}
use lib.IntN.{ℤ, pos}
use Rattle.numbers.specs.Word.{whole}
use Rattle.lifting.specs.Line.{lo}
use Rattle.lifting.specs.Grid.{side, count, line_forward}
use Rattle.lifting.proofs.Reach.{low_reads}
use Rattle.wavelet.specs.Bands.{across, down, columns_lifted, subband}
use Rattle.wavelet.specs.Levels.{side_at, approximation, level_band}
use Rattle.nearest_change.specs.NearestChange.{Ground, cell_of}

-- low value r of column j
abbrev pub low_at : ℕ → Ground → ℕ → ℕ → ℤ
low_at H g r j = line_forward whole (side 0 H) (λ i. pos (g i j)) lo r

pub cell-is : (W H : ℕ) (g : Ground) (r c : ℕ) → cell_of W H g r c ≡ line_forward whole (side 0 W) (low_at H g r) lo c
unfolding cell_of level_band approximation side_at subband columns_lifted down across
cell-is W H g r c = refl

-- the heights within two rows and two columns of (2r, 2c) alone are read
pub cell-reads : (W H : ℕ) (g g' : Ground) (r c : ℕ) → r < count lo (side 0 H) → c < count lo (side 0 W)
    → ((i j : ℕ) → i < H → j < W → 2 * r ≤ i + 2 → i ≤ 2 * r + 2 → 2 * c ≤ j + 2 → j ≤ 2 * c + 2 → g i j ≡ g' i j)
    → cell_of W H g r c ≡ cell_of W H g' r c
cell-reads W H g g' r c p q e =
    rw (cell-is W H g r c, cell-is W H g' r c)
    (low_reads whole W (low_at H g r) (low_at H g' r) c q
    (λ j a b d. low_reads whole H (λ i. pos (g i j)) (λ i. pos (g' i j)) r p (λ i f h k. ap pos (e i j f a h k b d))))
