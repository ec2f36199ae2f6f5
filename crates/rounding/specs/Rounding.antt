-- A rounded plane. Document 02, Q-10: "each HL, LH and HH value goes toward zero to the nearest multiple of a step q, 1 to 64; LL stays."
use Rattle.std.specs.Prelude.{ℕ, zero, suc, ◌*◌, ◌/◌, ℤ, pos, negsuc, neg_ℤ}
use Rattle.numbers.specs.Signal.{pick}
use Rattle.lifting.specs.Grid.{Side, side}
use Rattle.wavelet.specs.Bands.{Grid, Band, LL, HL, LH, HH}
use Rattle.wavelet.specs.Levels.{next}
use Rattle.wavelet.specs.Plane.{in_corner, cells, flat}

-- toward zero to the nearest multiple of q
unfoldable pub toward_zero : ℕ → ℤ → ℤ
toward_zero q (pos n) = pos (n / q * q)
toward_zero q (negsuc n) = neg_ℤ (pos (suc n / q * q))

-- the plane x of L levels rounded, at row r and column c: in the shape of `plane_cell`. Where no level is left, it is LL.
unfoldable pub rounded_cell : ℕ → Side → Side → ℕ → Grid → Grid
rounded_cell zero W H q x r c = x r c
rounded_cell (suc L) W H q x r c = pick (in_corner W H r c) (rounded_cell L (next W) (next H) q x r c) (toward_zero q (x r c))

-- in memory, of W columns and H rows
unfoldable pub rounded_plane : ℕ → ℕ → ℕ → ℕ → (ℕ → ℤ) → ℕ → ℤ
rounded_plane L W H q x = flat W (rounded_cell L (side 0 W) (side 0 H) q (cells W x))

-- a value of a band: `rounded-places` says that each kept band row of the plane is rounded so
unfoldable pub band_rounded : ℕ → Band → ℤ → ℤ
band_rounded q LL v = v
band_rounded q HL v = toward_zero q v
band_rounded q LH v = toward_zero q v
band_rounded q HH v = toward_zero q v
