-- Where band rows stand in the plane of a map on the grid, and which there are. Document 01, "The plane".
use Rattle.std.specs.Prelude.{◌≡◌, ℕ, ◌+◌, ◌-◌, ◌*◌, ◌≤◌, ◌<◌}
use Rattle.lifting.specs.Grid.{Side, count}
use Rattle.wavelet.specs.Bands.{Band, LL, HL, LH, HH, across, down}
use Rattle.wavelet.specs.Levels.{side_at}

-- rows and columns of a band of level k, from 1: what level k − 1 has, deinterleaved. "LL and LH rows have W(k) values, HL and HH rows W(k−1) − W(k)."
unfoldable pub band_rows : Side → ℕ → Band → ℕ
band_rows H k b = count (down b) (side_at (k - 1) H)

unfoldable pub band_columns : Side → ℕ → Band → ℕ
band_columns W k b = count (across b) (side_at (k - 1) W)

-- "At level k: LL row r starts at r × W; HL row r at r × W + W(k); LH row r at (H(k) + r) × W; HH row r at (H(k) + r) × W + W(k)."
unfoldable pub band_start : Side → Side → ℕ → Band → ℕ → ℕ
band_start W H k LL r = r * W.length
band_start W H k HL r = r * W.length + (side_at k W).length
band_start W H k LH r = ((side_at k H).length + r) * W.length
band_start W H k HH r = ((side_at k H).length + r) * W.length + (side_at k W).length

-- Row r of band b of level k stands in the plane of L levels: "LL is kept at level L only", and "A band with no row or no column has no band row."
pub record Kept (W H : Side) (L k : ℕ) (b : Band) (r : ℕ) : Type 0 where
  pub deep : 1 ≤ k
  pub most : k ≤ L
  pub last : b ≡ LL → k ≡ L
  pub columns : 0 < band_columns W k b
  pub row : r < band_rows H k b
