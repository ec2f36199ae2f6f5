-- Where band rows stand in the plane, and which there are. Document 01, "The plane".
use Rattle.std.specs.Prelude.{ℕ, ◌+◌, ◌-◌, ◌*◌}
use Rattle.lifting.specs.Line.{count}
use Rattle.wavelet.specs.Bands.{Band, LL, HL, LH, HH, across, down}
use Rattle.standard.specs.ZeroLevels.{size}

-- rows and columns of a band of level k, from 1: what level k − 1 has, deinterleaved. "LL and LH rows have W(k) values, HL and HH rows W(k−1) − W(k)."
unfoldable pub band_rows : ℕ → ℕ → Band → ℕ
band_rows H k b = count (down b) (size (k - 1) H)

unfoldable pub band_columns : ℕ → ℕ → Band → ℕ
band_columns W k b = count (across b) (size (k - 1) W)

-- "At level k: LL row r starts at r × W; HL row r at r × W + W(k); LH row r at (H(k) + r) × W; HH row r at (H(k) + r) × W + W(k)."
unfoldable pub band_start : ℕ → ℕ → ℕ → Band → ℕ → ℕ
band_start W H k LL r = r * W
band_start W H k HL r = r * W + size k W
band_start W H k LH r = (size k H + r) * W
band_start W H k HH r = (size k H + r) * W + size k W
