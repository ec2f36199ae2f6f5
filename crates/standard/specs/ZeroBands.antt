-- One level of a map at origin 0: all columns lifted, then all rows. Document 01, "The lifting of a line".
-- Sizes are numbers: W columns, H rows.
use Rattle.std.specs.Prelude.{ℕ, ℤ}
use Rattle.lifting.specs.Line.{Half, line_forward, line_back}
use Rattle.wavelet.specs.Bands.{Grid, Band, across, down, band_of}

-- "One level lifts all columns": column j of the grid as a line of H samples, half h of its values
unfoldable pub columns_lifted : (ℤ → ℤ) → ℕ → Grid → Half → Grid
columns_lifted keep H g h r c = line_forward keep H (λ i. g i c) h r

-- "then all rows"
unfoldable pub subband : (ℤ → ℤ) → ℕ → ℕ → Grid → Band → Grid
subband keep W H g b r = line_forward keep W (columns_lifted keep H g (down b) r) (across b)

-- "Back: rows, then columns."
unfoldable pub rows_unlifted : (ℤ → ℤ) → ℕ → (Band → Grid) → Half → Grid
rows_unlifted keep W p h r = line_back keep W (λ a. p (band_of a h) r)

unfoldable pub level_back : (ℤ → ℤ) → ℕ → ℕ → (Band → Grid) → Grid
level_back keep W H p r c = line_back keep H (λ h i. rows_unlifted keep W p h i c) r
