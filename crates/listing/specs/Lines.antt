-- The lines of a listing, as bytes. Document 01, "The listing program": "Output: a line with W, H and L; then for each band row drawn its level,
-- band, row and values, one space between fields."
-- 32 is a space, 10 a line feed.
use Rattle.std.specs.Prelude.{List, [], ◌∷◌, ◌++◌, ℕ, zero, suc, ℤ}
use Rattle.numbers.specs.Word.{whole}
use Rattle.lifting.specs.Grid.{side}
use Rattle.lifting.specs.FiveThree.{five_three_filter}
use Rattle.wavelet.specs.Bands.{Grid, Band, LL, HL, LH, HH}
use Rattle.wavelet.specs.Levels.{level_band}
use Rattle.wavelet.specs.View.{band_columns}
use Rattle.wavelet.specs.Order.{RowName}
use Rattle.text.specs.Decimal.{numeral, integer}

-- 72 is H, 76 is L
abbrev pub band_letters : Band → List ℕ
band_letters LL = 76 ∷ 76 ∷ []
band_letters HL = 72 ∷ 76 ∷ []
band_letters LH = 76 ∷ 72 ∷ []
band_letters HH = 72 ∷ 72 ∷ []

-- the first n numbers, a space before each
unfoldable pub spaced : ℕ → (ℕ → ℤ) → List ℕ
spaced zero y = []
spaced (suc n) y = spaced n y ++ (32 ∷ integer (y n))

-- level, band and row
unfoldable pub row_head : ℕ → Band → ℕ → List ℕ
row_head k b r = numeral k ++ (32 ∷ band_letters b) ++ (32 ∷ numeral r)

-- a band row with n values
unfoldable pub row_line : ℕ → Band → ℕ → ℕ → (ℕ → ℤ) → List ℕ
row_line k b r n y = row_head k b r ++ spaced n y ++ (10 ∷ [])

-- the line of a band row of the W × H map g: T.800's whole numbers
unfoldable pub line_of : ℕ → ℕ → Grid → RowName → List ℕ
line_of W H g x =
    row_line x.level x.band x.row (band_columns (side 0 W) x.level x.band)
    (level_band five_three_filter whole (side 0 W) (side 0 H) g x.level x.band x.row)

unfoldable pub lines_of : ℕ → ℕ → Grid → List RowName → List ℕ
lines_of W H g [] = []
lines_of W H g (x ∷ l) = line_of W H g x ++ lines_of W H g l

unfoldable pub size_line : ℕ → ℕ → ℕ → List ℕ
size_line W H L = numeral W ++ (32 ∷ numeral H) ++ (32 ∷ numeral L) ++ (10 ∷ [])
