-- The file of a plane, as a list of bytes. docs/FORMAT.md.
use Rattle.std.specs.Prelude.{◌≡◌, List, [], ◌∷◌, ◌++◌, ℕ, zero, suc, ◌+◌, ◌*◌, ◌%◌, ◌^◌, ◌≤◌, ◌<◌, ℤ, pos, ◌*ℤ◌}
use Rattle.std.specs.Int.Signed.{shr_z}
use Rattle.wavelet.specs.declared.shape.Shape.{Shape}
use Rattle.wavelet.specs.Shape.{columns, rows}
use Rattle.wavelet.specs.Bands.{Band, LL, HL, LH, HH, code}
use Rattle.wavelet.specs.Order.{RowName}
use Rattle.wavelet.specs.Steps.{steps, band_rows_of}
use Rattle.wavelet.specs.View.{band_columns, band_start, Kept}
use Rattle.filters.specs.Filters.{filter_of}
use Rattle.ground_file.specs.Groups.{zigzag, bytes_of, row_bytes}

-- "Header, 24 bytes: 89 47 4E 44 0D 0A 1A 0A; version 1, filter, levels, step, one byte each; x, y, width, two bytes each; height, four; two zero bytes."
unfoldable pub header_of : Shape → ℕ → List ℕ
header_of s q =
    137 ∷ 71 ∷ 78 ∷ 68 ∷ 13 ∷ 10 ∷ 26 ∷ 10 ∷ 1 ∷ s.filter ∷ s.levels ∷ q
    ∷ (bytes_of 2 s.x ++ (bytes_of 2 s.y ++ (bytes_of 2 s.width ++ (bytes_of 4 s.height ++ (0 ∷ 0 ∷ [])))))

-- "an LL row as it is, the values of the others divided by the step"
unfoldable pub stored : ℕ → Band → ℤ → ℤ
stored q LL v = v
stored q HL v = shr_z v q
stored q LH v = shr_z v q
stored q HH v = shr_z v q

-- the first n numbers of a signal
unfoldable pub listed : ℕ → (ℕ → ℕ) → List ℕ
listed zero x = []
listed (suc n) x = x 0 ∷ listed n (λ i. x (suc i))

-- the numbers of a band row that stands in the plane p
unfoldable pub numbers_of : Shape → ℕ → (ℕ → ℤ) → RowName → List ℕ
numbers_of s q p x =
    listed (band_columns (columns s) x.level x.band)
    (λ i. zigzag (stored q x.band (p (band_start (columns s) (rows s) x.level x.band x.row + i))))

-- "Every band row, in the order in which the reader of that shape wants them"
unfoldable pub rows_bytes : Shape → ℕ → (ℕ → ℤ) → List RowName → List ℕ
rows_bytes s q p [] = []
rows_bytes s q p (x ∷ l) = row_bytes (numbers_of s q p x) ++ rows_bytes s q p l

abbrev pub wanted : Shape → List RowName
wanted s = band_rows_of (steps (filter_of s.filter).ahead (columns s) (rows s) s.levels)

unfoldable pub body_of : Shape → ℕ → (ℕ → ℤ) → List ℕ
body_of s q p = header_of s q ++ rows_bytes s q p (wanted s)

-- "Four bytes: all bytes before them as one number, the first byte highest, modulo the prime 4,293,501,227."
unfoldable pub prime : ℕ
prime = 4293501227

unfoldable pub as_number : ℕ → List ℕ → ℕ
as_number n [] = n
as_number n (b ∷ l) = as_number (256 * n + b) l

unfoldable pub file_of : Shape → ℕ → (ℕ → ℤ) → List ℕ
file_of s q p = body_of s q p ++ bytes_of 4 (as_number 0 (body_of s q p) % prime)

-- What a file can hold: numbers of a shape that have room in the header, and in each kept band row numbers that have room in 28 bits, of which those of HL, LH
-- and HH are multiples of the step. (A shape that passes 2, 3, 18 and 4 and a plane that passes 7 are such: no level's range needs more.)
pub record Fits (s : Shape) (q : ℕ) (p : ℕ → ℤ) : Type 0 where
  pub step : 1 ≤ q
  pub levels : 1 ≤ s.levels
  pub across : s.x < 65536
  pub down : s.y < 65536
  pub width : s.width < 65536
  pub height : s.height < 4294967296
  pub small : (k : ℕ) (b : Band) (r i : ℕ) → Kept (columns s) (rows s) s.levels k b r → i < band_columns (columns s) k b
      → zigzag (stored q b (p (band_start (columns s) (rows s) k b r + i))) < 2 ^ 28
  pub multiple : (k : ℕ) (b : Band) (r i : ℕ) → Kept (columns s) (rows s) s.levels k b r → i < band_columns (columns s) k b → 0 < code b
      → p (band_start (columns s) (rows s) k b r + i) ≡ pos q *ℤ shr_z (p (band_start (columns s) (rows s) k b r + i)) q
