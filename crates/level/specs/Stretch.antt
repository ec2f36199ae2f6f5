-- A level's stretch of the line store on the way back: m rows of as many numbers as it has columns, each in halves. The level's rows are told by their
-- coordinates past the last even coordinate that is not after its start: row r is at start % 2 + r, and set n has the rows at 2n (low) and 2n + 1 (high).
-- The row at q stands in slot q mod m: there its coefficients are collected, and there they become the row. The 5/3 has four rows (document 01), the integer
-- 9/7 eight (document 02, Q-8).
use Rattle.std.specs.Prelude.{◌≡◌, Bool, true, ℕ, ◌+◌, ◌-◌, ◌*◌, ◌%◌, ◌<◌, ℤ, ltb, leb}
use Rattle.std.specs.Int.Signed.{shr_z}
use Rattle.numbers.specs.Signal.{pick, windowed, spliced}
use Rattle.numbers.specs.Tests.{every}
use Rattle.lifting.specs.Line.{Half, lo, hi}
use Rattle.lifting.specs.Grid.{Side, count, joined, is_even}
use Rattle.lifting.specs.GridHalves.{halves_of, has_line_in}
use Rattle.lifting.specs.Rows.{row_changed}
use Rattle.wavelet.specs.Bands.{Grid, Band, across, down}
use Rattle.wavelet.specs.Levels.{next}
use Rattle.wavelet.specs.Order.{first_set, set_row, set_has}
use Rattle.level.specs.Tried.{Tried, passed, failed, outcome, bind}

-- where row r is, of rows that start at coordinate s
unfoldable pub local : ℕ → ℕ → ℕ
local s r = s % 2 + r

-- where the low row, or the high row, of set n is
unfoldable pub row_of_set : Half → ℕ → ℕ
row_of_set lo n = 2 * n
row_of_set hi n = 2 * n + 1

-- where a half of a row begins
unfoldable pub half_place : Half → Side → ℕ
half_place lo W = 0
half_place hi W = count lo W

-- the first place past the rows, counted as the places of rows are
unfoldable pub end_of : Side → ℕ
end_of H = H.start % 2 + H.length

-- does set n have a low row? The first set of a level that starts at an odd coordinate has none.
unfoldable pub has_low : Side → ℕ → Bool
has_low H n = leb (first_set H lo) n

-- What is done to the row at q, a row of low-low values of level k that has just been made, before it is used: it is left, or changed, or nothing goes on.
abbrev pub Admission : Type 0
Admission = ℕ → ℕ → ℕ → (ℕ → ℤ) → Tried

module _ (m : ℕ) where
  abbrev pub slot : ℕ → ℕ
  slot q = q % m

  -- where the row at q begins, of w columns
  unfoldable pub row_place : ℕ → ℕ → ℕ
  row_place w q = slot q * w

  -- the row of a band of set n, the numbers v, fed
  unfoldable pub band_fed : Side → Band → ℕ → (ℕ → ℤ) → (ℕ → ℤ) → ℕ → ℤ
  band_fed W b n v x = spliced (row_place W.length (row_of_set (down b) n) + half_place (across b) W) (count (across b) W) v x

  -- the row in halves that stands in the slot of the row at q
  unfoldable pub row_in : ℕ → ℕ → (ℕ → ℤ) → ℕ → ℤ
  row_in w q x = windowed (row_place w q) w x

  -- whether it is a line's
  unfoldable pub row_has_line : Side → ℕ → (ℕ → ℤ) → Bool
  row_has_line W q x = has_line_in W (row_in W.length q x)

  -- the row at t changed by f of its own numbers and those of the rows at l and r in the same columns
  unfoldable pub row_by : (ℤ → ℤ → ℤ → ℤ) → ℕ → ℕ → ℕ → ℕ → (ℕ → ℤ) → ℕ → ℤ
  row_by f w t l r x = row_changed f w w (slot t) (slot l) (slot r) x

  -- the row at q halved, and whether each of its numbers is even
  unfoldable pub row_halved : ℕ → ℕ → (ℕ → ℤ) → ℕ → ℤ
  row_halved w q x = spliced (row_place w q) w (λ i. shr_z (row_in w q x i) 2) x

  unfoldable pub row_is_even : ℕ → ℕ → (ℕ → ℤ) → Bool
  row_is_even w q x = every w (λ i. is_even (x (row_place w q + i)))

  -- The low-low row of set n is a row of the next level, whose memory follows this one: from halves into its own order, to the low half of the row at 2n.
  unfoldable pub low_row_taken : Side → Side → ℕ → (ℕ → ℤ) → ℕ → ℤ
  low_row_taken W H n x =
      spliced (row_place W.length (2 * n)) (count lo W)
      (joined (next W) (halves_of (next W) (windowed (m * W.length + row_place (count lo W) (local (next H).start (n - first_set H lo))) (count lo W) x)))
      x

  -- below the last level, if set n has a low row
  unfoldable pub low_taken : Bool → Side → Side → ℕ → (ℕ → ℤ) → ℕ → ℤ
  low_taken last W H n x = pick last x (pick (has_low H n) (low_row_taken W H n x) x)

  -- an only row made, at an odd coordinate: halved, if all of it is even, and admitted
  unfoldable pub single_made : Admission → ℕ → ℕ → ℕ → (ℕ → ℤ) → Tried
  single_made admit k w q x = pick (row_is_even w q x) (admit k w q (row_halved w q x)) failed

  -- a test of each value of level k's low-low part, as 14 is: the row is left if all of it passes
  unfoldable pub row_fits : (ℕ → ℤ → Bool) → ℕ → ℕ → ℕ → (ℕ → ℤ) → Bool
  row_fits test k w q x = every w (λ i. test k (x (row_place w q + i)))

  unfoldable pub admitted : (ℕ → ℤ → Bool) → Admission
  admitted test k w q x = outcome (row_fits test k w q x) x

  -- in the slot of the row at q stands a row by its halves: two band rows, or the even and the odd coordinates of a line
  abbrev pub RowStands : Side → (ℕ → ℤ) → ℕ → (Half → ℕ → ℤ) → Type 0
  RowStands W x q c = (h : Half) (i : ℕ) → i < count h W → x (row_place W.length q + (half_place h W + i)) ≡ c h i

  -- the row of band c of set n, if there is one
  abbrev pub BandStands : Side → Side → (Band → Grid) → ℕ → (ℕ → ℤ) → Band → Type 0
  BandStands W H p n x c =
      set_has W H c n ≡ true → (i : ℕ) → i < count (across c) W →
      x (row_place W.length (row_of_set (down c) n) + (half_place (across c) W + i)) ≡ p c (set_row H c n) i

  -- ---- along the row, as `back` does a row in halves in place
  module _ (back : Side → (ℕ → ℤ) → ℕ → ℤ) where
    -- the row at q lifted back, if it is a line's
    unfoldable pub row_unlifted : Side → ℕ → (ℕ → ℤ) → ℕ → ℤ
    row_unlifted W q x = spliced (row_place W.length q) W.length (back W (row_in W.length q x)) x

    unfoldable pub line_tried : Side → ℕ → (ℕ → ℤ) → Tried
    line_tried W q x = outcome (row_has_line W q x) (row_unlifted W q x)

    -- the rows of set n
    unfoldable pub low_tried : Side → Side → ℕ → (ℕ → ℤ) → Tried
    low_tried W H n x = pick (has_low H n) (line_tried W (2 * n) x) (passed x)

    unfoldable pub high_tried : Side → Side → ℕ → (ℕ → ℤ) → Tried
    high_tried W H n x = pick (ltb (2 * n + 1) (end_of H)) (line_tried W (2 * n + 1) x) (passed x)

    unfoldable pub set_unlifted : Side → Side → ℕ → (ℕ → ℤ) → Tried
    set_unlifted W H n x = bind (low_tried W H n x) (high_tried W H n)
