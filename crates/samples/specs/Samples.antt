-- The samples of document 01 that are marked P, in whole numbers: what each says, and the table of them; a table of samples at odd coordinates, and one of
-- the second filter; and one of each filter that tells the two apart.
use Rattle.std.specs.Prelude.{◌≡◌, true, false, List, [], ◌∷◌, ◌++◌, map as each, ℕ, zero, suc, ◌*◌, ℤ, pos, neg_ℤ, length}
use Rattle.numbers.specs.Signal.{at}
use Rattle.numbers.specs.Word.{whole}
use Rattle.lifting.specs.Line.{Half, lo, hi}
use Rattle.lifting.specs.Grid.{Side, side, count}
use Rattle.filters.specs.Filters.{filter_of}
use Rattle.wavelet.specs.Bands.{Grid, LL, HL, LH, HH}
use Rattle.wavelet.specs.Plane.{cells, plane_of}
use Rattle.wavelet.specs.Order.{RowName, row_name, made}
use Rattle.wavelet.specs.Steps.{Step, feed, draw, band_rows_of, steps}
use Rattle.wavelet.specs.Levels.{level_band}
use Rattle.wavelet.specs.View.{band_columns}
use Rattle.map_questions.specs.Calls.{backward_question}

-- the first n numbers of a signal
unfoldable pub listed : ℕ → (ℕ → ℤ) → List ℤ
listed zero x = []
listed (suc n) x = x 0 ∷ listed n (λ i. x (suc i))

-- by the filter of number f: all values of one half of a line that starts at coordinate s
unfoldable pub values : ℕ → Half → ℕ → List ℤ → List ℤ
values f h s l = listed (count h (side s (length l))) ((filter_of f).forward whole (side s (length l)) (at l) h)

-- a band row: its level, band and number, and its values
pub record BandRow : Type 0 where
  pub name : RowName
  pub values : List ℤ

-- the band row of that name, of a map of the columns W and the rows H
unfoldable pub band_row : ℕ → Side → Side → Grid → RowName → BandRow
band_row f W H g x =
    record { name = x; values = listed (band_columns W x.level x.band) (level_band (filter_of f) whole W H g x.level x.band x.row) }

-- f 0, f 1, to f (n − 1)
unfoldable pub counted : ℕ → (ℕ → ℕ) → List ℕ
counted zero g = []
counted (suc n) g = g 0 ∷ counted n (λ i. g (suc i))

unfoldable pub counts_of : ℕ → Side → Side → ℕ → List ℕ
counts_of f W H L =
    counted H.length (λ i. length (made (filter_of f).ahead W H.start L (suc i) false))
    ++ (length (made (filter_of f).ahead W H.start L H.length true) ∷ [])

-- a kind of sample
pub data Sample : Type 0 where
  -- where a line starts, the line, its low values and its high values
  line : ℕ → List ℤ → List ℤ → List ℤ → Sample
  -- levels, columns, rows, a map row by row, and its plane
  map : ℕ → Side → Side → List ℤ → List ℤ → Sample
  -- levels, columns, rows, a plane, and the number that the whole map's way back gives for it
  answer : ℕ → Side → Side → List ℤ → ℕ → Sample
  -- levels, columns, rows, a map row by row, and its band rows in the writer's order
  order : ℕ → Side → Side → List ℤ → List BandRow → Sample
  -- levels, columns and rows of a map, and the band rows that the reader wants for it, in their order
  wants : ℕ → Side → Side → List RowName → Sample
  -- levels, columns and rows of a map, and how many band rows the writer has made after its first row, its second and so on, and after the finish
  counts : ℕ → Side → Side → List ℕ → Sample
  -- levels, columns and rows of a map, and all that the reader wants for it, the draws too
  plays : ℕ → Side → Side → List Step → Sample

-- what makes a sample of each kind hold, by the filter of number f
pub data Holds (f : ℕ) : Sample → Type 0 where
  holds_line : {s : ℕ} {l low high : List ℤ} → values f lo s l ≡ low → values f hi s l ≡ high → Holds f (line s l low high)
  holds_map : {L : ℕ} {W H : Side} {g p : List ℤ} → listed (W.length * H.length) (plane_of (filter_of f) whole L W H (cells W.length (at g))) ≡ p
      → Holds f (map L W H g p)
  holds_answer : {L : ℕ} {W H : Side} {q : ℕ} {p : List ℤ} →
      backward_question f W H L (length p) (W.length * H.length) (W.length * H.length) (cells W.length (at p)) ≡ q → Holds f (answer L W H p q)
  holds_order : {L : ℕ} {W H : Side} {g : List ℤ} {l : List BandRow} →
      each (band_row f W H (cells W.length (at g))) (made (filter_of f).ahead W H.start L H.length true) ≡ l → Holds f (order L W H g l)
  holds_wants : {L : ℕ} {W H : Side} {l : List RowName} → band_rows_of (steps (filter_of f).ahead W H L) ≡ l → Holds f (wants L W H l)
  holds_counts : {L : ℕ} {W H : Side} {l : List ℕ} → counts_of f W H L ≡ l → Holds f (counts L W H l)
  holds_plays : {L : ℕ} {W H : Side} {l : List Step} → steps (filter_of f).ahead W H L ≡ l → Holds f (plays L W H l)

-- a side of n that starts at 0
abbrev pub zeroed : ℕ → Side
zeroed n = side 0 n

abbrev pub table : List Sample
table =
    line 0 (pos 1 ∷ pos 4 ∷ pos 2 ∷ pos 7 ∷ pos 3 ∷ []) (pos 3 ∷ pos 4 ∷ pos 6 ∷ []) (pos 3 ∷ pos 5 ∷ [])
    ∷ line 0 (pos 2 ∷ pos 0 ∷ []) (pos 1 ∷ []) (neg_ℤ (pos 2) ∷ [])
    ∷ line 0 (pos 5 ∷ pos 0 ∷ []) (pos 3 ∷ []) (neg_ℤ (pos 5) ∷ [])
    ∷ line 0 (pos 9 ∷ []) (pos 9 ∷ []) []
    -- rows (0, 2), (1, 1) at L = 1: LL 2, HL 1, LH 0, HH −2
    ∷ map 1 (zeroed 2) (zeroed 2) (pos 0 ∷ pos 2 ∷ pos 1 ∷ pos 1 ∷ []) (pos 2 ∷ pos 1 ∷ pos 0 ∷ neg_ℤ (pos 2) ∷ [])
    -- the column 1, 4, 2, 7 at L = 2: 2 LL 4, 2 LH 1, 1 LH 3 and 5
    ∷ map 2 (zeroed 1) (zeroed 4) (pos 1 ∷ pos 4 ∷ pos 2 ∷ pos 7 ∷ []) (pos 4 ∷ pos 1 ∷ pos 3 ∷ pos 5 ∷ [])
    ∷ order 2 (zeroed 1) (zeroed 4) (pos 1 ∷ pos 4 ∷ pos 2 ∷ pos 7 ∷ [])
    (record { name = row_name 1 LH 0; values = pos 3 ∷ [] }
    ∷ record { name = row_name 1 LH 1; values = pos 5 ∷ [] }
    ∷ record { name = row_name 2 LL 0; values = pos 4 ∷ [] }
    ∷ record { name = row_name 2 LH 0; values = pos 1 ∷ [] }
    ∷ [])
    ∷ wants 2 (zeroed 1) (zeroed 4) (row_name 2 LL 0 ∷ row_name 2 LH 0 ∷ row_name 1 LH 0 ∷ row_name 1 LH 1 ∷ [])
    ∷ map 5 (zeroed 1) (zeroed 1) (pos 65535 ∷ []) (pos 65535 ∷ [])
    ∷ answer 5 (zeroed 1) (zeroed 1) (pos 65535 ∷ []) 0
    ∷ answer 5 (zeroed 1) (zeroed 1) (pos 65536 ∷ []) 14
    -- "Level-1 coefficient 262,140 passes question 7, 262,141 does not.": as LL it is no map's, as the only value, at odd coordinates, it is one's (odd_table)
    ∷ answer 1 (zeroed 1) (zeroed 2) (pos 262140 ∷ pos 0 ∷ []) 14
    ∷ answer 1 (zeroed 1) (zeroed 2) (pos 262141 ∷ pos 0 ∷ []) 7
    ∷ []

-- samples of document 02, Q-3
abbrev pub odd_table : List Sample
odd_table =
    -- from coordinate 1 on: d(1) = 1 − 4, d(3) = 2 − 4, s(2) = 4 + ⌊(−3 − 2 + 2) / 4⌋
    line 1 (pos 1 ∷ pos 4 ∷ pos 2 ∷ []) (pos 3 ∷ []) (neg_ℤ (pos 3) ∷ neg_ℤ (pos 2) ∷ [])
    -- "a line of one sample at an odd coordinate becomes a high value of twice its size"
    ∷ line 1 (pos 5 ∷ []) [] (pos 10 ∷ [])
    ∷ map 1 (side 1 1) (side 1 1) (pos 65535 ∷ []) (pos 262140 ∷ [])
    ∷ answer 1 (side 1 1) (side 1 1) (pos 262140 ∷ []) 0
    ∷ answer 1 (side 1 1) (side 1 1) (pos 262141 ∷ []) 7
    -- halved once along the row, 2 is odd along the column
    ∷ answer 1 (side 1 1) (side 1 1) (pos 2 ∷ []) 14
    -- LH 8 and HH 6 are even, what the row is lifted back to is not
    ∷ answer 1 (zeroed 2) (side 1 1) (pos 8 ∷ pos 6 ∷ []) 14
    -- the column 1, 4, 2, 7 from coordinate 1 on: set 0 is a high row alone, at both levels
    ∷ order 2 (zeroed 1) (side 1 4) (pos 1 ∷ pos 4 ∷ pos 2 ∷ pos 7 ∷ [])
    (record { name = row_name 1 LH 0; values = neg_ℤ (pos 3) ∷ [] }
    ∷ record { name = row_name 1 LH 1; values = neg_ℤ (pos 3) ∷ [] }
    ∷ record { name = row_name 2 LH 0; values = neg_ℤ (pos 3) ∷ [] }
    ∷ record { name = row_name 2 LL 0; values = pos 5 ∷ [] }
    ∷ [])
    ∷ wants 2 (zeroed 1) (side 1 4) (row_name 1 LH 0 ∷ row_name 2 LH 0 ∷ row_name 2 LL 0 ∷ row_name 1 LH 1 ∷ [])
    ∷ []

-- samples of document 02, Q-8, for filter 1: its formulas worked by hand or by a second program
abbrev pub second_table : List Sample
second_table =
    line 0 (pos 1 ∷ pos 4 ∷ pos 2 ∷ pos 7 ∷ pos 3 ∷ []) (pos 2 ∷ pos 4 ∷ pos 5 ∷ []) (pos 3 ∷ pos 4 ∷ [])
    -- a line that is mirrored more than once: d = 0 − ⌊(9 (4 + 4) − (4 + 4) + 8) / 16⌋
    ∷ line 0 (pos 4 ∷ pos 0 ∷ []) (pos 2 ∷ []) (neg_ℤ (pos 4) ∷ [])
    -- three places before the first sample is the second, mirrored twice: d = 100 − ⌊(9 (0 + 0) − (0 + 0) + 8) / 16⌋
    ∷ line 1 (pos 100 ∷ pos 0 ∷ []) (pos 50 ∷ []) (pos 100 ∷ [])
    ∷ line 1 (pos 1 ∷ pos 4 ∷ pos 2 ∷ []) (pos 3 ∷ []) (neg_ℤ (pos 3) ∷ neg_ℤ (pos 2) ∷ [])
    ∷ line 0 (pos 100 ∷ pos 0 ∷ pos 0 ∷ pos 0 ∷ pos 0 ∷ pos 0 ∷ pos 0 ∷ pos 0 ∷ pos 50 ∷ [])
    (pos 72 ∷ neg_ℤ (pos 13) ∷ pos 2 ∷ neg_ℤ (pos 6) ∷ pos 36 ∷ []) (neg_ℤ (pos 56) ∷ pos 6 ∷ pos 3 ∷ neg_ℤ (pos 28) ∷ [])
    -- "a line of one sample, at either parity, follows the 5/3 rule"
    ∷ line 0 (pos 7 ∷ []) (pos 7 ∷ []) []
    ∷ line 1 (pos 5 ∷ []) [] (pos 10 ∷ [])
    -- 1 to 4 levels
    ∷ answer 4 (zeroed 1) (zeroed 1) (pos 65535 ∷ []) 0
    ∷ answer 5 (zeroed 1) (zeroed 1) (pos 65535 ∷ []) 4
    -- LL row 1 is in level 1's range, height row 2 is not a height
    ∷ answer 1 (zeroed 1) (zeroed 7) (pos 0 ∷ pos 70000 ∷ pos 0 ∷ pos 0 ∷ pos 0 ∷ pos 0 ∷ pos 0 ∷ []) 14
    -- "±65,535 × 6^k": 393,210 at level 1
    ∷ answer 1 (zeroed 1) (zeroed 2) (pos 393210 ∷ pos 0 ∷ []) 14
    ∷ answer 1 (zeroed 1) (zeroed 2) (pos 393211 ∷ pos 0 ∷ []) 7
    -- 2 columns, 12 rows, L = 2: set n comes with row 2n + 4; at the finish the sets left in order, each with all that it makes below before the next
    ∷ order 2 (zeroed 2) (zeroed 12)
    (pos 0 ∷ pos 33 ∷ pos 8 ∷ pos 41 ∷ pos 30 ∷ pos 13 ∷ pos 16 ∷ pos 49 ∷ pos 16 ∷ pos 49 ∷ pos 30 ∷ pos 13 ∷ pos 8 ∷ pos 41 ∷ pos 0 ∷ pos 33
    ∷ pos 6 ∷ pos 39 ∷ pos 26 ∷ pos 9 ∷ pos 10 ∷ pos 43 ∷ pos 8 ∷ pos 41 ∷ [])
    (record { name = row_name 1 HL 0; values = pos 45 ∷ [] }
    ∷ record { name = row_name 1 LH 0; values = pos 6 ∷ [] }
    ∷ record { name = row_name 1 HH 0; values = pos 25 ∷ [] }
    ∷ record { name = row_name 1 HL 1; values = neg_ℤ (pos 4) ∷ [] }
    ∷ record { name = row_name 1 LH 1; values = pos 5 ∷ [] }
    ∷ record { name = row_name 1 HH 1; values = pos 28 ∷ [] }
    ∷ record { name = row_name 1 HL 2; values = pos 27 ∷ [] }
    ∷ record { name = row_name 1 LH 2; values = neg_ℤ (pos 8) ∷ [] }
    ∷ record { name = row_name 1 HH 2; values = neg_ℤ (pos 53) ∷ [] }
    ∷ record { name = row_name 1 HL 3; values = pos 20 ∷ [] }
    ∷ record { name = row_name 1 LH 3; values = neg_ℤ (pos 6) ∷ [] }
    ∷ record { name = row_name 1 HH 3; values = pos 0 ∷ [] }
    ∷ record { name = row_name 1 HL 4; values = pos 20 ∷ [] }
    ∷ record { name = row_name 1 LH 4; values = neg_ℤ (pos 7) ∷ [] }
    ∷ record { name = row_name 1 HH 4; values = neg_ℤ (pos 50) ∷ [] }
    ∷ record { name = row_name 2 LL 0; values = pos 18 ∷ [] }
    ∷ record { name = row_name 2 LH 0; values = neg_ℤ (pos 1) ∷ [] }
    ∷ record { name = row_name 1 HL 5; values = pos 20 ∷ [] }
    ∷ record { name = row_name 1 LH 5; values = neg_ℤ (pos 3) ∷ [] }
    ∷ record { name = row_name 1 HH 5; values = pos 0 ∷ [] }
    ∷ record { name = row_name 2 LL 1; values = pos 29 ∷ [] }
    ∷ record { name = row_name 2 LH 1; values = neg_ℤ (pos 5) ∷ [] }
    ∷ record { name = row_name 2 LL 2; values = pos 19 ∷ [] }
    ∷ record { name = row_name 2 LH 2; values = pos 6 ∷ [] }
    ∷ [])
    -- set n makes rows 2n − 3 and 2n − 2, the first set row 0, the last set all that is left
    ∷ wants 2 (zeroed 2) (zeroed 12) (row_name 2 LL 0 ∷ row_name 2 LH 0 ∷ row_name 1 HL 0 ∷ row_name 1 LH 0 ∷ row_name 1 HH 0 ∷ row_name 2 LL 1
    ∷ row_name 2 LH 1 ∷ row_name 2 LL 2 ∷ row_name 2 LH 2 ∷ row_name 1 HL 1 ∷ row_name 1 LH 1 ∷ row_name 1 HH 1 ∷ row_name 1 HL 2 ∷ row_name 1 LH 2
    ∷ row_name 1 HH 2 ∷ row_name 1 HL 3 ∷ row_name 1 LH 3 ∷ row_name 1 HH 3 ∷ row_name 1 HL 4 ∷ row_name 1 LH 4 ∷ row_name 1 HH 4 ∷ row_name 1 HL 5
    ∷ row_name 1 LH 5 ∷ row_name 1 HH 5 ∷ [])
    ∷ []

-- The column 1, 4, 2, 7, 3, 9, 5 at L = 2, through the writer and through the reader, from coordinate 0 on and from coordinate 1 on: the values and their
-- order, when they are made, and all of the reader's steps. Worked by a second program that follows the sentences of 01 and 02.
abbrev pub seven_table : List Sample
seven_table =
    order 2 (zeroed 1) (zeroed 7) (pos 1 ∷ pos 4 ∷ pos 2 ∷ pos 7 ∷ pos 3 ∷ pos 9 ∷ pos 5 ∷ [])
    (record { name = row_name 1 LH 0; values = pos 3 ∷ [] }
    ∷ record { name = row_name 1 LH 1; values = pos 5 ∷ [] }
    ∷ record { name = row_name 1 LH 2; values = pos 5 ∷ [] }
    ∷ record { name = row_name 2 LL 0; values = pos 3 ∷ [] }
    ∷ record { name = row_name 2 LH 0; values = pos 0 ∷ [] }
    ∷ record { name = row_name 2 LL 1; values = pos 7 ∷ [] }
    ∷ record { name = row_name 2 LH 1; values = pos 2 ∷ [] }
    ∷ [])
    ∷ counts 2 (zeroed 1) (zeroed 7) (0 ∷ 0 ∷ 1 ∷ 1 ∷ 2 ∷ 2 ∷ 5 ∷ 7 ∷ [])
    ∷ plays 2 (zeroed 1) (zeroed 7)
    (feed (row_name 2 LL 0) ∷ feed (row_name 2 LH 0) ∷ feed (row_name 1 LH 0) ∷ draw 0 ∷ feed (row_name 2 LL 1) ∷ feed (row_name 2 LH 1)
    ∷ feed (row_name 1 LH 1) ∷ draw 1 ∷ draw 2 ∷ feed (row_name 1 LH 2) ∷ draw 3 ∷ draw 4 ∷ draw 5 ∷ draw 6 ∷ [])
    ∷ order 2 (zeroed 1) (side 1 7) (pos 1 ∷ pos 4 ∷ pos 2 ∷ pos 7 ∷ pos 3 ∷ pos 9 ∷ pos 5 ∷ [])
    (record { name = row_name 1 LH 0; values = neg_ℤ (pos 3) ∷ [] }
    ∷ record { name = row_name 1 LH 1; values = neg_ℤ (pos 3) ∷ [] }
    ∷ record { name = row_name 1 LH 2; values = neg_ℤ (pos 5) ∷ [] }
    ∷ record { name = row_name 2 LH 0; values = neg_ℤ (pos 2) ∷ [] }
    ∷ record { name = row_name 1 LH 3; values = neg_ℤ (pos 4) ∷ [] }
    ∷ record { name = row_name 2 LL 0; values = pos 5 ∷ [] }
    ∷ record { name = row_name 2 LH 1; values = pos 2 ∷ [] }
    ∷ [])
    ∷ counts 2 (zeroed 1) (side 1 7) (0 ∷ 1 ∷ 1 ∷ 2 ∷ 2 ∷ 4 ∷ 4 ∷ 7 ∷ [])
    ∷ plays 2 (zeroed 1) (side 1 7)
    (feed (row_name 1 LH 0) ∷ feed (row_name 2 LH 0) ∷ feed (row_name 2 LL 0) ∷ feed (row_name 2 LH 1) ∷ feed (row_name 1 LH 1) ∷ draw 0
    ∷ draw 1 ∷ feed (row_name 1 LH 2) ∷ draw 2 ∷ draw 3 ∷ feed (row_name 1 LH 3) ∷ draw 4 ∷ draw 5 ∷ draw 6 ∷ [])
    -- a predict step whose sum is negative and odd, floor going toward minus infinity: d = 0 − ⌊−3 / 2⌋ = 2
    ∷ line 0 (neg_ℤ (pos 1) ∷ pos 0 ∷ neg_ℤ (pos 2) ∷ []) (pos 0 ∷ neg_ℤ (pos 1) ∷ []) (pos 2 ∷ [])
    ∷ []

abbrev pub second_seven_table : List Sample
second_seven_table =
    order 2 (zeroed 1) (zeroed 7) (pos 1 ∷ pos 4 ∷ pos 2 ∷ pos 7 ∷ pos 3 ∷ pos 9 ∷ pos 5 ∷ [])
    (record { name = row_name 1 LH 0; values = pos 3 ∷ [] }
    ∷ record { name = row_name 1 LH 1; values = pos 5 ∷ [] }
    ∷ record { name = row_name 1 LH 2; values = pos 5 ∷ [] }
    ∷ record { name = row_name 2 LL 0; values = pos 2 ∷ [] }
    ∷ record { name = row_name 2 LH 0; values = pos 1 ∷ [] }
    ∷ record { name = row_name 2 LL 1; values = pos 6 ∷ [] }
    ∷ record { name = row_name 2 LH 1; values = pos 2 ∷ [] }
    ∷ [])
    ∷ counts 2 (zeroed 1) (zeroed 7) (0 ∷ 0 ∷ 0 ∷ 0 ∷ 1 ∷ 1 ∷ 2 ∷ 7 ∷ [])
    ∷ plays 2 (zeroed 1) (zeroed 7)
    (feed (row_name 2 LL 0) ∷ feed (row_name 2 LH 0) ∷ feed (row_name 1 LH 0) ∷ draw 0 ∷ feed (row_name 2 LL 1) ∷ feed (row_name 2 LH 1)
    ∷ feed (row_name 1 LH 1) ∷ feed (row_name 1 LH 2) ∷ draw 1 ∷ draw 2 ∷ draw 3 ∷ draw 4 ∷ draw 5 ∷ draw 6 ∷ [])
    ∷ order 2 (zeroed 1) (side 1 7) (pos 1 ∷ pos 4 ∷ pos 2 ∷ pos 7 ∷ pos 3 ∷ pos 9 ∷ pos 5 ∷ [])
    (record { name = row_name 1 LH 0; values = neg_ℤ (pos 3) ∷ [] }
    ∷ record { name = row_name 1 LH 1; values = neg_ℤ (pos 3) ∷ [] }
    ∷ record { name = row_name 1 LH 2; values = neg_ℤ (pos 5) ∷ [] }
    ∷ record { name = row_name 1 LH 3; values = neg_ℤ (pos 4) ∷ [] }
    ∷ record { name = row_name 2 LH 0; values = neg_ℤ (pos 3) ∷ [] }
    ∷ record { name = row_name 2 LL 0; values = pos 5 ∷ [] }
    ∷ record { name = row_name 2 LH 1; values = pos 2 ∷ [] }
    ∷ [])
    ∷ counts 2 (zeroed 1) (side 1 7) (0 ∷ 0 ∷ 0 ∷ 1 ∷ 1 ∷ 2 ∷ 2 ∷ 7 ∷ [])
    ∷ plays 2 (zeroed 1) (side 1 7)
    (feed (row_name 1 LH 0) ∷ feed (row_name 2 LH 0) ∷ feed (row_name 2 LL 0) ∷ feed (row_name 2 LH 1) ∷ feed (row_name 1 LH 1)
    ∷ feed (row_name 1 LH 2) ∷ draw 0 ∷ draw 1 ∷ feed (row_name 1 LH 3) ∷ draw 2 ∷ draw 3 ∷ draw 4 ∷ draw 5 ∷ draw 6 ∷ [])
    -- and by the 9/7: d = 0 − ⌊(9 (−4 + 0) − (0 − 4) + 8) / 16⌋ = 0 − ⌊−24 / 16⌋ = 2
    ∷ line 0 (neg_ℤ (pos 4) ∷ pos 0 ∷ pos 0 ∷ []) (neg_ℤ (pos 3) ∷ pos 1 ∷ []) (pos 2 ∷ [])
    ∷ []

-- every entry holds
pub data AllHold (f : ℕ) : List Sample → Type 0 where
  none : AllHold f []
  also : {s : Sample} {l : List Sample} → Holds f s → AllHold f l → AllHold f (s ∷ l)
