-- A level forward by the 5/3 in one sweep, from the grid to the plane: the columns of three rows are lifted into two lines, one high and one low, and each
-- line is lifted into its row of the plane. A line in memory has its even columns first and its odd ones at a fixed distance.
use Rattle.std.specs.Prelude.{◌≡◌, Bool, ℕ, ◌+◌, ◌-◌, ◌*◌, ◌/◌, ◌%◌, ◌^◌, ◌<◌, ◌≤◌, ℤ, pos, nat_abs, ◌+ℤ◌, ◌-ℤ◌, ltb, eqb}
use Rattle.std.specs.Int.Signed.{shr_z}
use Rattle.numbers.specs.Signal.{pick, stored}
use Rattle.numbers.specs.Word.{wrap32}
use Rattle.lifting.specs.Line.{lo, hi}
use Rattle.lifting.specs.Grid.{Side, count}
use Rattle.lifting.specs.GridHalves.{lifted_in_place, forward_into}
use Rattle.lifting.specs.Filter.{Filter}
use Rattle.lifting.specs.Passes.{near, highs_changed, lows_changed}
use Rattle.wavelet.specs.Limits.{max_width}
use Rattle.wavelet.specs.Bands.{Grid, LL, band_of, columns_lifted, subband}
use Rattle.wavelet.specs.Plane.{cells, half_at, place_in}
use Rattle.map_levels.specs.Passes.{Rows, within}

-- the distance of a line's halves: room for half the largest width, a multiple of 16
unfoldable pub line_half : ℕ
line_half = ((max_width - max_width / 2) / 16 + 1) * 16

-- column i of the line that begins at place b of y
unfoldable pub line_at : ℕ → (ℕ → ℤ) → ℕ → ℤ
line_at b y i = y (b + (i % 2 * line_half + i / 2))

-- The two steps with each sum stored in 32 bits, so that a loop of them stays in 32-bit lanes. Where no sum is too large, and none of a map is, they are
-- T.800's own; where one is, they still say what is stored.
unfoldable pub short_predicted : ℤ → ℤ → ℤ → ℤ
short_predicted x a b = wrap32 (x -ℤ shr_z (wrap32 (a +ℤ b)) 2)

unfoldable pub short_updated : ℤ → ℤ → ℤ → ℤ
short_updated x a b = wrap32 (x +ℤ shr_z (wrap32 (wrap32 (a +ℤ b) +ℤ pos 2)) 4)

-- a line in halves lifted by them in place; one of one number or none goes as ever
unfoldable pub short_lifted : Side → (ℕ → ℤ) → ℕ → ℤ
short_lifted S y =
    pick (ltb 1 S.length)
    (lows_changed short_updated (S.start % 2) (count lo S) S.length (highs_changed short_predicted (1 - S.start % 2) (count lo S) S.length y))
    (lifted_in_place S y)

-- one column at place k of the lines y: its high value, of b by e and c on both sides of it, and the low one, of e by the high value before it, which stood
-- there, and this one
abbrev pub place_lifted : ℕ → ℤ → ℤ → ℤ → (ℕ → ℤ) → ℕ → ℤ
place_lifted k e b c y = stored k (short_predicted b e c) (stored (2 * line_half + k) (short_updated e (y k) (short_predicted b e c)) y)

-- where no high value follows, the one before counts twice
abbrev pub place_ended : ℕ → ℤ → (ℕ → ℤ) → ℕ → ℤ
place_ended k e y = stored (2 * line_half + k) (short_updated e (y k) (y k)) y

abbrev pub high_of : Bool → ℤ → ℤ → ℤ → ℤ → ℤ
high_of last h e b c = pick last h (short_predicted b e c)

-- the columns below m of the rows e, b and c lifted in the lines y₀: the high line, the low one, and what is left of the high line
pub record ColumnsMade (last : Bool) (m : ℕ) (e b c y₀ y : ℕ → ℤ) : Type 0 where
  pub high : (i : ℕ) → i < m → line_at 0 y i ≡ high_of last (line_at 0 y₀ i) (e i) (b i) (c i)
  pub low : (i : ℕ) → i < m → line_at (2 * line_half) y i ≡ short_updated (e i) (line_at 0 y₀ i) (high_of last (line_at 0 y₀ i) (e i) (b i) (c i))
  pub left : (i : ℕ) → m ≤ i → i < 2 * line_half → line_at 0 y i ≡ line_at 0 y₀ i

-- the w columns of a line are small enough for the sums of its steps
abbrev pub SmallLine : ℕ → (ℕ → ℤ) → Type 0
SmallLine w v = (i : ℕ) → i < w → nat_abs (v i) ≤ 2 ^ 27

-- a line lifted, as a row of the plane
abbrev pub line_lifted : Side → (ℕ → ℤ) → ℕ → ℤ
line_lifted W v = forward_into W v (λ _. pos 0)

-- the plane z with one level of the grid g in its corner
unfoldable pub level_written : Filter → Side → Side → Grid → Grid → Grid
level_written F W H g z r c =
    pick (within W.length H.length r c) (subband F wrap32 W H g (band_of (half_at W c) (half_at H r)) (place_in H r) (place_in W c)) (z r c)

-- what a level is read from: the heights g, or the numbers x of the work area
abbrev pub source_grid : Bool → ℕ → (ℕ → ℤ) → (ℕ → ℤ) → Grid
source_grid first w g x = cells w (pick first g x)

-- of h rows, the low row on the other side of the high row after low row a; and that of the first high row
unfoldable pub other_low : ℕ → ℕ → ℕ
other_low h a = pick (ltb (a + 2) h) (a + 2) a

unfoldable pub first_other : Side → ℕ
first_other H = pick (eqb (H.start % 2) 0) (other_low H.length 0) 1

-- room for a level: k heights, a plane of n numbers, whose rows are A apart, a work area of m
pub record LevelArea (first : Bool) (k n m A : ℕ) (W H : Side) : Type 0 where
  pub source : Rows (pick first k m) W.length W.length H.length
  pub plane : Rows n A W.length H.length
  pub work : Rows m W.length W.length H.length
  pub narrow : W.length ≤ max_width

-- and lines of l numbers
pub record SweepRoom (first : Bool) (k n m l A : ℕ) (W H : Side) : Type 0 where
  pub area : LevelArea first k n m A W H
  pub more : 1 < H.length
  pub lines : 4 * line_half ≤ l
  pub halves : W.length ≤ 2 * line_half

-- the numbers of a level are small enough for the sums of its steps
abbrev pub Small : Bool → Side → Side → (ℕ → ℤ) → (ℕ → ℤ) → Type 0
Small first W H g x = (r c : ℕ) → r < H.length → c < W.length → nat_abs (source_grid first W.length g x r c) ≤ 2 ^ 26

-- and those of L levels, of which each has four times the numbers of the one before
pub record Growing (L : ℕ) (W H : Side) (G : Grid) : Type 0 where
  pub most : ℕ
  pub room : most * 4 ^ L ≤ 2 ^ 26
  pub within : (r c : ℕ) → r < H.length → c < W.length → nat_abs (G r c) ≤ most

-- before low row n: the plane z has the rows before it and their high rows, the work area x their low-low numbers, which take the place of rows that are
-- read no more, and the lines y have the last high row. z₀ and x₀ are the areas at the start.
pub record SetsDone (F : Filter) (first : Bool) (A : ℕ) (W H : Side) (g z₀ x₀ : ℕ → ℤ) (n : ℕ) (z x y : ℕ → ℤ) : Type 0 where
  pub small : Small first W H g x₀
  pub line : (i : ℕ) → i < W.length →
      line_at 0 y i ≡ columns_lifted F wrap32 H (source_grid first W.length g x₀) hi (near (count hi H) (n + H.start % 2 - 1)) i
  pub lows : (r c : ℕ) → r < n → c < A → cells A z r c ≡ level_written F W H (source_grid first W.length g x₀) (cells A z₀) r c
  pub highs : (r c : ℕ) → r < n + H.start % 2 → c < A →
      cells A z (count lo H + r) c ≡ level_written F W H (source_grid first W.length g x₀) (cells A z₀) (count lo H + r) c
  pub rest_lows : (r c : ℕ) → n ≤ r → r < count lo H → c < A → cells A z r c ≡ cells A z₀ r c
  pub rest_highs : (r c : ℕ) → n + H.start % 2 ≤ r → c < A → cells A z (count lo H + r) c ≡ cells A z₀ (count lo H + r) c
  pub made : (r c : ℕ) → r < n → c < count lo W → x (r * count lo W + c) ≡ subband F wrap32 W H (source_grid first W.length g x₀) LL r c
  pub kept : (j : ℕ) → n * count lo W ≤ j → x j ≡ x₀ j

-- the low-low part of the plane z in the work area x
pub record LowSaved (A : ℕ) (W H : Side) (z x₀ x : ℕ → ℤ) : Type 0 where
  pub made : (r c : ℕ) → r < count lo H → c < count lo W → x (r * count lo W + c) ≡ cells A z r c
  pub kept : (j : ℕ) → count lo H * count lo W ≤ j → x j ≡ x₀ j

-- one level: the plane z and the work area x that it leaves of z₀ and x₀
pub record LevelSwept (F : Filter) (first : Bool) (A : ℕ) (W H : Side) (g z₀ x₀ z x : ℕ → ℤ) : Type 0 where
  pub cells_are : (r c : ℕ) → c < A → cells A z r c ≡ level_written F W H (source_grid first W.length g x₀) (cells A z₀) r c
  pub made : (r c : ℕ) → r < count lo H → c < count lo W → x (r * count lo W + c) ≡ subband F wrap32 W H (source_grid first W.length g x₀) LL r c
  pub kept : (j : ℕ) → count lo H * count lo W ≤ j → x j ≡ x₀ j
