-- What the private functions ask and leave: a window of the map in the work area, lifted level by level. One direction of a level is a Direction: its length,
-- the window's start and size, the first and the last place that is changed.
use Rattle.std.specs.Prelude.{◌≡◌, ◌⊎◌, Bool, true, ℕ, zero, suc, ◌+◌, ◌-◌, ◌*◌, ◌/◌, ◌%◌, ◌^◌, ◌≤◌, ◌<◌, min, ℤ, leb, ltb, eqb}
use Rattle.numbers.specs.Signal.{pick, both}
use Rattle.numbers.specs.Word.{wrap32}
use Rattle.lifting.specs.Line.{Half, lo, hi, predicted, updated}
use Rattle.lifting.specs.Grid.{side, count, joined, line_forward}
use Rattle.lifting.specs.GridHalves.{forward_into}
use Rattle.lifting.specs.FiveThree.{five_three_filter}
use Rattle.lifting.specs.Rows.{rows_changed}
use Rattle.wavelet.specs.Bands.{Grid, band_of, subband}
use Rattle.wavelet.specs.Plane.{plane_cell}
use Rattle.map_levels.specs.Passes.{within, rows_mapped, Rows}
use Rattle.strokes.specs.Reach.{Span, span, reached, in_reach}
use Rattle.strokes.specs.declared.direction.Direction.{Direction}
use Rattle.strokes.specs.declared.direction.Level.{Level}
use Rattle.strokes.specs.declared.patch.Patch.{Patch}

-- ---- one direction
abbrev pub direction : ℕ → ℕ → ℕ → ℕ → ℕ → Direction
direction N a w f l = record { length = N; start = a; size = w; first = f; last = l }

abbrev pub changed_of : Direction → Span
changed_of d = span d.first d.last

-- the next level's
abbrev pub lowered_of : Direction → Direction
lowered_of d = direction (d.length - d.length / 2) (d.start / 2) (d.size - d.size / 2) ((d.first - 1) / 2) (d.last / 2 + 1)

abbrev pub next_of : Level → Level
next_of l = record { columns = lowered_of l.columns; rows = lowered_of l.rows; stride = 2 * l.stride; across = l.across }

-- the map's: n changed places from place f on, of N, with L levels to come
abbrev pub window_start : ℕ → ℕ → ℕ
window_start f Q = Q * ((f + 1) / Q - 3)

abbrev pub window_end : ℕ → ℕ → ℕ
window_end l Q = Q * ((l + Q - 2) / Q + 3) + 1

abbrev pub widened_of : ℕ → ℕ → ℕ → ℕ → Direction
widened_of N f n Q = direction N (window_start f Q) (min N (window_end (f + n - 1) Q) - window_start f Q) f (f + n - 1)

-- how many places at the ends of the map's window are not read: none where the end is the map's own
unfoldable pub unread_before : Direction → ℕ
unread_before d = pick (eqb d.start 0) 0 2

unfoldable pub unread_past : Direction → ℕ
unread_past d = pick (ltb (d.start + d.size) d.length) 2 0

-- is place r of the window read once the direction is lifted? A low value is, by the next level; a high one where it is in reach.
unfoldable pub used_in : Direction → ℕ → Bool
used_in d r = pick (eqb (r % 2) 0) true (both (leb d.first (d.start + r + 1)) (leb (d.start + r) (d.last + 1)))

-- ---- the window of one direction
-- w places of N, from place a = 2t on. v places at its beginning are not right, and u at its end: none where the end is the line's own, else two.
pub record Cut (u v N a t w : ℕ) : Type 0 where
  pub even : a ≡ 2 * t
  pub inside : a + w ≤ N
  pub left : ((v ≡ 0) × (a ≡ 0)) ⊎ (v ≡ 2)
  pub right : ((u ≡ 0) × (a + w ≡ N)) ⊎ (u ≡ 2)

-- a place of the window that is right
pub record Sound (u v w p : ℕ) : Type 0 where
  pub left : v ≤ p
  pub right : p + u < w

-- an end that is the line's own holds all there is; else the changed places are so far from it, which is one past a multiple of Q. Q is 2 to the power of the
-- levels left.
pub record Cover (u v Q a w : ℕ) (s : Span) : Type 0 where
  pub times : ℕ
  pub left : (v ≡ 0) ⊎ (a + 3 * Q ≤ s.first + 1)
  pub right : (u ≡ 0) ⊎ ((a + w ≡ Q * times + 1) × (s.last + 3 * Q ≤ a + w))

-- a direction with k levels left: the window starts at a multiple of 2^k
pub record Lies (u v k : ℕ) (d : Direction) : Type 0 where
  pub times : ℕ
  pub aligned : d.start ≡ 2 ^ k * times
  pub cut : Cut u v d.length d.start (d.start / 2) d.size
  pub cover : Cover u v (2 ^ k) d.start d.size (changed_of d)
  pub begins : d.first < d.length
  pub order : d.first ≤ d.last
  pub long : d.length ≤ 2 ^ 32
  pub ends : d.last ≤ 2 ^ 32

pub record Placed (k : ℕ) (d : Direction) : Type 0 where
  pub u : ℕ
  pub v : ℕ
  pub lies : Lies u v k d

-- the grid Y of a window is the map's grid G where it is right
abbrev pub Agrees : ℕ → ℕ → ℕ → ℕ → Direction → Direction → Grid → Grid → Type 0
Agrees u v u' v' d e G Y = (r c : ℕ) → Sound u' v' e.size r → Sound u v d.size c → Y r c ≡ G (e.start + r) (d.start + c)

-- ---- the passes
-- all columns lifted, the rows in their own order
unfoldable pub columns_done : ℕ → ℕ → Grid → Grid
columns_done w h X r c = pick (within w h r c) (joined (side 0 h) (line_forward wrap32 (side 0 h) (λ i. X i c)) r) (X r c)

-- then the rows that are used, each to its low values and its high ones
abbrev pub row_done : ℕ → (ℕ → ℤ) → ℕ → ℤ
row_done w y = forward_into (side 0 w) y y

unfoldable pub rows_done : ℕ → Direction → Grid → Grid
rows_done w e X r c = pick (used_in e r) (rows_mapped (row_done w) w e.size X r c) (X r c)

unfoldable pub level_done : ℕ → Direction → Grid → Grid
level_done w e X = rows_done w e (columns_done w e.size X)

-- one turn of the columns: high row 2n + 1, low row 2n, and the low row after them if it is the last, of h rows in an area of m numbers
abbrev pub row_after : ℕ → ℕ → ℕ
row_after h n = pick (ltb (2 * n + 2) h) (2 * n + 2) (2 * n)

abbrev pub row_before : ℕ → ℕ
row_before n = pick (eqb n 0) 1 (2 * n - 1)

abbrev pub last_done : ℕ → ℕ → ℕ → ℕ → ℕ → (ℕ → ℤ) → ℕ → ℤ
last_done m s w h n x = pick (eqb (2 * n + 1) h) (rows_changed (updated wrap32) m s w (2 * n) (2 * n - 1) (2 * n - 1) x) x

abbrev pub pair_done : ℕ → ℕ → ℕ → ℕ → ℕ → (ℕ → ℤ) → ℕ → ℤ
pair_done m s w h n x =
    rows_changed (updated wrap32) m s w (2 * n) (row_before n) (2 * n + 1)
    (rows_changed (predicted wrap32) m s w (2 * n + 1) (2 * n) (row_after h n) x)

abbrev pub turn_done : ℕ → ℕ → ℕ → ℕ → ℕ → (ℕ → ℤ) → ℕ → ℤ
turn_done m s w h n x = last_done m s w h (n + 1) (pair_done m s w h n x)

-- ---- what is copied to the plane P
-- n places from place a on
unfoldable pub among : ℕ → ℕ → ℕ → Bool
among a n i = both (leb a i) (ltb i (a + n))

abbrev pub patch : ℕ → ℕ → ℕ → ℕ → Patch
patch r c h w = record { row = r; column = c; rows = h; columns = w }

-- what is read of the map's window
abbrev pub read_of : Direction → Direction → Patch
read_of d e =
    patch (unread_before e) (unread_before d) (e.size - unread_before e - unread_past e) (d.size - unread_before d - unread_past d)

unfoldable pub patch_copied : Patch → Grid → Grid → Grid
patch_copied p g P r c =
    pick (both (among p.column p.columns c) (among p.row p.rows r)) (g (r - p.row) (c - p.column)) (P r c)

-- place i of a level of N places has a number of half h that is in reach, and that number
unfoldable pub touches : Half → ℕ → Span → ℕ → Bool
touches lo N s i = both (ltb i (count lo (side 0 N))) (reached s lo i)
touches hi N s i = both (leb (count lo (side 0 N)) i) (both (ltb i N) (reached s hi (i - count lo (side 0 N))))

unfoldable pub number_of : Half → ℕ → ℕ → ℕ
number_of lo N i = i
number_of hi N i = i - count lo (side 0 N)

-- band (a, h) of a level of W columns and H rows, B, in the place of what is in reach
unfoldable pub band_mended : Half → Half → ℕ → ℕ → Span → Span → Grid → Grid → Grid
band_mended a h W H s t B P r c = pick (both (touches a W s c) (touches h H t r)) (B (number_of h H r) (number_of a W c)) (P r c)

-- the three high bands of the grid G
unfoldable pub highs_mended : ℕ → ℕ → Span → Span → Grid → Grid → Grid
highs_mended W H s t G P =
    band_mended hi hi W H s t (subband five_three_filter wrap32 (side 0 W) (side 0 H) G (band_of hi hi))
    (band_mended lo hi W H s t (subband five_three_filter wrap32 (side 0 W) (side 0 H) G (band_of lo hi))
    (band_mended hi lo W H s t (subband five_three_filter wrap32 (side 0 W) (side 0 H) G (band_of hi lo)) P))

-- all of L levels, by 32-bit words
unfoldable pub grid_mended : ℕ → ℕ → ℕ → Span → Span → Grid → Grid → Grid
grid_mended L W H s t G P r c =
    pick (within W H r c)
    (pick (in_reach L (side 0 W) (side 0 H) s t r c) (plane_cell five_three_filter wrap32 L (side 0 W) (side 0 H) G r c) (P r c))
    (P r c)

-- at least one level is left
pub record Ready (d : Direction) : Type 0 where
  pub more : ℕ
  pub placed : Placed (suc more) d

-- and the areas have room for the level: `work` numbers the window, and `plane` numbers the plane
abbrev pub Opened : Level → ℕ → ℕ → Type 0
Opened l work plane =
    Ready l.columns
    × Ready l.rows
    × (l.stride < 2 ^ 32)
    × Rows work l.stride l.columns.size l.rows.size
    × Rows plane l.across l.columns.length l.rows.length

-- where number n of the half h down and m of the half a across stands in a window that is lifted, its rows s apart
abbrev pub place_of : ℕ → Direction → Direction → ℕ → ℕ → ℕ → ℕ → ℕ
place_of s d e a h n m = (2 * (n - e.start / 2) + h) * s + (a * (d.size - d.size / 2) + (m - d.start / 2))

-- the half of a number: 0 the low one, else the high one
abbrev pub half_of : ℕ → Half
half_of zero = lo
half_of (suc q) = hi
