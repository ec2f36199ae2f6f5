-- What a saver does: the piece of the file that it is at, what is left of it, and where it goes on. docs/FORMAT.md, "Saving".
use Rattle.std.specs.Prelude.{◌≡◌, Result, Ok, Err, Bool, true, List, [], ◌++◌, ℕ, ◌+◌, ◌-◌, ◌*◌, ◌%◌, ◌^◌, ◌≤◌, ◌<◌, min, ℤ, pos, nat_abs, ◌*ℤ◌, leb, ltb, eqb, length, take, drop}
use Rattle.std.specs.Int.Signed.{shr_z}
use Rattle.numbers.specs.Signal.{at, pick, both}
use Rattle.numbers.specs.Tests.{every}
use Rattle.wavelet.specs.declared.shape.Shape.{Shape}
use Rattle.wavelet.specs.Shape.{columns, rows}
use Rattle.wavelet.specs.Bands.{Band, code}
use Rattle.wavelet.specs.Limits.{max_width, max_height, range}
use Rattle.wavelet.specs.Questions.{ask, within}
use Rattle.wavelet.specs.View.{band_columns, band_start, Kept}
use Rattle.wavelet.specs.ViewCall.{view_row}
use Rattle.filters.specs.Filters.{filter_of, is_filter}
use Rattle.reader_order.specs.declared.Place.{Place}
use Rattle.reader_order.specs.Order.{nowhere, first_place, next_place, row_at}
use Rattle.ground_file.specs.declared.saver.Saver.{Saver}
use Rattle.ground_file.specs.declared.saver.Turn.{Turn}
use Rattle.refusal.specs.declared.Refusal.{Refusal}
use Rattle.refusal.specs.Numbers.{number}
use Rattle.ground_file.specs.Groups.{bytes_of, group_of}
use Rattle.ground_file.specs.File.{header_of, listed, prime, as_number}
use Rattle.ground_file.specs.Values.{kept, is_multiple}

abbrev pub saver_at : Shape → ℕ → Place → ℕ → ℕ → ℕ → ℕ → Saver
saver_at s q p g m c f = record { shape = s; step = q; place = p; group = g; part = m; sum = c; phase = f }

-- the first byte of a piece of n bytes that is not written; there is always one
unfoldable pub start_of : ℕ → ℕ → ℕ
start_of m n = pick (ltb m n) m (n - 1)

-- ---- the piece that is being written: 0 the header, 1 a group of the row at the place, 2 the checksum, 3 none
module _ (s : Saver) where
  -- the row at the place, of the plane p; none past the last
  unfoldable pub row_of : List ℤ → List ℤ
  row_of p =
      view_row p (columns s.shape) (rows s.shape) s.shape.levels s.place.level s.place.band (row_at s.shape s.place)

  -- what the values of its band are divided by
  unfoldable pub step_of : ℕ
  step_of = pick (eqb s.place.band 0) 1 s.step

  unfoldable pub piece_of : List ℤ → List ℕ
  piece_of row =
      pick (eqb s.phase 0) (header_of s.shape s.step)
      (pick (eqb s.phase 1) (group_of (listed (min (length row - 16 * s.group) 16) (λ i. kept step_of (at row (16 * s.group + i)))))
      (bytes_of 4 s.sum))

  -- the row at a place, from its first group on; the checksum where there is none
  unfoldable pub at_row : Place → ℕ → Saver
  at_row p c = saver_at s.shape s.step p 0 0 c (pick (eqb p.level 0) 2 1)

  -- after the piece: n is the length of the row, c the sum with the piece
  unfoldable pub onward : ℕ → ℕ → Saver
  onward n c =
      pick (eqb s.phase 0) (at_row (first_place s.shape) c)
      (pick (eqb s.phase 1)
      (pick (ltb (16 * (s.group + 1)) n) (saver_at s.shape s.step s.place (s.group + 1) 0 c 1) (at_row (next_place s.shape s.place) c))
      (saver_at s.shape s.step s.place 0 0 0 3))

  abbrev pub partly : ℕ → Saver
  partly m = saver_at s.shape s.step s.place s.group m s.sum s.phase

  unfoldable pub begins : Bool
  begins = both (eqb s.phase 1) (both (eqb s.group 0) (eqb s.part 0))

  module _ (row : List ℤ) where
    -- the bytes of the piece that are not written
    abbrev pub from_of : ℕ
    from_of = start_of s.part (length (piece_of row))

    unfoldable pub rest_of : List ℕ
    rest_of = drop from_of (piece_of row)

    -- after m of these
    unfoldable pub moved : ℕ → Saver
    moved m = pick (ltb (from_of + m) (length (piece_of row))) (partly (from_of + m)) (onward (length row) (as_number s.sum (piece_of row) % prime))

    -- "before a row is begun, 7 of its numbers, 22 if one is no multiple of the step"

    unfoldable pub row_fits : Bool
    row_fits =
        every (length row)
        (λ i. leb (nat_abs (at row i)) (range (filter_of s.shape.filter) (min s.place.level (filter_of s.shape.filter).levels)))

    unfoldable pub row_divides : Bool
    row_divides = every (length row) (λ i. is_multiple step_of (at row i))

    unfoldable pub row_number : ℕ
    row_number = pick begins (ask row_fits 7 (ask row_divides 22 0)) 0

-- why a saver stops with so many bytes written of n: 1 no room is left or the file is over; 7 or 22; 0 where it goes on
unfoldable pub stop_of : Saver → List ℤ → ℕ → ℕ → ℕ
stop_of s p m n = pick (leb n m) 1 (pick (leb 3 s.phase) 1 (row_number s (row_of s p)))

-- ---- some pieces and parts of pieces, one after the other: from s₀ on these bytes of the plane p lead to a saver
pub data Went (p : List ℤ) (s₀ : Saver) : List ℕ → Saver → Type 0 where
  here : Went p s₀ [] s₀
  on : {b : List ℕ} {s : Saver} (m : ℕ) → Went p s₀ b s → s.phase < 3 → row_number s (row_of s p) ≡ 0 → 0 < m → m ≤ length (rest_of s (row_of s p)) →
      Went p s₀ (b ++ take m (rest_of s (row_of s p))) (moved s (row_of s p) m)

-- ---- the questions
-- "Set-up: 2, 3, 18, 4, 20, 22 (a step above 1 with an origin or the 9/7)."
unfoldable pub max_step : ℕ
max_step = 64

-- a step of 1, or of a map by the 5/3 at origin 0
unfoldable pub plain : Shape → ℕ → Bool
plain s q = pick (eqb q 1) true (both (eqb s.x 0) (both (eqb s.y 0) (eqb s.filter 0)))

unfoldable pub set_up_number : Shape → ℕ → ℕ
set_up_number s q =
    ask (within 1 max_width s.width) 2
    (ask (within 1 max_height s.height) 3
    (ask (is_filter s.filter) 18
    (ask (within 1 (filter_of s.filter).levels s.levels) 4
    (ask (within 1 max_step q) 20
    (ask (plain s q) 22 0)))))

-- 1: the numbers of a saver are in their ranges
unfoldable pub saver_fits : Saver → Bool
saver_fits s =
    both (eqb (set_up_number s.shape s.step) 0)
    (both (leb s.phase 3) (both (leb s.group max_width) (both (leb s.part 57) (ltb s.sum prime))))

-- n is the length of the plane
unfoldable pub save_number : Saver → ℕ → ℕ
save_number s n = ask (saver_fits s) 1 (ask (leb (s.shape.width * s.shape.height) n) 5 0)

abbrev pub fresh : Shape → ℕ → Saver
fresh s q = saver_at s q nowhere 0 0 0 0

-- ---- what a call gives
-- 0 or the number of the question that turned it away, how many bytes it wrote, and the saver after them
pub record Saved : Type 0 where
  pub answer : ℕ
  pub written : ℕ
  pub saver : Saver

-- where the saver s is turned away, nothing is written and it stays
abbrev pub of_saved : Saver → Result Turn Refusal → Saved
of_saved s (Ok t) = record { answer = 0; written = t.at; saver = t.saver }
of_saved s (Err why) = record { answer = number why; written = 0; saver = s }

-- the numbers that the code needs to be small
pub record Inside (s : Saver) : Type 0 where
  pub some : 1 ≤ s.step
  pub step : s.step < 256
  pub filter : s.shape.filter < 256
  pub levels : s.shape.levels < 256
  pub group : s.group < 2 ^ 58
  pub sum : s.sum < prime

-- the saver s, lent the plane p, has written r.written bytes to the front of an area: pieces and parts of them, until it stops
pub record Ran (s : Saver) (p : List ℤ) (before after : List ℕ) (r : Saved) : Type 0 where
  pub size : length after ≡ length before
  pub room : r.written ≤ length before
  pub past : drop r.written after ≡ drop r.written before
  pub went : Went p s (take r.written after) r.saver
  pub stops : 0 < stop_of r.saver p r.written (length before)
  pub answer : r.answer ≡ pick (both (eqb r.written 0) (ltb 1 (stop_of r.saver p r.written (length before))))
      (stop_of r.saver p r.written (length before)) 0

-- a call: 1 and 5, which change nothing; else what it writes
pub record Saves (s : Saver) (p : List ℤ) (before after : List ℕ) (r : Saved) : Type 0 where
  pub refused : 0 < save_number s (length p) → (r.answer ≡ save_number s (length p)) × (r.written ≡ 0) × (r.saver ≡ s) × (after ≡ before)
  pub done : save_number s (length p) ≡ 0 → Ran s p before after r

-- ---- a plane of which no row is turned away: each number is in its level's range, and those of HL, LH and HH are multiples of the step
pub record Savable (s : Shape) (q : ℕ) (p : ℕ → ℤ) : Type 0 where
  pub ranged : (k : ℕ) (b : Band) (r i : ℕ) → Kept (columns s) (rows s) s.levels k b r → i < band_columns (columns s) k b
      → nat_abs (p (band_start (columns s) (rows s) k b r + i)) ≤ range (filter_of s.filter) k
  pub multiple : (k : ℕ) (b : Band) (r i : ℕ) → Kept (columns s) (rows s) s.levels k b r → i < band_columns (columns s) k b → 0 < code b
      → p (band_start (columns s) (rows s) k b r + i) ≡ pos q *ℤ shr_z (p (band_start (columns s) (rows s) k b r + i)) q

-- a call on the saver s that is never turned away: it writes if it has room for a byte and the file is not over; and where it leaves room, the file is over. So
-- calls with room come to the end, and see it.
pub record SavesOn (s : Saver) (before : List ℕ) (r : Saved) : Type 0 where
  pub answer : r.answer ≡ 0
  pub writes : 0 < length before → s.phase < 3 → 0 < r.written
  pub ends : r.written < length before → 3 ≤ r.saver.phase

-- ---- a list of saving calls lent one plane, into any areas: the bytes that they wrote, one after the other, and the saver that they leave
pub data Calls (p : List ℤ) (s₀ : Saver) : List ℕ → Saver → Type 0 where
  none : Calls p s₀ [] s₀
  call : {b : List ℕ} {s : Saver} (before after : List ℕ) (r : Saved) → Calls p s₀ b s → Saves s p before after r →
      Calls p s₀ (b ++ take r.written after) r.saver
