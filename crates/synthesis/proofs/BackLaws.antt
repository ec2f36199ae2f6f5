-- A level on the way back by the number of its filter: what it asks and leaves, and that it meets what is asked of a level there (`back-laws`). Assumes
-- nothing.
use mathlib.Core.Path.{◌≡◌, refl}
use mathlib.Core.Bool.{Bool, true}
use Prim.Native.Nat.{ℕ, ◌+◌, ◌*◌, ◌≤◌, ◌<◌, ◌^◌}
use native.Mathlib.Nat.{mul-le-mul}
use native.Mathlib.Omega.{arith}
use lib.IntN.{ℤ}
use Rattle.numbers.specs.Signal.{pick, windowed, spliced}
use Rattle.lifting.specs.Line.{lo}
use Rattle.lifting.specs.Grid.{Side, count, joined}
use Rattle.lifting.specs.GridHalves.{halves_of}
use Rattle.filters.specs.Filters.{filter_of}
use Rattle.wavelet.specs.Bands.{Band, across, down}
use Rattle.wavelet.specs.Order.{last_set}
use Rattle.level.specs.Stretch.{local, row_of_set, half_place, band_fed, row_in}
use Rattle.level.specs.Rebuilding.{widest, tallest}
use Rattle.level.proofs.WorkedPast.{Keeps}
use Rattle.level.proofs.RowsIn.{row-end}
use Rattle.level.proofs.RebuildingLaws.{workable-is}
use Rattle.level.proofs.ReaderLaws.{ReaderLawsBy}
use Rattle.synthesis.specs.Columns.{columns_of}
use Rattle.synthesis.specs.Back.{back_of, stands_of, row_place_of, workable_of}
use Rattle.synthesis.proofs.FilterColumns.{rows-some, columns-laws}
use Rattle.synthesis.proofs.LevelLaws.{level-laws}
use Rattle.synthesis.proofs.WorkedPast.{worked-past}

-- its look-ahead and its stretch are the filter's
pub back-ahead : (f : ℕ) → (back_of f).ahead ≡ (filter_of f).ahead
unfolding back_of
back-ahead f = refl

pub back-stretch : (f : ℕ) (W : Side) → (back_of f).stretch W ≡ (filter_of f).rows * W.length
unfolding back_of
back-stretch f W = refl

-- a band row fed, and a row made, in the slots that it keeps; a row's slot lies within the stretch
pub back-feed : (f : ℕ) (W : Side) (s : ℕ) (b : Band) (n : ℕ) (v x : ℕ → ℤ) → (back_of f).feed W s b n v x
    ≡ spliced (row_place_of f W.length (row_of_set (down b) n) + half_place (across b) W) (count (across b) W) v x
unfolding back_of row_place_of band_fed
back-feed f W s b n v x = refl

pub back-made : (f : ℕ) (W : Side) (s r : ℕ) (x : ℕ → ℤ) → (back_of f).made W s r x
    ≡ joined W (halves_of W (windowed (row_place_of f W.length (local s r)) W.length x))
unfolding back_of row_place_of row_in
back-made f W s r x = refl

pub place-room : (f w q : ℕ) → row_place_of f w q + w ≤ (filter_of f).rows * w
unfolding row_place_of
place-room f w q = row-end (rows-some f) w q

-- a set worked out leaves what is past the stretch
pub back-worked : (f k : ℕ) (W H : Side) (last : Bool) (n : ℕ) (x : ℕ → ℤ) → Keeps ((filter_of f).rows * W.length) x ((back_of f).work last k W H n x)
unfolding back_of
back-worked f k W H last n x = worked-past (columns_of f) (columns-laws f) (rows-some f) k W H last n x

-- and it meets what is asked of a level on the way back
pub back-laws : (f : ℕ) → ReaderLawsBy (filter_of f) (back_of f) (stands_of f)
unfolding back_of stands_of
back-laws f = level-laws (columns_of f) (columns-laws f)

-- ---- a set that can be worked out
pub workable-of : (f : ℕ) (last : Bool) (k : ℕ) (W H : Side) (n m : ℕ) → k ≤ (filter_of f).levels → W.length ≤ widest → H.length ≤ tallest → 0 < H.length →
    n ≤ last_set H → (filter_of f).rows * W.length + (filter_of f).rows * pick last 0 (count lo W) ≤ m → workable_of f last k W H n m ≡ true
workable-of f last k W H n m a b c d e g = workable-is (filter_of f).levels (filter_of f).rows last k W H n m (a, b, c, d, e, g)
