-- What the two calls answer and leave, for a map of the columns W and the rows H: document 01, "The plane" and "The gate questions"; document 02, Q-3 and Q-8.
use Rattle.std.specs.Prelude.{ℕ, ◌*◌, ℤ, pos, leb, eqb}
use Rattle.numbers.specs.Signal.{pick, both}
use Rattle.lifting.specs.Halves.{fronted}
use Rattle.lifting.specs.Grid.{Side}
use Rattle.lifting.specs.Filter.{Filter}
use Rattle.wavelet.specs.Limits.{max_width, max_height}
use Rattle.wavelet.specs.Questions.{ask, within}
use Rattle.wavelet.specs.Bands.{Grid}
use Rattle.wavelet.specs.Maps.{in-range, rebuilt_fits}
use Rattle.filters.specs.Filters.{filter_of, is_filter}

-- questions 2, 3, 18 and 4 of the filter f, and then `rest`: 18 "before 4, if the filter is unknown", and as many levels as it has (document 02, Q-8). Where
-- the map starts is not asked.
unfoldable pub shape_questions : ℕ → ℕ → ℕ → ℕ → ℕ → ℕ
shape_questions f W H L rest =
    ask (within 1 max_width W) 2
    (ask (within 1 max_height H) 3
    (ask (is_filter f) 18
    (ask (within 1 (filter_of f).levels L) 4
    rest)))

-- and 5, "Is each line store, plane, height and work area long enough?", of areas of a, b and c numbers
unfoldable pub size_questions : ℕ → ℕ → ℕ → ℕ → ℕ → ℕ → ℕ → ℕ → ℕ
size_questions f W H L a b c rest =
    shape_questions f W H L (ask (both (leb (W * H) a) (both (leb (W * H) b) (leb (W * H) c))) 5 rest)

unfoldable pub forward_question : ℕ → Side → Side → ℕ → ℕ → ℕ → ℕ → ℕ
forward_question f W H L heights plane work = size_questions f W.length H.length L heights plane work 0

-- 7 and 14, of the plane x
unfoldable pub plane_questions : Filter → Side → Side → ℕ → Grid → ℕ
plane_questions F W H L x = ask (in-range F L W H x) 7 (ask (rebuilt_fits F 0 L W H x) 14 0)

unfoldable pub backward_question : ℕ → Side → Side → ℕ → ℕ → ℕ → ℕ → Grid → ℕ
backward_question f W H L plane heights work x = size_questions f W.length H.length L plane heights work (plane_questions (filter_of f) W H L x)

abbrev pub zeros : ℕ → ℤ
zeros _ = pos 0

-- the first n numbers replaced where question q is 0: the surplus is untouched
unfoldable pub passed : ℕ → ℕ → (ℕ → ℤ) → (ℕ → ℤ) → ℕ → ℤ
passed q n y x = pick (eqb q 0) (fronted n y x) x

-- backward: y where it passes, zero where it gives 14
unfoldable pub rebuilt : ℕ → ℕ → (ℕ → ℤ) → (ℕ → ℤ) → ℕ → ℤ
rebuilt q n y x = pick (eqb q 0) (fronted n y x) (pick (eqb q 14) (fronted n zeros x) x)
