-- What the call answers.
use Rattle.std.specs.Prelude.{◌≡◌, List, ℕ, ◌*◌, ◌<◌, get_or, leb, ltb, Result, Ok, Err}
use Rattle.refusal.specs.Numbers.{number}
use Rattle.refusal.specs.declared.Refusal.{Refusal}
use Rattle.numbers.specs.Signal.{both}
use Rattle.lifting.specs.Grid.{side}
use Rattle.wavelet.specs.Limits.{max_width, max_height}
use Rattle.wavelet.specs.Questions.{ask, within}
use Rattle.wavelet.specs.Bands.{LL}
use Rattle.wavelet.specs.View.{band_rows, band_columns}
use Rattle.nearest_change.specs.NearestChange.{Ground, IsNearest}
use Rattle.nearest_change.specs.declared.Change.{Change}

-- "Questions 2, 3 and 5 are asked as of the whole map. Cell numbers outside LL give 6." n is the number of heights lent.
unfoldable pub nearest_question : ℕ → ℕ → ℕ → ℕ → ℕ → ℕ
nearest_question n W H r c =
    ask (within 1 max_width W) 2
    (ask (within 1 max_height H) 3
    (ask (leb (W * H) n) 5
    (ask (both (ltb r (band_rows (side 0 H) 1 LL)) (ltb c (band_columns (side 0 W) 1 LL))) 6
    0)))

-- the nearest change where the question q is 0, and else its number
unfoldable pub Answers : ℕ → ℕ → ℕ → Ground → ℕ → ℕ → Result Change Refusal → Type 0
Answers q W H g r c (Ok d) = (q ≡ 0) × IsNearest W H g r c d
Answers q W H g r c (Err why) = (q ≡ number why) × (0 < number why)

-- a change in an array of three numbers
abbrev pub change_in : List ℕ → Change
change_in l = record { row = get_or l 0 0; column = get_or l 1 0; height = get_or l 2 0 }
