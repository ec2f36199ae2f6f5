-- The band rows of a map, in the order in which a reader wants them, as places one after the other. Numbers alone.
use Rattle.std.specs.Prelude.{Bool, List, [], ◌∷◌, ℕ, zero, suc, ◌-◌, leb, ltb, eqb}
use Rattle.numbers.specs.Signal.{pick, both}
use Rattle.wavelet.specs.Limits.{max_height}
use Rattle.wavelet.specs.Levels.{side_at}
use Rattle.wavelet.specs.Order.{RowName, row_name, set_row}
use Rattle.wavelet.specs.Questions.{within, size_question}
use Rattle.wavelet.specs.declared.shape.Shape.{Shape}
use Rattle.wavelet.specs.Shape.{columns, rows}
use Rattle.reader_steps.specs.Asked.{named}
use Rattle.reader_steps.specs.Places.{Spot, next_up, spot_fed, enter}
use Rattle.reader_order.specs.declared.Place.{Place}

abbrev pub placed : ℕ → ℕ → ℕ → ℕ → Place
placed d k n b = record { drawn = d; level = k; set = n; band = b }

abbrev pub nowhere : Place
nowhere = placed 0 0 0 0

abbrev pub at : ℕ → Spot → Place
at d q = placed d q.level q.set q.band

module _ (s : Shape) where
  abbrev pub wanted_from : Spot → Spot
  wanted_from q = next_up s.filter (columns s) (rows s) s.levels q.level q.set q.band

  -- the row wanted from a place on, while row d is waited for and c rows are left to be drawn: where none is wanted the row is drawn
  unfoldable pub seek : ℕ → ℕ → Spot → Place
  seek zero d q = nowhere
  seek (suc c) d q =
      pick (ltb 0 (wanted_from q).level) (at d (wanted_from q)) (seek c (suc d) (enter s.filter (columns s) (rows s) s.levels (suc d)))

  -- sizes that pass 2, 3 and 4; and a place whose numbers are in their ranges
  unfoldable pub shape_fits : Bool
  shape_fits = eqb (size_question s.width s.height s.levels) 0

  unfoldable pub place_fits : Place → Bool
  place_fits p =
      both shape_fits
      (both (within 1 s.levels p.level) (both (both (ltb p.drawn s.height) (leb p.set max_height)) (ltb p.band 4)))

  -- the first row that is wanted, and the one after a row
  unfoldable pub first_place : Place
  first_place = pick shape_fits (seek s.height 0 (enter s.filter (columns s) (rows s) s.levels 0)) nowhere

  unfoldable pub next_place : Place → Place
  next_place p =
      pick (place_fits p)
      (seek (s.height - p.drawn) p.drawn (spot_fed s.filter (columns s) (rows s) s.levels p.level p.set p.band)) nowhere

  -- the number of a row in its band, and its name
  unfoldable pub row_at : Place → ℕ
  row_at p = pick (place_fits p) (set_row (side_at (p.level - 1) (rows s)) (named p.band) p.set) 0

  abbrev pub name_at : Place → RowName
  name_at p = row_name p.level (named p.band) (row_at p)

  -- the names of at most n rows, from a place on
  unfoldable pub rows_from : ℕ → Place → List RowName
  rows_from zero p = []
  rows_from (suc n) p = pick (eqb p.level 0) [] (name_at p ∷ rows_from n (next_place p))
