-- The round trip: the rows drawn from a finished writer with none waiting, fed to a reader of equal size, levels, origin and filter as it wants them.
-- Document 02, Q-8: "the reader of demand 3 has the writer's filter". f is its number.
use Rattle.std.specs.Prelude.{◌≡◌, Bool, true, List, [], ◌∷◌, ℕ, ◌+◌, ◌*◌, ◌≤◌, ◌<◌, ℤ, pos, length, get_or, eqb}
use Rattle.numbers.specs.Signal.{pick, both}
use Rattle.wavelet.specs.Limits.{max_sample, max_origin}
use Rattle.wavelet.specs.Bands.{Grid, code}
use Rattle.wavelet.specs.Plane.{cells}
use Rattle.wavelet.specs.Order.{RowName}
use Rattle.lifting.specs.Grid.{Side, side}
use Rattle.wavelet.specs.View.{band_start, band_columns}
use Rattle.wavelet.specs.Maps.{HasPlane}
use Rattle.wavelet.specs.Steps.{steps}
use Rattle.filters.specs.Filters.{filter_of}
use Rattle.filters.specs.Figures.{store_by}
use Rattle.calls.specs.Lists.{gives, Area, All}
use Rattle.writer.specs.declared.BandRow.{BandRow}
use Rattle.writer.specs.History as writer
use Rattle.writer.specs.Demand3.{whole_rows, waiting_of}
use Rattle.writer.specs.Questions as writer-asks
use Rattle.reader.specs.Answers.{done}
use Rattle.reader.specs.Demand3 as reader
use Rattle.reader.specs.Questions as reader-asks
use Rattle.reader.specs.Played.{played, Back, Stopped}

-- the drawn row of that name, as the run that it is: its length and its values
unfoldable pub is_named : RowName → BandRow → Bool
is_named x d = both (eqb x.level d.level) (both (eqb (code x.band) d.band) (eqb x.row d.row))

unfoldable pub drawn_as : List writer.DrawnRow → RowName → Area
drawn_as [] x = record { size = 0; numbers = λ _. pos 0 }
drawn_as (d ∷ ds) x = pick (is_named x d.row) (record { size = d.row.length; numbers = d.values }) (drawn_as ds x)

-- ---- any calls cs on a fresh writer of the filter f, the columns W and L levels, whose rows start at coordinate s and whose store had n numbers
module _ (f : ℕ) (W : Side) (s L n : ℕ) (x : ℕ → ℤ) (cs : List writer.Call) where
  abbrev pub wrote : List writer.Event
  wrote = writer.events cs (writer.fresh_world f W s L n x)

  -- the map's height, and its rows
  abbrev pub rows_wrote : ℕ
  rows_wrote = whole_rows W wrote

  abbrev pub side_wrote : Side
  side_wrote = side s rows_wrote

  -- its origin is a 16-bit number each way, it is finished, none waits, and the heights taken were 16-bit numbers
  pub record Finished : Type 0 where
    pub across : W.start ≤ max_origin
    pub down : s ≤ max_origin
    pub set-up : writer-asks.set_up_question f W L n ≡ 0
    pub finished : writer.finished_by wrote ≡ true
    pub none_waits : waiting_of f W s L wrote ≡ []
    pub sixteen : All (λ h. h ≤ max_sample) (writer.taken wrote)

  -- then a fresh reader of that filter, size and origin and as many levels, whose store has n' numbers, as it wants, each row drawn into an area of its own
  module _ (n' : ℕ) (y : ℕ → ℤ) (outs : ℕ → Area) where
    abbrev pub fresh_reader : reader.World
    fresh_reader = reader.fresh_world f 0 0 W side_wrote L y

    abbrev pub turns : List reader.Call
    turns = played n' (drawn_as (writer.drawn wrote)) outs (length (steps (filter_of f).ahead W side_wrote L)) fresh_reader

    abbrev pub read : List reader.Event
    read = reader.events turns fresh_reader

    -- what is lent is long enough: question 5 of the set-up (2, 3, 18 and 4 follow), and 12
    pub record Lent : Type 0 where
      pub store : store_by f W L ≤ n'
      pub areas : (i : ℕ) → W.length ≤ (outs i).size

    -- the set-up passes; then the reader hands back every height in order and says Done
    pub record HandsBack : Type 0 where
      pub set-up : reader-asks.set_up_question f W side_wrote L n' ≡ 0
      pub rows : length (reader.drawn_rows read) ≡ rows_wrote
      pub all : length (writer.taken wrote) ≡ W.length * rows_wrote
      pub heights : (r c : ℕ) → r < rows_wrote → c < W.length →
          get_or (reader.drawn_rows read) r (λ _. pos 0) c ≡ pos (get_or (writer.taken wrote) (r * W.length + c) 0)
      pub done : reader.event reader.want (reader.final turns fresh_reader) ≡ reader.wanted (gives done)

-- ---- in that way from a plane: its band rows by their names
unfoldable pub plane_rows : Side → Side → (ℕ → ℤ) → RowName → Area
plane_rows W H plane x =
    record { size = band_columns W x.level x.band; numbers = λ i. plane (band_start W H x.level x.band x.row + i) }

module _ (f : ℕ) (W H : Side) (L n : ℕ) (y : ℕ → ℤ) (plane : ℕ → ℤ) (outs : ℕ → Area) where
  abbrev pub plane_turns : List reader.Call
  plane_turns = played n (plane_rows W H plane) outs (length (steps (filter_of f).ahead W H L)) (reader.fresh_world f 0 0 W H L y)

  abbrev pub plane_read : List reader.Event
  plane_read = reader.events plane_turns (reader.fresh_world f 0 0 W H L y)

  abbrev pub plane_then : reader.Call → reader.Event
  plane_then c = reader.event c (reader.final plane_turns (reader.fresh_world f 0 0 W H L y))

  -- of a map's plane it hands back that map and says Done; of a plane that no map has, it gives 7 or 14 and never says Done
  pub record FromPlane : Type 0 where
    pub map-back : (g : Grid) → HasPlane (filter_of f) L W H g (cells W.length plane) → Back W H g plane_read plane_then
    pub no_map : ((g : Grid) → HasPlane (filter_of f) L W H g (cells W.length plane) → ⊥) → Stopped plane_read plane_then
