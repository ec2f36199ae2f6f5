-- The reader that stands, as one that takes turns: of the filter f, the columns W and the rows H at L levels, on a store in which x stood; its feeds are lent n
-- numbers of it. With a stop at level b (Q-6) W and H are that level's, L the levels above it, and the steps count levels from it; e numbers of the store are
-- left alone.
use Rattle.std.specs.Prelude.{◌≡◌, true, List, [], ◌∷◌, ℕ, zero, suc, ◌-◌, ℤ, eqb}
use Rattle.numbers.specs.Signal.{pick}
use Rattle.lifting.specs.Grid.{Side}
use Rattle.wavelet.specs.Order.{RowName, row_name}
use Rattle.wavelet.specs.Steps.{steps, band_rows_of}
use Rattle.wavelet.specs.View.{band_columns}
use Rattle.calls.specs.Lists.{gives, refused, Area}
use Rattle.reader_steps.specs.Asked.{named}
use Rattle.reader_steps.specs.Sets.{ahead}
use Rattle.reader.specs.Answers.{row, draw_now, done, ended}
use Rattle.reader.specs.Questions.{run_fits}
use Rattle.reader.specs.Demand3.{on_top, Call, want, feed, World, Event, wanted, fed, drew, event, next, fresh_world}
use Rattle.fair_turns.specs.Reading.{Reading}

unfoldable pub names_row : Event → List RowName
names_row (wanted (gives (row k b r m))) = row_name k (named b) r ∷ []
names_row (wanted (gives draw_now)) = []
names_row (wanted (gives done)) = []
names_row (wanted (gives ended)) = []
names_row (wanted (refused q)) = []
names_row (fed a v) = []
names_row (drew a v b) = []

unfoldable pub takes_run : Event → List Area
takes_run (wanted v) = []
takes_run (fed a (gives u)) = a ∷ []
takes_run (fed a (refused q)) = pick (eqb q 14) (a ∷ []) []
takes_run (drew a v b) = []

-- the map's name of a row of the steps, and of their rows; a level of the map, counted from the stop
abbrev pub of_map : ℕ → RowName → RowName
of_map b x = row_name (on_top b x.level) x.band x.row

unfoldable pub all_of_map : ℕ → List RowName → List RowName
all_of_map b [] = []
all_of_map b (x ∷ l) = of_map b x ∷ all_of_map b l

abbrev pub names_of : ℕ → List RowName → List RowName
names_of zero l = l
names_of (suc b) l = all_of_map (suc b) l

abbrev pub from_stop : ℕ → ℕ → ℕ
from_stop zero k = k
from_stop (suc b) k = k - suc b

pub record FitsRow (f b : ℕ) (W : Side) (x : RowName) (a : Area) : Type 0 where
  pub size : a.size ≡ band_columns W (from_stop b x.level) x.band
  pub numbers : run_fits f x.level a.size a.numbers ≡ true

-- in the world w of a set-up that passed
abbrev pub reading : ℕ → ℕ → Side → Side → ℕ → ℕ → World → Reading
reading f b W H L n w = record {
  Call = Call;
  World = World;
  Event = Event;
  event = event;
  next = next;
  fresh = w;
  rows = names_of b (band_rows_of (steps (ahead f) W H L));
  want = want;
  feed = feed n;
  names = names_row;
  takes = takes_run;
  Fits = FitsRow f b W;
}

abbrev pub over : ℕ → ℕ → ℕ → Side → Side → ℕ → ℕ → (ℕ → ℤ) → Reading
over f b e W H L n x = reading f b W H L n (fresh_world f b e W H L x)

-- with no stop
abbrev pub standing : ℕ → Side → Side → ℕ → ℕ → (ℕ → ℤ) → Reading
standing f W H L n x = over f 0 0 W H L n x
