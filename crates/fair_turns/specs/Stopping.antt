-- A reader with a stop at level j (Q-6), as one that takes turns: of a map of the columns W and the rows H at L levels by the filter f, on a store in which x
-- stood; its feeds are lent n numbers of it. Its band rows have the map's names.
use Rattle.std.specs.Prelude.{◌≡◌, true, List, [], ◌∷◌, ℕ, zero, suc, ◌-◌, ℤ, eqb}
use Rattle.numbers.specs.Signal.{pick}
use Rattle.lifting.specs.Grid.{Side}
use Rattle.wavelet.specs.Bands.{LL}
use Rattle.wavelet.specs.Levels.{side_at}
use Rattle.wavelet.specs.Order.{RowName, row_name}
use Rattle.calls.specs.Lists.{Area}
use Rattle.reader.specs.Questions.{run_fits}
use Rattle.reader.specs.Demand3.{Call, want, feed, World, Event, event, next}
use Rattle.distant.specs.Distant.{stopped_world}
use Rattle.fair_turns.specs.Reading.{Reading}
use Rattle.fair_turns.specs.Standing.{names_row, takes_run, reading}

-- where levels are to be worked out
abbrev pub stopping : ℕ → Side → Side → ℕ → ℕ → ℕ → (ℕ → ℤ) → Reading
stopping f W H L j n x = reading f j (side_at j W) (side_at j H) (L - j) n (stopped_world f W H L j x)

-- where none is: n rows of LL of level j, from row r on
unfoldable pub low_rows : ℕ → ℕ → ℕ → List RowName
low_rows j r zero = []
low_rows j r (suc n) = row_name j LL r ∷ low_rows j (suc r) n

pub record FitsLow (f j w : ℕ) (x : RowName) (a : Area) : Type 0 where
  pub size : a.size ≡ w
  pub numbers : run_fits f j a.size a.numbers ≡ true

abbrev pub handing : ℕ → Side → Side → ℕ → ℕ → ℕ → (ℕ → ℤ) → Reading
handing f W H L j n x = record {
  Call = Call;
  World = World;
  Event = Event;
  event = event;
  next = next;
  fresh = stopped_world f W H L j x;
  rows = low_rows j 0 (pick (eqb (side_at j W).length 0) 0 (side_at j H).length);
  want = want;
  feed = feed n;
  names = names_row;
  takes = takes_run;
  Fits = FitsLow f j (side_at j W).length;
}
