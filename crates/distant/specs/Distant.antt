-- Distant ground. Document 02, Q-6: "A reader may be set up to stop at level j, 1 to L. It hands out the rows of LL at level j, each value limited to 0 to
-- 65,535,
-- and never wants a row of level j or finer, except LL when j = L. Fed as it wants from a plane that a map has, it hands out exactly the limited LL rows of the
-- map's own j-level transform, in order, then says Done."
-- Of a map of the columns W and the rows H at L levels by the filter f. Where levels are to be worked out (`works`), the claim of demand 3 holds of the
-- reader of
-- the low-low part; where none is, that of the rows handed on.
use Rattle.std.specs.Prelude.{◌≡◌, ◌↔◌, true, false, List, ℕ, ◌+◌, ◌-◌, ◌<◌, ℤ, pos, length, get_or, eqb}
use Rattle.numbers.specs.Signal.{pick}
use Rattle.numbers.specs.Word.{whole}
use Rattle.lifting.specs.Grid.{Side}
use Rattle.filters.specs.Filters.{filter_of}
use Rattle.filters.specs.Figures.{store_by}
use Rattle.wavelet.specs.Bands.{Grid, LL}
use Rattle.wavelet.specs.Maps.{IsMap}
use Rattle.wavelet.specs.Levels.{side_at, level_band}
use Rattle.wavelet.specs.Order.{RowName, row_name}
use Rattle.wavelet.specs.Steps.{steps}
use Rattle.calls.specs.Lists.{gives, All}
use Rattle.reader_steps.specs.Sets.{ahead}
use Rattle.reader.specs.Answers.{row, done}
use Rattle.reader.specs.Limited.{limited}
use Rattle.reader.specs.Calls.{set_up_store}
use Rattle.reader.specs.Stops.{works, left, fresh_at}
use Rattle.reader.specs.Demand3.{Call, want, Event, wanted, World, FedRow, fed_rows, ended_by, drawn_rows, IsRow, Demand3}
use Rattle.distant.specs.LastLists.{fed_runs, HandsOn}

-- state and store of a set-up with a stop that passed, on a store in which x stood
abbrev pub stopped_world : ℕ → Side → Side → ℕ → ℕ → (ℕ → ℤ) → World
stopped_world f W H L j x = record { reader = fresh_at f W H L j; store = set_up_store f W L 0 x }

-- the map's name of a row: levels are counted from the stop in the reader's steps
abbrev pub of_map : ℕ → RowName → RowName
of_map j x = row_name (j + x.level) x.band x.row

-- the rows drawn are the first LL rows of level j of the map g, limited
pub record FirstLow (f : ℕ) (W H : Side) (j : ℕ) (g : Grid) (ys : List (ℕ → ℤ)) : Type 0 where
  pub are : (r c : ℕ) → r < length ys → c < (side_at j W).length →
      get_or ys r (λ _. pos 0) c ≡ limited (level_band (filter_of f) whole W H g j LL r c)

-- ---- with levels to work out, of the events es of any list of calls; `then` is what would be seen of a further call
pub record Distant (f : ℕ) (W H : Side) (L j : ℕ) (es : List Event) (then : Call → Event) : Type 0 where
  pub claim : Demand3 f j (left f W L j) (side_at j W) (side_at j H) (L - j) es then
  -- a row that is wanted is of a coarser level
  pub coarser : (k c r n : ℕ) → then want ≡ wanted (gives (row k c r n)) → j < k
  -- fed the rows that a map's plane has under the names that it wants
  pub hands_out : (g : Grid) → IsMap W.length H.length g →
      All (λ u. IsRow f W H g (of_map j u.row) u.run) (fed_rows (steps (ahead f) (side_at j W) (side_at j H) (L - j)) es) →
      (ended_by es ≡ false) × FirstLow f W H j g (drawn_rows es) × (then want ≡ wanted (gives done) ↔ length (drawn_rows es) ≡ (side_at j H).length)

-- ---- with none: the rows handed on are those of LL of level j; of an empty one there is none, and Done is said at once
abbrev pub HandsLow : ℕ → Side → Side → ℕ → ℕ → List Event → (Call → Event) → Type 0
HandsLow f W H L j es then =
    HandsOn f j (side_at j W).length (pick (eqb (side_at j W).length 0) 0 (side_at j H).length) (store_by f W L) es then
