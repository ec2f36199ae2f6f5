-- The tolerant reader over every list of calls, and what it hands out from a rounded plane. Document 02, Q-10: "A tolerant reader ... limits each rebuilt
-- value, before further use, to its level's range, heights to 0 to 65,535, instead of giving 14." "Prove that, from the rounded plane of a map, it draws all
-- rows and no height is off from that map by more than level 1's figure."
-- Of W columns and H rows at L levels: its steps, and what turns a call away, are the strict reader's (reader's Demand3), with no 9, 14 or Ended.
use Rattle.std.specs.Prelude.{◌≡◌, ◌↔◌, true, false, List, ◌∷◌, ℕ, ◌+◌, ◌≤◌, ◌<◌, ℤ, pos, nat_abs, ◌-ℤ◌, length, get_or}
use Rattle.numbers.specs.Word.{wrap32}
use Rattle.lifting.specs.Grid.{side}
use Rattle.lifting.specs.FiveThree.{five_three_filter}
use Rattle.wavelet.specs.Bands.{Grid}
use Rattle.wavelet.specs.Plane.{cells}
use Rattle.wavelet.specs.View.{band_columns, band_start}
use Rattle.wavelet.specs.ViewCall.{band_row_exists}
use Rattle.wavelet.specs.Order.{RowName}
use Rattle.wavelet.specs.Steps.{steps, Step}
use Rattle.wavelet.specs.Steps as step
use Rattle.calls.specs.Lists.{Reply, gives, unless, Area, All}
use Rattle.filters.specs.Figures.{store_by}
use Rattle.tolerance.specs.Back.{map_back_limited}
use Rattle.rounding.specs.Rounding.{rounded_plane}
use Rattle.rounding.specs.Figure.{error_bound}
use Rattle.reader_steps.specs.Sets.{ahead}
use Rattle.reader.specs.Answers.{done}
use Rattle.reader.specs.Rebuilt.{Rows}
use Rattle.reader.specs.Demand3.{Call, want, feed, draw, Given, Event, wanted, fed, drew, left, ended_by, fed_rows, drawn_rows, HasFedRow}
use Rattle.reader.specs.Demand3.{World, world_by, want_says, feed_turned, draw_says, written}

-- ---- state and store of a set-up that passed, on a store in which x stood
abbrev pub tolerant_world : ℕ → ℕ → ℕ → (ℕ → ℤ) → World
tolerant_world W H L x = world_by 1 0 0 0 (side 0 W) (side 0 H) L x

-- ---- a plane in memory, and its band rows by their names: where the view finds them
abbrev pub rows_in : ℕ → ℕ → (ℕ → ℤ) → Rows
rows_in W H x y i = x (band_start (side 0 W) (side 0 H) y.level y.band y.row + i)

-- the run a is row y of the plane x
pub record IsRowOf (W H : ℕ) (x : ℕ → ℤ) (y : RowName) (a : Area) : Type 0 where
  pub size : a.size ≡ band_columns (side 0 W) y.level y.band
  pub values : (i : ℕ) → i < a.size → a.numbers i ≡ rows_in W H x y i

-- every row of the plane x, as the run of that name
pub record HasRows (W H L : ℕ) (x : ℕ → ℤ) (rows : RowName → Area) : Type 0 where
  pub are : (y : RowName) → band_row_exists (side 0 W) (side 0 H) L y.level y.band y.row ≡ true → IsRowOf W H x y (rows y)

module _ (W H L : ℕ) where
  abbrev pub steps_of : List Step
  steps_of = steps (ahead 0) (side 0 W) (side 0 H) L

  abbrev pub needed : ℕ
  needed = store_by 0 (side 0 W) L

  -- each row fed was that row of the plane x
  pub record FedFrom (x : ℕ → ℤ) (es : List Event) : Type 0 where
    pub rows : All (HasFedRow (side 0 W) (rows_in W H x)) (fed_rows steps_of es)

-- what is seen of a draw into a: its answer; the area past what was written is as it was
pub record Hands (answer : Reply Given) (a : Area) (seen : Event) : Type 0 where
  pub after : Area
  pub is : seen ≡ drew a answer after
  pub size : after.size ≡ a.size
  pub untouched : (i : ℕ) → written answer ≤ i → after.numbers i ≡ a.numbers i

-- ---- the claim, of the events es of any list of calls; `then` is what would be seen of a further call
pub record Tolerant (W H L : ℕ) (es : List Event) (then : Call → Event) : Type 0 where
  pub lives : ended_by es ≡ false
  pub wants : then want ≡ wanted (gives (want_says 0 (side 0 W) false (left (steps_of W H L) es)))
  -- a feed passes where none of 5, 8, 13 and 7 turns it away; a draw at Draw gives the row, or 5 or 12. Each is lent a store of n numbers
  pub feeds : (n : ℕ) (a : Area) → then (feed n a) ≡ fed a (unless (feed_turned 0 0 (side 0 W) (needed W H L) false (left (steps_of W H L) es) n a) tt)
  pub draws : (n : ℕ) (a : Area) → Hands (draw_says (side 0 W) (needed W H L) false (left (steps_of W H L) es) n a.size) a (then (draw n a))
  -- the heights drawn are the first of the limited way back from any plane that has the rows fed, whether a map has it or not
  pub heights : (x : ℕ → ℤ) → FedFrom W H L x es → (r c : ℕ) → r < length (drawn_rows es) → c < W →
      get_or (drawn_rows es) r (λ _. pos 0) c ≡ map_back_limited five_three_filter wrap32 0 L (side 0 W) (side 0 H) (cells W x) r c
  -- no more rows than the map has, and Done is said when they are all
  pub drawn_le : length (drawn_rows es) ≤ H
  pub finished : then want ≡ wanted (gives done) ↔ length (drawn_rows es) ≡ H

-- ---- and where x is the plane of the map g, and the rows fed are those of x rounded by a step of q
pub record FromRounded (W H L q : ℕ) (g : Grid) (x : ℕ → ℤ) (es : List Event) (then : Call → Event) : Type 0 where
  -- the row wanted passes: 7 does not come
  pub takes : (n : ℕ) (a : Area) (y : RowName) (t : List Step) → left (steps_of W H L) es ≡ step.feed y ∷ t → needed W H L ≤ n →
      IsRowOf W H (rounded_plane L W H q x) y a → then (feed n a) ≡ fed a (gives tt)
  pub near : FedFrom W H L (rounded_plane L W H q x) es → (r c : ℕ) → r < length (drawn_rows es) → c < W →
      nat_abs (get_or (drawn_rows es) r (λ _. pos 0) c -ℤ g r c) ≤ error_bound L q
  pub same : q ≡ 1 → FedFrom W H L (rounded_plane L W H q x) es → (r c : ℕ) → r < length (drawn_rows es) → c < W →
      get_or (drawn_rows es) r (λ _. pos 0) c ≡ g r c

-- ---- fed and drawn as it wants: all rows, and Done
pub record AllNear (W H L q : ℕ) (g : Grid) (es : List Event) (then : Call → Event) : Type 0 where
  pub all : length (drawn_rows es) ≡ H
  pub says : then want ≡ wanted (gives done)
  pub near : (r c : ℕ) → r < H → c < W → nat_abs (get_or (drawn_rows es) r (λ _. pos 0) c -ℤ g r c) ≤ error_bound L q
  pub same : q ≡ 1 → (r c : ℕ) → r < H → c < W → get_or (drawn_rows es) r (λ _. pos 0) c ≡ g r c
