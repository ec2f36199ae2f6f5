-- The reader fed and drawn as it wants, for the theorem that joins writer and reader.
-- Each band row that it names is fed as the run that `rows` has under that name, with that run's own length; each height row is drawn into an area of its own
-- turn, and each call is lent the n numbers of the reader's store.
-- `want` may be asked at any time and changes nothing, so it is no call of the list.
use Rattle.std.specs.Prelude.{◌≡◌, true, List, [], ◌∷◌, ◌++◌, ℕ, zero, suc, length}
use Rattle.wavelet.specs.Bands.{Grid}
use Rattle.lifting.specs.Grid.{Side}
use Rattle.wavelet.specs.View.{band_columns}
use Rattle.wavelet.specs.ViewCall.{band_row_exists}
use Rattle.wavelet.specs.Maps.{IsMap}
use Rattle.wavelet.specs.Order.{RowName, row_name}
use Rattle.calls.specs.Lists.{gives, refused, Area}
use Rattle.reader_steps.specs.Asked.{named}
use Rattle.reader.specs.Answers.{Want, row, draw_now, done, ended}
use Rattle.reader.specs.Demand3.{Call, want, feed, draw, Event, wanted, fed, drew, World, event, final, drawn_rows, IsRow, FirstRows}

module _ (n : ℕ) (rows : RowName → Area) where
  -- the call that an answer to `want` asks for, with the output area a
  unfoldable pub as_wanted : Area → Want → List Call
  as_wanted a (row k c r j) = feed n (rows (row_name k (named c) r)) ∷ []
  as_wanted a draw_now = draw n a ∷ []
  as_wanted a done = []
  as_wanted a ended = []

  unfoldable pub answering : Area → Event → List Call
  answering a (wanted (gives v)) = as_wanted a v
  answering a (wanted (refused q)) = []
  answering a (fed b v) = []
  answering a (drew b v c) = []

  -- so many turns; `outs m` is the area of the turn that leaves m of them
  unfoldable pub played : (ℕ → Area) → ℕ → World → List Call
  played outs zero w = []
  played outs (suc m) w = answering (outs m) (event want w) ++ played outs m (final (answering (outs m) (event want w)) w)

-- ---- the rows of a plane
-- each has its length
pub record Sized (W H : Side) (L : ℕ) (rows : RowName → Area) : Type 0 where
  pub size : (x : RowName) → band_row_exists W H L x.level x.band x.row ≡ true → (rows x).size ≡ band_columns W x.level x.band

-- a map has all of them for its plane
pub record HasAll (f : ℕ) (W H : Side) (L : ℕ) (g : Grid) (rows : RowName → Area) : Type 0 where
  pub are : (x : RowName) → band_row_exists W H L x.level x.band x.row ≡ true → IsRow f W H g x (rows x)

-- ---- one of the calls gave 7 or 14
pub data Refusal : List Event → Type 0 where
  seven : {a : Area} {es : List Event} → Refusal (fed a (refused 7) ∷ es)
  fed_fourteen : {a : Area} {es : List Event} → Refusal (fed a (refused 14) ∷ es)
  drawn_fourteen : {a b : Area} {es : List Event} → Refusal (drew a (refused 14) b ∷ es)
  after : {e : Event} {es : List Event} → Refusal es → Refusal (e ∷ es)

-- every height of the map g was handed back, in order, and then Done is said
pub record Back (W H : Side) (g : Grid) (es : List Event) (then : Call → Event) : Type 0 where
  pub all : length (drawn_rows es) ≡ H.length
  pub heights : FirstRows 0 W g (drawn_rows es)
  pub says : then want ≡ wanted (gives done)

-- 7 or 14 was given, and then Done is not said
pub record Stopped (es : List Event) (then : Call → Event) : Type 0 where
  pub refusal : Refusal es
  pub not_done : then want ≡ wanted (gives done) → ⊥

-- ---- of the rows of a map it hands back that map; of rows that no map has, each of its length, it stops
pub record Played (f : ℕ) (W H : Side) (L : ℕ) (rows : RowName → Area) (es : List Event) (then : Call → Event) : Type 0 where
  pub map-back : (g : Grid) → IsMap W.length H.length g → HasAll f W H L g rows → Back W H g es then
  pub no_map : Sized W H L rows → ((g : Grid) → IsMap W.length H.length g → HasAll f W H L g rows → ⊥) → Stopped es then
