-- A map through its ground file and back: the plane that a whole-map call leaves, or into which the rows of a writer are put by the view, through the saver in
-- any areas and, its bytes cut anywhere, through the loader. In the words that the contracts of these calls cite: nothing is taken for granted of the plane.
use Rattle.std.specs.Prelude.{◌≡◌, List, [], ◌∷◌, ℕ, ◌+◌, ◌*◌, ◌/◌, ◌≤◌, ◌<◌, ℤ, length}
use Rattle.numbers.specs.Signal.{at, spliced}
use Rattle.numbers.specs.Word.{whole}
use Rattle.lifting.specs.Grid.{Side}
use Rattle.areas.specs.Areas.{heights_at}
use Rattle.wavelet.specs.declared.shape.Shape.{Shape}
use Rattle.wavelet.specs.Shape.{columns, rows}
use Rattle.wavelet.specs.Bands.{Grid}
use Rattle.wavelet.specs.Plane.{cells, plane_of}
use Rattle.wavelet.specs.ViewCall.{view_question, view_start, view_length}
use Rattle.filters.specs.Filters.{filter_of}
use Rattle.calls.specs.Lists.{Area, All}
use Rattle.map_questions.specs.Calls.{forward_question, passed}
use Rattle.writer.specs.History as writer
use Rattle.writer.specs.History.{DrawnRow}
use Rattle.round_trip.specs.RoundTrip.{wrote, rows_wrote}
use Rattle.ground_file.specs.declared.saver.Saver.{Saver}
use Rattle.ground_file.specs.Saving.{Saved}
use Rattle.ground_file.specs.Maps.{map_file}
use Rattle.ground_file.specs.Saving.{set_up_number, fresh, Saves, SavesOn, Calls}
use Rattle.ground_loader.specs.Loader.{set_up_question, store_needs, fresh_world}
use Rattle.ground_loader.specs.LoaderLists.{Call, event, events, final}
use Rattle.ground_loader.specs.Loading.{loaded, Back}

-- the map whose heights stand in a list, row after row
abbrev pub map_in : Shape → List ℕ → Grid
map_in s hs = cells s.width (heights_at hs)

-- ---- the plane of a whole-map call, as `whole_map::forward` and `terrain_map_forward` promise it: lent the heights hs, a plane area that held z and a work
-- area of n numbers, it answers r and leaves p in the plane area, whose length stays
pub record Lifted (s : Shape) (hs : List ℕ) (z : List ℤ) (n r : ℕ) (p : List ℤ) : Type 0 where
  pub answer : r ≡ forward_question s.filter (columns s) (rows s) s.levels (length hs) (length z) n
  pub plane : at p ≡
      passed r (s.width * s.height) (plane_of (filter_of s.filter) whole s.levels (columns s) (rows s) (cells s.width (heights_at hs))) (at z)
  pub size : length p ≡ length z

-- ---- the plane of a writer: each row that was drawn is put where the view says that it begins, over what stood there
unfoldable pub placed : Shape → List DrawnRow → (ℕ → ℤ) → ℕ → ℤ
placed s [] z = z
placed s (d ∷ ds) z =
    placed s ds (spliced (view_start (columns s) (rows s) d.row.level d.row.band d.row.row) d.row.length d.values z)

-- the view of that row in a plane of n numbers passes, and has its length
pub record Viewed (s : Shape) (n : ℕ) (d : DrawnRow) : Type 0 where
  pub passes : view_question n (columns s) (rows s) s.levels d.row.level d.row.band d.row.row ≡ 0
  pub size : view_length (columns s) d.row.level d.row.band ≡ d.row.length

-- any calls cs on a fresh writer of the filter f, the columns W and L levels, whose rows start at coordinate y and whose store had n numbers: the shape of the
-- map that was written
module _ (f : ℕ) (W : Side) (y L n : ℕ) (x : ℕ → ℤ) (cs : List writer.Call) where
  abbrev pub shape_wrote : Shape
  shape_wrote = record { width = W.length; height = rows_wrote f W y L n x cs; levels = L; x = W.start; y = y; filter = f }

  -- the plane area p holds every row drawn; z stood there before
  pub record Placed (z : ℕ → ℤ) (p : List ℤ) : Type 0 where
    pub room : W.length * rows_wrote f W y L n x cs ≤ length p
    pub plane : (j : ℕ) → j < W.length * rows_wrote f W y L n x cs → at p j ≡ placed shape_wrote (writer.drawn (wrote f W y L n x cs)) z j

-- ---- the saver, lent a plane area p
module _ (s : Shape) (p : List ℤ) where
  -- any saving calls after the set-up, in areas of any lengths, until the file is over: b are the bytes that they wrote, one after the other
  pub record SavedAs (b : List ℕ) : Type 0 where
    pub saver : Saver
    pub calls : Calls p (fresh s 1) b saver
    pub over : 3 ≤ saver.phase

-- ---- the loader, offered the bytes b: lent a line store of n numbers, which held x, and a row area of m, which held y; in turn i it is offered as many as
-- cuts i says after the first, or draws into outs i
module _ (s : Shape) (b : List ℕ) (n m : ℕ) (cuts : ℕ → ℕ) (outs : ℕ → Area) (turns : ℕ) where
  -- what is lent is long enough: 5 and 12; and there are turns enough, each with a byte or a row at least
  pub record Lent : Type 0 where
    pub store : store_needs s ≤ n
    pub row : (s.width + 1) / 2 ≤ m
    pub areas : (i : ℕ) → s.width ≤ (outs i).size
    pub many : length b + s.height ≤ turns

  -- the set-up passes; then every byte is taken, every height of the map g is drawn in order, and Done is said
  pub record LoadedAs (g : Grid) (x y : ℕ → ℤ) : Type 0 where
    pub set-up : set_up_question s 1 n ≡ 0
    pub bytes : All (λ c. c < 256) b
    pub back : Back s g (events (loaded n m cuts outs b bytes turns 0 (fresh_world s 1 x y)) (fresh_world s 1 x y))
        (λ c. event c (final (loaded n m cuts outs b bytes turns 0 (fresh_world s 1 x y)) (fresh_world s 1 x y)))

-- ---- the claim, of a plane area p and the heights hs: saved and loaded, it gives them back
pub record Trip (s : Shape) (hs : List ℕ) (p : List ℤ) : Type 0 where
  pub set-up : set_up_number s 1 ≡ 0
  pub saves : (b : List ℕ) (v : Saver) → Calls p (fresh s 1) b v → (before after : List ℕ) (r : Saved) → Saves v p before after r → SavesOn v before r
  pub file : (b : List ℕ) → SavedAs s p b → b ≡ map_file s (map_in s hs)
  pub loads : (b : List ℕ) → SavedAs s p b → (n m : ℕ) (cuts : ℕ → ℕ) (outs : ℕ → Area) (turns : ℕ) → Lent s b n m cuts outs turns → (x y : ℕ → ℤ)
      → LoadedAs s b n m cuts outs turns (map_in s hs) x y
