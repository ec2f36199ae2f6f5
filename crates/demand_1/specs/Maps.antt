-- Demand 1 of the whole map, both ways, and of the view of a band row; the C calls answer and leave the same. W are the columns of the map, H its rows, L its
-- levels, f its filter.
use Rattle.std.specs.Prelude.{◌≡◌, List, [], ℕ, ◌*◌, ℤ, length, eqb}
use Rattle.numbers.specs.Signal.{pick}
use Rattle.numbers.specs.Word.{whole, wrap32}
use Rattle.lifting.specs.Grid.{Side}
use Rattle.wavelet.specs.Bands.{Grid}
use Rattle.wavelet.specs.Plane.{flat, plane_of, map_back}
use Rattle.wavelet.specs.ViewCall.{view_question, view_row, view_start, view_length}
use Rattle.wavelet.specs.Asks.{Passes, MapAsks, ViewAsks}
use Rattle.filters.specs.Filters.{filter_of}
use Rattle.map_questions.specs.Calls.{forward_question, backward_question, zeros, passed, rebuilt}
use Rattle.map_questions.specs.Plain.{BackwardAsks}
use Rattle.level.specs.Level.{Memory}
use Rattle.demand_1.specs.Words.{Kept, KeptBut14, Zeroed, Surplus}

-- the numbers that a map needs of each area
abbrev pub cells_of : Side → Side → ℕ
cells_of W H = W.length * H.length

-- ---- forward: the map g; a plane's area z and a work area k; q is the answer
abbrev pub plane_after : ℕ → Side → Side → ℕ → ℕ → Grid → Memory → Memory
plane_after f W H L q g z = passed q (cells_of W H) (plane_of (filter_of f) whole L W H g) z

abbrev pub work_after : Side → Side → ℕ → Memory → Memory
work_after W H q k = passed q (cells_of W H) zeros k

pub record Forward (f : ℕ) (W H : Side) (L : ℕ) (g : Grid) (z k : Memory) (q : ℕ) : Type 0 where
  pub plane : Kept q z (plane_after f W H L q g z)
  pub work : Kept q k (work_after W H q k)
  pub zeroed : q ≡ 0 → Zeroed (cells_of W H) k (work_after W H q k)
  pub surplus : Surplus (cells_of W H) z (plane_after f W H L q g z)

-- ---- backward: the plane x; the heights' area z and a work area k. 14: "in the whole-map engine it zeroes heights and work area"
abbrev pub heights_after : ℕ → Side → Side → ℕ → ℕ → Grid → Memory → Memory
heights_after f W H L q x z = rebuilt q (cells_of W H) (flat W.length (map_back (filter_of f) wrap32 L W H x)) z

abbrev pub work_back : Side → Side → ℕ → Memory → Memory
work_back W H q k = rebuilt q (cells_of W H) zeros k

pub record Backward (f : ℕ) (W H : Side) (L : ℕ) (x : Grid) (z k : Memory) (q : ℕ) : Type 0 where
  pub heights : KeptBut14 q z (heights_after f W H L q x z)
  pub work : KeptBut14 q k (work_back W H q k)
  pub heights_14 : q ≡ 14 → Zeroed (cells_of W H) z (heights_after f W H L q x z)
  pub work_14 : q ≡ 14 → Zeroed (cells_of W H) k (work_back W H q k)
  pub zeroed : q ≡ 0 → Zeroed (cells_of W H) k (work_back W H q k)
  pub surplus : Surplus (cells_of W H) z (heights_after f W H L q x z)

-- ---- the view, which is lent the plane to read only: "A refused view is an empty stretch". C has two numbers, which held a and m
pub record View (plane : List ℤ) (W H : Side) (L k c r : ℕ) : Type 0 where
  pub stretch : (view_question (length plane) W H L k c r ≡ 0 → ⊥) → view_row plane W H L k c r ≡ []

pub record CView (n : ℕ) (W H : Side) (L k c r a m : ℕ) : Type 0 where
  pub start : Kept (view_question n W H L k c r) a (pick (eqb (view_question n W H L k c r) 0) (view_start W H k c r) a)
  pub count : Kept (view_question n W H L k c r) m (pick (eqb (view_question n W H L k c r) 0) (view_length W k c) m)

-- for every argument and every area: which number is answered, and what that says of what was lent
pub record MapCalls : Type 0 where
  pub forward_asks : (f : ℕ) (W H : Side) (L a b c : ℕ) → MapAsks f W.length H.length L a b c Passes (forward_question f W H L a b c)
  pub forward : (f : ℕ) (W H : Side) (L : ℕ) (g : Grid) (z k : Memory) (q : ℕ) → Forward f W H L g z k q
  pub backward_asks : (f : ℕ) (W H : Side) (L a b c : ℕ) (x : Grid) → BackwardAsks f W H L a b c x (backward_question f W H L a b c x)
  pub backward : (f : ℕ) (W H : Side) (L : ℕ) (x : Grid) (z k : Memory) (q : ℕ) → Backward f W H L x z k q
  pub view_asks : (n : ℕ) (W H : Side) (L k c r : ℕ) → ViewAsks n W H L k c r (view_question n W H L k c r)
  pub view : (plane : List ℤ) (W H : Side) (L k c r : ℕ) → View plane W H L k c r
  pub c_view : (n : ℕ) (W H : Side) (L k c r a m : ℕ) → CView n W H L k c r a m
