-- Demand 1 of the line calls of both filters, of the profile and of the fixed form's header; the C calls answer and leave the same. N numbers y of a line that
-- starts at coordinate s go into an area of m numbers that holds z.
use Rattle.std.specs.Prelude.{◌≡◌, true, List, ℕ, ◌≤◌, length, leb, Float}
use Rattle.numbers.specs.Signal.{pick, both}
use Rattle.lifting.specs.Grid.{Side, side}
use Rattle.lifting.specs.GridHalves.{has_line_in}
use Rattle.lifting.specs.GridHalves as five
use Rattle.nine_seven.specs.Memory as nine
use Rattle.wavelet.specs.Asks.{Asks, Passes, Width, Height}
use Rattle.profile.specs.Calls.{floats, profile_question, smoothed}
use Rattle.picture.specs.Form.{Put, HeadPut, answered}
use Rattle.picture.specs.Form as put
use Rattle.level.specs.Level.{Memory}
use Rattle.demand_1.specs.Words.{Kept, Surplus}

-- ---- lines: "A further area lent to it that is shorter than the line gives 5"; `made` is what the filter's definition leaves
abbrev pub forward_number : ℕ → ℕ → ℕ
forward_number N m = pick (leb N m) 0 5

abbrev pub forward_area : (Side → Memory → Memory → Memory) → Side → ℕ → Memory → Memory → Memory
forward_area made S m y z = pick (leb S.length m) (made S y z) z

pub record LineForward (made : Side → Memory → Memory → Memory) (s N m : ℕ) (y z : Memory) : Type 0 where
  pub answer : Asks 5 (N ≤ m) Passes (forward_number N m)
  pub area : Kept (forward_number N m) z (forward_area made (side s N) m y z)
  pub surplus : Surplus N z (forward_area made (side s N) m y z)

-- 14, of a single high value that is odd, changes nothing in a line call
abbrev pub backward_number : Side → ℕ → Memory → ℕ
backward_number S m y = pick (leb S.length m) (pick (has_line_in S y) 0 14) 5

abbrev pub backward_area : (Side → Memory → Memory → Memory) → Side → ℕ → Memory → Memory → Memory
backward_area made S m y z = pick (both (leb S.length m) (has_line_in S y)) (made S y z) z

pub record LineBackward (made : Side → Memory → Memory → Memory) (s N m : ℕ) (y z : Memory) : Type 0 where
  pub answer : Asks 5 (N ≤ m) (Asks 14 (has_line_in (side s N) y ≡ true) Passes) (backward_number (side s N) m y)
  pub area : Kept (backward_number (side s N) m y) z (backward_area made (side s N) m y z)
  pub surplus : Surplus N z (backward_area made (side s N) m y z)

-- in place
abbrev pub unlift_number : Side → Memory → ℕ
unlift_number S y = pick (has_line_in S y) 0 14

pub record LineUnlift (made : Side → Memory → Memory) (s N : ℕ) (y : Memory) : Type 0 where
  pub answer : Asks 14 (has_line_in (side s N) y ≡ true) Passes (unlift_number (side s N) y)
  pub line : Kept (unlift_number (side s N) y) y (pick (has_line_in (side s N) y) (made (side s N) y) y)

pub record LineCalls : Type 0 where
  pub forward : (s N m : ℕ) (y z : Memory) → LineForward five.forward_into s N m y z
  pub backward : (s N m : ℕ) (y z : Memory) → LineBackward five.backward_into s N m y z
  pub unlift : (s N : ℕ) (y : Memory) → LineUnlift five.unlifted_in_place s N y
  pub forward_9_7 : (s N m : ℕ) (y z : Memory) → LineForward nine.forward_into s N m y z
  pub backward_9_7 : (s N m : ℕ) (y z : Memory) → LineBackward nine.backward_into s N m y z
  pub unlift_9_7 : (s N : ℕ) (y : Memory) → LineUnlift nine.unlifted_in_place s N y

-- ---- the profile of a row; document 02, Q-13: "A row of another length gives 2, an output area shorter than the row 5."
pub record Profile (row : List ℕ) (out : List Float) (q : ℕ) : Type 0 where
  pub area : Kept q (floats out) (smoothed q row out)
  pub surplus : Surplus (length row) (floats out) (smoothed q row out)

pub record ProfileCalls : Type 0 where
  pub asks : (n m : ℕ) → Asks 2 (Width n) (Asks 5 (n ≤ m) Passes) (profile_question n m)
  pub smooth : (row : List ℕ) (out : List Float) (q : ℕ) → Profile row out q

-- ---- the fixed form's header, of W columns and H rows: o was in the area and o' is; the number of an answer
abbrev pub head_number : Put → ℕ
head_number (put.Written n) = 0
head_number (put.Refused q) = q

pub record Head (W H : ℕ) (o o' : List ℕ) (q : ℕ) : Type 0 where
  pub answer : Asks 2 (Width W) (Asks 3 (Height H) Passes) q
  pub area : Kept q o o'

-- of Rattle's answer, and of C's, a number and the bytes written
pub record PictureCalls : Type 0 where
  pub head : (W H from : ℕ) (o o' : List ℕ) (p : Put) → HeadPut W H from o o' p → Head W H o o' (head_number p)
  pub c_head : (W H from : ℕ) (o o' : List ℕ) (q n : ℕ) → HeadPut W H from o o' (answered q n) → Head W H o o' q
