-- Demand 1 of the saver's calls, Rattle's and C's, and of the call on a file's header (docs/FORMAT.md). sh is a shape, k a step, p the plane; o stood in the
-- output area, and o' stands there.
use Rattle.std.specs.Prelude.{◌≡◌, true, false, List, ◌⊎◌, ℕ, ◌*◌, ◌≤◌, ℤ, eqb, ltb, length, drop}
use Rattle.numbers.specs.Signal.{pick, both}
use Rattle.wavelet.specs.declared.shape.Shape.{Shape}
use Rattle.wavelet.specs.Asks.{Asks, Passes, ShapeAsks}
use Rattle.rounding.specs.Plain.{StepWithin}
use Rattle.ground_file.specs.declared.saver.Saver.{Saver}
use Rattle.ground_file.specs.Saving.{Saved}
use Rattle.ground_file.specs.Saving.{row_of, row_number, set_up_number, saver_fits, fresh, Saves}
use Rattle.ground_file.specs.Header.{shape_in, step_in, is_header, roundable, header_number, header_in}
use Rattle.states.specs.SaverState.{is_saver, saver_words}
use Rattle.terrain.specs.SaverCalls.{Saving}
use Rattle.demand_1.specs.Words.{Kept}

-- 22 of a set-up: not "a step above 1 with an origin or the 9/7"
abbrev pub PlainStep : Shape → ℕ → Type 0
PlainStep sh k = (k ≡ 1) ⊎ ((sh.x ≡ 0) × (sh.y ≡ 0) × (sh.filter ≡ 0))

-- "Set-up: 2, 3, 18, 4, 20, 22"
abbrev pub SaveSetUpAsks : Shape → ℕ → ℕ → Type 0
SaveSetUpAsks sh k = ShapeAsks sh.filter sh.width sh.height sh.levels (Asks 20 (StepWithin k) (Asks 22 (PlainStep sh k) Passes))

-- s is C's state array
pub record SetUp (sh : Shape) (k : ℕ) (s : List ℕ) : Type 0 where
  pub answer : SaveSetUpAsks sh k (set_up_number sh k)
  pub array : Kept (set_up_number sh k) s (pick (eqb (set_up_number sh k) 0) (saver_words (fresh sh k)) s)

-- "A saving call: 1, 5; then, before a row is begun, 7 of its numbers, 22 if one is no multiple of the step": the last two only where there is room for a byte
-- and the file is not over
pub record Save (s : Saver) (p : List ℤ) (o o' : List ℕ) (r : Saved) : Type 0 where
  pub answer : Asks 1 (saver_fits s ≡ true) (Asks 5 (s.shape.width * s.shape.height ≤ length p)
      (λ q. q ≡ pick (both (ltb 0 (length o)) (ltb s.phase 3)) (row_number s (row_of s p)) 0)) r.answer
  pub saver : Kept r.answer s r.saver
  pub area : Kept r.answer o o'
  pub nothing : Kept r.answer 0 r.written
  pub size : length o' ≡ length o
  pub room : r.written ≤ length o
  pub surplus : drop r.written o' ≡ drop r.written o
  -- no saver that a set-up and the calls after it leave is turned away by 1
  pub again : saver_fits s ≡ true → saver_fits r.saver ≡ true

-- C's: s, o and z stood in the array, the area and the count, s', o' and z' stand there; q is the answer
pub record CSave (s o : List ℕ) (z q : ℕ) (s' o' : List ℕ) (z' : ℕ) : Type 0 where
  pub other : is_saver s ≡ false → q ≡ 1
  pub array : Kept q s s'
  pub area : Kept q o o'
  pub count : Kept q z z'
  pub size : length o' ≡ length o
  pub room : q ≡ 0 → z' ≤ length o
  pub surplus : q ≡ 0 → drop z' o' ≡ drop z' o

-- the bytes b; z stood in the seven numbers
pub record Header (b z : List ℕ) : Type 0 where
  pub answer : Asks 5 (24 ≤ length b) (Asks 22 (is_header b ≡ true) (Asks 22 (roundable (shape_in b) (step_in b) ≡ true) (SaveSetUpAsks (shape_in b) (step_in b))))
      (header_number b)
  pub numbers : Kept (header_number b) z (pick (eqb (header_number b) 0) (header_in b) z)

-- for every argument, and whatever stands in array, plane and areas
pub record SaverCalls : Type 0 where
  pub set-up : (sh : Shape) (k : ℕ) (s : List ℕ) → SetUp sh k s
  pub save : (s : Saver) (p : List ℤ) (o o' : List ℕ) (r : Saved) → Saves s p o o' r → Save s p o o' r
  pub c_save : (p : List ℤ) (s o : List ℕ) (z q : ℕ) (s' o' : List ℕ) (z' : ℕ) → Saving p s o z q s' o' z' → CSave s o z q s' o' z'
  pub header : (b z : List ℕ) → Header b z
