-- The reader's steps in grid coordinates. Document 01, "The reader"; document 02, Q-3 and Q-8. Levels, sets and rows are those of WriterOrder.
use Rattle.std.specs.Prelude.{List, [], ◌∷◌, ◌++◌, ℕ, zero, suc, ◌+◌, ◌-◌, ◌*◌, ◌/◌, ◌%◌, ◌≤◌, max, pos, ◌+ℤ◌, ◌-ℤ◌, leb, eqb}
use Rattle.numbers.specs.Signal.{pick}
use Rattle.lifting.specs.Line.{lo}
use Rattle.wavelet.specs.Steps.{Step, draw, feed_all}
use Rattle.standard.specs.Line.{Interval, mirrored, half_of}
use Rattle.standard.specs.WriterOrder.{between, waiting}

-- ---- What a row needs on the way back, by the formulas' own reads: the coordinates of values, mirrored at the ends.
-- An even row goes by the value at its own coordinate and by the high values one off.
unfoldable pub even_reads : Interval → ℕ → List ℕ
even_reads H v = v ∷ mirrored H (pos v -ℤ pos 1) ∷ mirrored H (pos v +ℤ pos 1) ∷ []

-- An odd row goes by the value at its own coordinate and by even rows, so by what these go by: the 5/3's by those one off, the 9/7's by those three off too.
unfoldable pub offsets : ℕ → List ℕ
offsets zero = 1 ∷ []
offsets (suc f) = 1 ∷ 3 ∷ []

unfoldable pub odd_reads : List ℕ → Interval → ℕ → List ℕ
odd_reads [] H v = v ∷ []
odd_reads (k ∷ ks) H v = even_reads H (mirrored H (pos v -ℤ pos k)) ++ (even_reads H (mirrored H (pos v +ℤ pos k)) ++ odd_reads ks H v)

unfoldable pub row_reads : ℕ → Interval → ℕ → List ℕ
row_reads f H v = pick (eqb (v % 2) 0) (even_reads H v) (odd_reads (offsets f) H v)

-- ---- "In the reader a row counts as made, and is asked 14, with the set that brings the last value that it or any row above it needs."
-- Set n brings the values at 2n and 2n + 1. (For the 5/3: "A complete set makes rows 2n−1 and 2n", `five-three-makes`.)
unfoldable pub last_set : List ℕ → ℕ
last_set [] = 0
last_set (w ∷ ws) = max (w / 2) (last_set ws)

unfoldable pub made_with : ℕ → Interval → ℕ → ℕ
made_with f H v = last_set (between H.i0 (v + 1) (row_reads f H))

-- ---- "Made rows are used before another set is asked for.": row v asks for the sets after that which the row above it is made with, up to its own; the first
-- row from the level's first set on. `set n` is what set n asks for.
unfoldable pub first_asked : ℕ → Interval → ℕ → ℕ
first_asked f H v = pick (eqb v H.i0) (H.i0 / 2) (made_with f H (v - 1) + 1)

unfoldable pub row_steps : {A : Type 0} → ℕ → Interval → (ℕ → List A) → ℕ → List A
row_steps f H set v = between (first_asked f H v) (made_with f H v + 1) set

-- "Set n of level k needs its LL row (for k below L: the next row that level k+1 makes, which may ask for a set there first), then HL, LH, HH, skipping bands
-- without rows." LL's row n is row n of the next level's grid; a set of a high row alone has none.
unfoldable pub set_steps : ℕ → ℕ → ℕ → Interval → Interval → ℕ → List Step
set_steps f zero k W H n = feed_all (waiting zero k W H n)
set_steps f (suc l) k W H n =
    pick (leb H.i0 (2 * n)) (row_steps f (half_of lo H) (set_steps f l (suc k) (half_of lo W) (half_of lo H)) n) []
    ++ feed_all (waiting (suc l) k W H n)

-- all of them: for each height row what it needs, then it is drawn. Height rows are counted from 0.
unfoldable pub steps : ℕ → Interval → Interval → ℕ → List Step
steps f W H L = between H.i0 H.i1 (λ v. row_steps f H (set_steps f (L - 1) 1 W H) v ++ (draw (v - H.i0) ∷ []))

-- ---- n is the least set that brings all of some values
pub data Brought (n : ℕ) : List ℕ → Type 0 where
  none : Brought n []
  also : {w : ℕ} {ws : List ℕ} → w / 2 ≤ n → Brought n ws → Brought n (w ∷ ws)

pub record LeastSet (ws : List ℕ) (n : ℕ) : Type 0 where
  pub brings : Brought n ws
  pub least : (m : ℕ) → Brought m ws → n ≤ m
