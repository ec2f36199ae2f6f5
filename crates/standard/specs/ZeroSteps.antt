-- The reader's steps for a map at origin 0: each band row to feed and each height row to draw, in their order. Document 01, "The reader".
-- A level k, from 1, splits w columns and h rows; l levels lie below it.
use Rattle.std.specs.Prelude.{Bool, true, List, [], ◌∷◌, ◌++◌, ℕ, zero, suc, ◌+◌, ◌-◌, ◌/◌, ◌%◌, ltb, eqb}
use Rattle.numbers.specs.Signal.{pick, both}
use Rattle.lifting.specs.Line.{lo, count}
use Rattle.wavelet.specs.Order.{in_turn}
use Rattle.wavelet.specs.Steps.{Step, draw, feed_all}
use Rattle.standard.specs.ZeroOrder.{set_rows}

-- "A complete set makes rows 2n−1 and 2n; set 0 makes row 0 only; the last set of an even height also makes the last row." "Made rows are used before another
-- set is asked for."
-- So of h rows row r needs a new set if it is row 0, or odd and not the last.
unfoldable pub opens_set : ℕ → ℕ → Bool
opens_set h r = pick (eqb r 0) true (both (eqb (r % 2) 1) (ltb (r + 1) h))

-- what row r needs, `set n` being the steps of set n: those of set (r + 1) / 2, or nothing
unfoldable pub row_steps : ℕ → (ℕ → List Step) → ℕ → List Step
row_steps h set r = pick (opens_set h r) (set ((r + 1) / 2)) []

-- "Set n of level k needs its LL row (for k below L: the next row that level k+1 makes, which may ask for a set there first), then HL, LH, HH, skipping bands
-- without rows."
-- `set_rows` has these rows: LL at the last level only.
unfoldable pub set_steps : ℕ → ℕ → ℕ → ℕ → ℕ → List Step
set_steps zero k w h n = feed_all (set_rows zero k w h n)
set_steps (suc l) k w h n =
    row_steps (count lo h) (set_steps l (suc k) (count lo w) (count lo h)) n ++ feed_all (set_rows (suc l) k w h n)

-- all of them: for each height row what it needs, then it is drawn
unfoldable pub steps : ℕ → ℕ → ℕ → List Step
steps W H L = in_turn H (λ r. row_steps H (set_steps (L - 1) 1 W H) r ++ (draw r ∷ []))
