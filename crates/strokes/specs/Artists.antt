-- Artists on one plane: strokes that set heights in rectangles, the plane mended after each with the heights as they stand then. Document 02, Q-14.
use Rattle.std.specs.Prelude.{◌≡◌, Bool, true, false, List, [], ◌∷◌, ℕ}
use Rattle.numbers.specs.Signal.{pick, both}
use Rattle.wavelet.specs.Bands.{Grid}
use Rattle.strokes.specs.Reach.{changed}
use Rattle.strokes.specs.Strokes.{column_span, row_span, mended_cell}
use Rattle.strokes.specs.declared.rectangle.Rectangle.{Rectangle}

-- is the height at row r and column c in the rectangle?
unfoldable pub in_rectangle : Rectangle → ℕ → ℕ → Bool
in_rectangle q r c = both (changed (column_span q) c) (changed (row_span q) r)

-- "rectangles that share no height"
pub record Apart (p q : Rectangle) : Type 0 where
  pub none : (r c : ℕ) → in_rectangle p r c ≡ true → in_rectangle q r c ≡ false

-- "each stroke setting the same new heights whichever comes first"
pub record Stroke : Type 0 where
  pub rectangle : Rectangle
  pub heights : Grid

unfoldable pub painted : Stroke → Grid → Grid
painted s g r c = pick (in_rectangle s.rectangle r c) (s.heights r c) (g r c)

-- "the tool mends after each stroke with the heights as they stand then": the plane P of the heights g after two strokes, s first
unfoldable pub after_two : ℕ → ℕ → ℕ → Stroke → Stroke → Grid → Grid → Grid
after_two L W H s t g P =
    mended_cell L W H t.rectangle (painted t (painted s g)) (mended_cell L W H s.rectangle (painted s g) P)

-- heights and plane after a list of strokes, one after the other
unfoldable pub heights_after : List Stroke → Grid → Grid
heights_after [] g = g
heights_after (s ∷ l) g = heights_after l (painted s g)

unfoldable pub plane_after : ℕ → ℕ → ℕ → List Stroke → Grid → Grid → Grid
plane_after L W H [] g P = P
plane_after L W H (s ∷ l) g P = plane_after L W H l (painted s g) (mended_cell L W H s.rectangle (painted s g) P)
