-- The levels one after the other: what is still to be done of the plane stays the same (Standing). Assumes nothing.
use mathlib.Core.Path.{◌≡◌, refl, sym, ap, ◌∙◌}
use Prim.Native.Nat.{ℕ, zero, suc, ◌+◌, ◌-◌, ◌*◌, ◌/◌, ◌≤◌, ◌<◌}
use native.Mathlib.Omega.{arith}
use lib.IntN.{ℤ}
use Rattle.numbers.specs.Word.{wrap32}
use Rattle.lifting.specs.Line.{lo}
use Rattle.lifting.specs.Grid.{side, place, count}
use Rattle.lifting.specs.FiveThree.{five_three_filter}
use Rattle.wavelet.specs.Bands.{Grid, LL, band_of, subband}
use Rattle.wavelet.specs.Plane.{cells, flat}
use Rattle.wavelet.proofs.GridLaws.{cells-flat}
use Rattle.map_levels.specs.Passes.{Rows}
use Rattle.map_levels.specs.LevelPasses.{Doubling}
use Rattle.map_levels.proofs.CellLaws.{flat-same}
use Rattle.map_levels.proofs.LevelSteps.{doubled, rows_next, rows-corner}
use Rattle.strokes.specs.Reach.{Span, span, low_span}
use Rattle.strokes.specs.Local.{Lies, Placed, Agrees, changed_of, lowered_of, level_done, band_mended, highs_mended, grid_mended}
use Rattle.strokes.specs.declared.direction.Direction.{Direction}
use Rattle.strokes.proofs.LevelLaws.{window-at}
use Rattle.strokes.proofs.DirectionLaws.{lows-of, lies-next, placed-next, used_low}
use Rattle.strokes.proofs.MendTurn as mend
use Rattle.strokes.proofs.StepLaws.{then-band}

-- a plane z and a window x, its rows s apart, with k levels left: what they come to is the plane `goal`
pub record Standing (A : ℕ) (goal : ℕ → ℤ) (u v u' v' k s : ℕ) (c r : Direction) (x z : ℕ → ℤ) : Type 0 where
  pub grid : Grid
  pub columns : Lies u v k c
  pub rows : Lies u' v' k r
  pub agrees : Agrees u v u' v' c r grid (cells s x)
  pub is : goal ≡ flat A (grid_mended k c.length r.length (changed_of c) (changed_of r) grid (cells A z))

-- the high bands of a level, copied: x is the window before it
abbrev pub Copied : ℕ → ℕ → Direction → Direction → (ℕ → ℤ) → (ℕ → ℤ) → (ℕ → ℤ) → Type 0
Copied A s c r x z z₁ =
    (k u v u' v' : ℕ) (G : Grid) → Lies u v (suc k) c → Lies u' v' (suc k) r → Agrees u v u' v' c r G (cells s x) →
    z₁ ≡ flat A (highs_mended c.length r.length (changed_of c) (changed_of r) G (cells A z))

span-next : (d : Direction) → low_span (changed_of d) ≡ changed_of (lowered_of d)
unfolding low_span
span-next d = let e : (d.last + 2) / 2 ≡ d.last / 2 + 1 = omega arith in ap (span ((d.first - 1) / 2)) e

grid-same : (L W H : ℕ) (s t : Span) (G P Q : Grid) (r c : ℕ) → P r c ≡ Q r c → grid_mended L W H s t G P r c ≡ grid_mended L W H s t G Q r c
unfolding grid_mended
grid-same L W H s t G P Q r c e = rw e

-- the next level's grid is in the rows of even number, twice as far apart
module _ (u v u' v' k : ℕ) (c r : Direction) (Lc : Lies u v (suc k) c) (Lr : Lies u' v' (suc k) r) (G X : Grid) (same : Agrees u v u' v' c r G X) (s : ℕ)
    (wide : c.size ≤ s) (x : ℕ → ℤ) (is : x ≡ flat s (level_done c.size r X)) where
  pub agrees-next : Agrees u v u' v' (lowered_of c) (lowered_of r)
      (subband five_three_filter wrap32 (side 0 c.length) (side 0 r.length) G LL) (cells (2 * s) x)
  unfolding cells place count band_of
  agrees-next n m sn sm =
      let ln = sn.left in
      let rn = sn.right in
      let lm = sm.left in
      let rm = sm.right in
      let e : n * (2 * s) + m ≡ (2 * n + 0) * s + m = omega arith in
      let z : 2 * n + 0 ≡ 2 * n = omega arith in
      ap (λ (y : ℕ → ℤ). y (n * (2 * s) + m)) is ∙ ap (flat s (level_done c.size r X)) e
      ∙ window-at u v c.length c.start (c.start / 2) c.size Lc.cut u' v' r.length r.start (r.start / 2) r
      Lr.cut X G same s lo lo n m (rw z (used_low r n)) wide
      (omega arith) (omega arith) ln (omega arith) lm (omega arith)

module _ (A : ℕ) (goal : ℕ → ℤ) (u v u' v' k s : ℕ) (c r : Direction) (x x₁ z z₁ : ℕ → ℤ) (some : 0 < A) (wide : c.size ≤ s)
    (e : x₁ ≡ flat s (level_done c.size r (cells s x))) (f : Copied A s c r x z z₁) where
  -- one level more
  pub standing-next : Standing A goal u v u' v' (suc (suc k)) s c r x z → Standing A goal u v u' v' (suc k) (2 * s) (lowered_of c) (lowered_of r) x₁ z₁
  standing-next S =
      let W = c.length in
      let H = r.length in
      let low = subband five_three_filter wrap32 (side 0 W) (side 0 H) S.grid LL in
      let copied = f (suc k) u v u' v' S.grid S.columns S.rows S.agrees in
      let there : goal ≡ flat A (grid_mended (suc k) (count lo (side 0 W)) (count lo (side 0 H)) (low_span (changed_of c)) (low_span (changed_of r)) low
      (cells A z₁)) =
      S.is
      ∙ flat-same A _ _ some
      (λ i j b.
      mend.turn W H (changed_of c) (changed_of r) S.grid (cells A z) (suc k) i j
      ∙ grid-same (suc k) _ _ _ _ low _ _ i j
      (sym (ap (λ (y : ℕ → ℤ). cells A y i j) copied ∙ cells-flat A _ i j b))) in
      record {
        grid = low;
        columns = lies-next u v k c S.columns;
        rows = lies-next u' v' k r S.rows;
        agrees = agrees-next u v u' v' (suc k) c r S.columns S.rows S.grid (cells s x) S.agrees s wide x₁ e;
        is = rw (lows-of W, lows-of H, sym (span-next c), sym (span-next r)) there;
      }

  -- the last level: its low-low part is copied too
  pub standing-last : (z₂ : ℕ → ℤ) → Standing A goal u v u' v' 1 s c r x z →
      ((G : Grid) → Agrees u v u' v' c r G (cells s x) → Lies u v 1 c → Lies u' v' 1 r →
      z₂ ≡ flat A (band_mended lo lo c.length r.length (changed_of c) (changed_of r) (subband five_three_filter wrap32 (side 0 c.length) (side 0
      r.length) G (band_of lo lo))
      (cells A z₁))) → z₂ ≡ goal
  unfolding band_of
  standing-last z₂ S g =
      then-band A lo lo c.length r.length (changed_of c) (changed_of r) _ _ z₁ z₂ some (f 0 u v u' v' S.grid S.columns S.rows S.agrees)
      (g S.grid S.agrees S.columns S.rows)
      ∙ sym (S.is ∙ flat-same A _ _ some (λ i j b. mend.last c.length r.length (changed_of c) (changed_of r) S.grid (cells A z) i j))

-- ---- what the next level asks of the areas
module _ (n m A s : ℕ) (c r : Direction) (R : Rows n s c.size r.size) (T : Rows m A c.length r.length) where
  pub rows-lowered : Rows n (2 * s) (lowered_of c).size (lowered_of r).size
  unfolding count
  rows-lowered =
      let b = R.some in
      rows_next n n s (side 0 c.size) (side 0 r.size) _ _ (lows-of c.size) (lows-of r.size) (omega arith) R (omega arith)

  pub plane-lowered : Rows m A (lowered_of c).length (lowered_of r).length
  unfolding count
  plane-lowered =
      let b = T.some in
      rows-corner m m A (side 0 c.length) (side 0 r.length) _ _ (lows-of c.length) (lows-of r.length) (omega arith) T refl

pub doubling-lowered : (k s : ℕ) (c : Direction) → Doubling (suc (suc k)) s c.size → Doubling (suc k) (2 * s) (lowered_of c).size
doubling-lowered k s c D =
    let e : suc (suc k) - 1 ≡ suc k = omega arith in
    rw e at (doubled (suc (suc k)) s (side 0 c.size) (lowered_of c).size D (omega arith) (lows-of c.size))

-- ---- a turn of the loop over the levels
pub levels-turn : (A n m s left : ℕ) (c c' r r' : Direction) → 1 < left → c' ≡ lowered_of c → r' ≡ lowered_of r → Placed left c → Placed left r →
    Doubling left s c.size →
    Rows n s c.size r.size → Rows m A c.length r.length →
    (1 ≤ left - 1) × Placed (left - 1) c' × Placed (left - 1) r' × Doubling (left - 1) (2 * s) c'.size × Rows n (2 * s) c'.size
    r'.size × Rows m A c'.length r'.length
levels-turn A n m s zero c c' r r' b ec er Pc Pr D R T = absurd (omega arith)
levels-turn A n m s (suc zero) c c' r r' b ec er Pc Pr D R T = absurd (omega arith)
levels-turn A n m s (suc (suc k)) c c' r r' b ec er Pc Pr D R T =
    let e : suc (suc k) - 1 ≡ suc k = omega arith in
    rw (e, ec, er) (omega arith, placed-next k c Pc, placed-next k r Pr, doubling-lowered k s c D, rows-lowered n m A s c r R T, plane-lowered n m A s c r R T)

pub narrower : (c c' : Direction) {n : ℕ} → c' ≡ lowered_of c → c.length ≤ n → c'.length ≤ n
narrower c c' e b = rw e (omega arith)

pub standing-turn : (A : ℕ) (goal : ℕ → ℤ) (u v u' v' left s : ℕ) (c c' r r' : Direction) (x x₁ z z₁ : ℕ → ℤ) → 1 < left → c' ≡ lowered_of c →
    r' ≡ lowered_of r → 0 < A →
    c.size ≤ s → x₁ ≡ flat s (level_done c.size r (cells s x)) → Copied A s c r x z z₁ → Standing A goal u v u' v' left s c r x z →
    Standing A goal u v u' v' (left - 1) (2 * s) c' r' x₁ z₁
standing-turn A goal u v u' v' zero s c c' r r' x x₁ z z₁ b ec er some wide e f S = absurd (omega arith)
standing-turn A goal u v u' v' (suc zero) s c c' r r' x x₁ z z₁ b ec er some wide e f S = absurd (omega arith)
standing-turn A goal u v u' v' (suc (suc k)) s c c' r r' x x₁ z z₁ b ec er some wide e f S =
    let d : suc (suc k) - 1 ≡ suc k = omega arith in
    rw (d, ec, er) (standing-next A goal u v u' v' k s c r x x₁ z z₁ some wide e f S)
