-- How far apart two grids by the 5/3 are on the way back, the first limited as it is made, the second in its range: one level, and then all levels of a plane.
--     level-apart       bands that are off by f (LL) and e (the others) give a grid that is off by a level's error
--     map-apart         planes that are off by e in HL, LH and HH, and not in LL, give grids that are off by that from level to level
-- Assumes nothing.
use mathlib.Core.Path.{◌≡◌, refl, sym, ap, ◌∙◌}
use mathlib.Core.Bool.{true}
use Prim.Native.Nat.{ℕ, zero, suc, ◌+◌, ◌*◌, ◌≤◌, ◌<◌}
use native.Mathlib.Omega.{arith}
use lib.IntN.{ℤ, nat_abs, ◌-ℤ◌}
use Rattle.numbers.specs.Word.{whole}
use Rattle.lifting.specs.Line.{Half, lo, hi}
use Rattle.lifting.specs.Grid.{Side, place, count, joined, line_halves_back}
use Rattle.lifting.specs.Filter.{Filter}
use Rattle.lifting.specs.FiveThree.{five_three_filter}
use Rattle.lifting.proofs.GridLaws.{joined-place, place-in}
use Rattle.wavelet.specs.Bands.{subband, Grid, Band, LL, HL, LH, HH, across, down, band_of, rows_unlifted, level_back}
use Rattle.wavelet.specs.Maps.{value_fits}
use Rattle.wavelet.specs.Plane.{plane_bands, plane_cell}
use Rattle.wavelet.specs.Levels.{next}
use Rattle.wavelet.proofs.LevelTheory.{OnCells, Same, band_in, over, placed, plane-at, plane-corner, same-corner, same-in-bands, low-all, across-of}
use Rattle.wavelet.proofs.LevelTheory.{down-of, whole-back-forward}
use Rattle.wavelet.proofs.MapTheorems.{low-fits, fits-within}
use Rattle.wavelet.proofs.Bridge.{Within, range-suc, subband-range}
use Rattle.wavelet.specs.Limits.{range}
use Rattle.lifting.proofs.FiveThreeFilter.{five-three-laws}
use Rattle.numbers.proofs.Integers.{each, lin}
use Rattle.tolerance.specs.Limits.{limited}
use Rattle.tolerance.specs.Back.{level_back_limited, map_back_limited}
use Rattle.tolerance.specs.Figure.{even_error, odd_error, level_error, error_after}
use Rattle.tolerance.proofs.LimitLaws.{limited-apart}
use Rattle.tolerance.proofs.LineApart.{Apart, line-apart}

-- by how much a band is off: f is that of LL
unfoldable pub band_off : ℕ → ℕ → Band → ℕ
band_off e f LL = f
band_off e f HL = e
band_off e f LH = e
band_off e f HH = e

-- by how much a value of a row lifted back is off: of the low rows, and of the high ones
unfoldable pub row_off : ℕ → ℕ → Half → ℕ
row_off e f lo = even_error e f
row_off e f hi = odd_error e

abbrev F : Filter
F = five_three_filter

module _ (W H : Side) (p' p : Band → Grid) (e f : ℕ)
    (off : (b : Band) (r c : ℕ) → r < count (down b) H → c < count (across b) W → Apart (band_off e f b) (p' b r c) (p b r c)) where
  -- the bands of a half of the rows
  half-off : (a h : Half) (r c : ℕ) → r < count h H → c < count a W → Apart (band_off e f (band_of a h)) (p' (band_of a h) r c) (p (band_of a h) r c)
  half-off a h r c u v = off (band_of a h) r c (rw (down-of a h) u) (rw (across-of a h) v)

  rows_apart : (h : Half) (r c : ℕ) → r < count h H → c < W.length → Apart (row_off e f h) (rows_unlifted F whole W p' h r c) (rows_unlifted F whole W p h r c)
  unfolding rows_unlifted row_off band_off band_of even_error odd_error
  rows_apart lo r c u v =
      line-apart W whole (λ a. p' (band_of a lo) r) (λ a. p (band_of a lo) r) f e
      (λ n b. half-off lo lo r n u b) (λ n b. half-off hi lo r n u b) (λ a n b w d g. g) c v
  rows_apart hi r c u v =
      let near = line-apart W whole (λ a. p' (band_of a hi) r) (λ a. p (band_of a hi) r) e e
      (λ n b. half-off lo hi r n u b) (λ n b. half-off hi hi r n u b) (λ a n b w d g. g) c v in
      omega arith

  module _ (k : ℕ) (fits : OnCells (λ v. value_fits F k v ≡ true) W H (level_back F whole W H p)) where
    pub level-apart : (r c : ℕ) → r < H.length → c < W.length → Apart (level_error e f) (level_back_limited F whole k W H p' r c) (level_back F whole W H p r c)
    unfolding level_back_limited level_back level_error row_off
    level-apart r c u v =
        limited-apart F k _ (level_back F whole W H p r c) (level_error e f) (fits r c u v)
        (line-apart H (λ z. limited F k z) (λ h i. rows_unlifted F whole W p' h i c) (λ h i. rows_unlifted F whole W p h i c) (row_off e f lo) (row_off e f hi)
        (λ n b. rows_apart lo n c b v) (λ n b. rows_apart hi n c b v)
        (λ h n b w d g.
        let is = joined-place H (line_halves_back whole H (λ h i. rows_unlifted F whole W p h i c)) h n in
        let fit : value_fits F k (line_halves_back whole H (λ h i. rows_unlifted F whole W p h i c) h n) ≡ true =
        ap (value_fits F k) (sym is) ∙ fits (place H h n) c (place-in H h n b) v in
        limited-apart F k w _ d fit g)
        r u)

-- ---- all levels
-- the plane x' is off from x by at most e in HL, LH and HH of all L levels, and not in LL
pub data PlaneOff (e : ℕ) : ℕ → Side → Side → Grid → Grid → Type 0 where
  none : {W H : Side} {x' x : Grid} → Same W H x' x → PlaneOff e 0 W H x' x
  more : {L : ℕ} {W H : Side} {x' x : Grid} → PlaneOff e L (next W) (next H) x' x
      → ((b : Band) (r c : ℕ) → (b ≡ LL → ⊥) → r < count (down b) H → c < count (across b) W → Apart e (band_in W H x' b r c) (band_in W H x b r c))
      → PlaneOff e (suc L) W H x' x

same-apart : (x y : ℤ) → x ≡ y → Apart 0 x y
same-apart = each _ λ p q. each _ λ r s. simp lin (omega arith)

-- the bands that are lifted back, the low-low one being off by f
bands-off : (e f : ℕ) (W H : Side) (a x' : Grid) (p : Band → Grid) →
    ((r c : ℕ) → r < (next H).length → c < (next W).length → Apart f (a r c) (p LL r c)) →
    ((b : Band) (r c : ℕ) → (b ≡ LL → ⊥) → r < count (down b) H → c < count (across b) W → Apart e (band_in W H x' b r c) (p b r c)) →
    (b : Band) (r c : ℕ) → r < count (down b) H → c < count (across b) W → Apart (band_off e f b) (plane_bands W H a x' b r c) (p b r c)
unfolding plane_bands band_in placed across down band_off next
bands-off e f W H a x' p low beside LL r c u v = low r c u v
bands-off e f W H a x' p low beside HL r c u v = beside HL r c (λ q. let z : ◌≡◌ {A = ℕ} 0 1 = cc in omega arith) u v
bands-off e f W H a x' p low beside LH r c u v = beside LH r c (λ q. let z : ◌≡◌ {A = ℕ} 0 1 = cc in omega arith) u v
bands-off e f W H a x' p low beside HH r c u v = beside HH r c (λ q. let z : ◌≡◌ {A = ℕ} 0 1 = cc in omega arith) u v

-- a band beside the low-low one is the level's own
over-beside : (g : Grid) (p : Band → Grid) (b : Band) → (b ≡ LL → ⊥) → over g p b ≡ p b
unfolding over
over-beside g p LL n = absurd (n refl)
over-beside g p HL n = refl
over-beside g p LH n = refl
over-beside g p HH n = refl

plane-none : (W H : Side) (G : Grid) (r c : ℕ) → plane_cell F whole 0 W H G r c ≡ G r c
unfolding plane_cell
plane-none W H G r c = refl

-- it is told by the places of the plane alone
pub off-reads : {e L : ℕ} {W H : Side} {y x' x : Grid} → Same W H y x' → PlaneOff e L W H x' x → PlaneOff e L W H y x
off-reads s (none t) = none (λ r c u v. s r c u v ∙ t r c u v)
off-reads {W = W} {H = H} {y = y} {x' = x'} s (more off beside) =
    more (off-reads (same-corner W H y x' s) off) (λ b r c n u v. rw (same-in-bands W H y x' s b r c u v) (beside b r c n u v))

module _ (e : ℕ) where
  pub map-apart : (k L : ℕ) (W H : Side) (G x' x : Grid) → OnCells (λ v. value_fits F k v ≡ true) W H G → Same W H x (plane_cell F whole L W H G) →
      PlaneOff e L W H x' x → (r c : ℕ) → r < H.length → c < W.length → Apart (error_after e L) (map_back_limited F whole k L W H x' r c) (G r c)
  unfolding map_back_limited error_after
  map-apart k zero W H G x' x fits same (none s) r c u v = same-apart _ _ (s r c u v ∙ same r c u v ∙ plane-none W H G r c)
  map-apart k (suc L) W H G x' x fits same (more off beside) r c u v =
      let p = subband F whole W H G in
      let back : Same W H (level_back F whole W H p) G = whole-back-forward F five-three-laws W H G in
      let inside : OnCells (Within (range F k)) W H G = λ r c u v. fits-within F five-three-laws k (G r c) (fits r c u v) in
      let low : OnCells (λ v. value_fits F (suc k) v ≡ true) (next W) (next H) (p LL) =
      λ r c u v. (low-fits F k (p LL r c)).1
      (rw (range-suc F five-three-laws k) (low-all (Within (4 * range F k)) W H p (subband-range F five-three-laws (range F k) W H G inside) r c u v)) in
      let first = map-apart (suc k) L (next W) (next H) (p LL) x' x low
      (λ r c u v. same-corner W H x (plane_cell F whole (suc L) W H G) same r c u v ∙ plane-corner F whole L W H G r c u v) off in
      let is : (b : Band) (r c : ℕ) → (b ≡ LL → ⊥) → r < count (down b) H → c < count (across b) W → band_in W H x b r c ≡ p b r c =
      λ b r c n u v. same-in-bands W H x (plane_cell F whole (suc L) W H G) same b r c u v ∙ plane-at F whole L W H G b r c u v
      ∙ ap (λ (g : Grid). g r c) (over-beside _ p b n) in
      let near = level-apart W H (plane_bands W H (map_back_limited F whole (suc k) L (next W) (next H) x') x') p e (error_after e L)
      (bands-off e (error_after e L) W H (map_back_limited F whole (suc k) L (next W) (next H) x') x' p first
      (λ b r c n u v. rw (← is b r c n u v) (beside b r c n u v)))
      k (λ r c u v. rw (back r c u v) (fits r c u v)) r c u v in
      rw (back r c u v) at near
