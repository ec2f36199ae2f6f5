-- What is out of reach of a rectangle does not depend on the heights in it: the plane of two maps that differ there alone is the same out of its reach.
--     changed-no       a place near a value that is not reached is not changed, in one direction
--     band-unreached   one level: a value of a band that is not reached in one of the two directions
--     unreached        all levels, in the shape of `plane_cell`
-- Assumes nothing.
use mathlib.Core.Path.{◌≡◌, refl, ap}
use mathlib.Core.Bool.{Bool, true, false}
use Prim.Native.Nat.{ℕ, zero, suc, ◌+◌, ◌-◌, ◌*◌, ◌/◌, ◌≤◌, ◌<◌}
use native.Mathlib.Decide.{dec_lt}
use native.Mathlib.Omega.{arith}
use lib.IntN.{ℤ}
use borrow.Author.Tests.{ltb-true, le-leb, lt-leb}
use Rattle.numbers.proofs.Sweep.{both as both_yes}
use Rattle.numbers.specs.Signal.{pick, both}
use Rattle.lifting.specs.Line.{Half, lo, hi}
use Rattle.lifting.specs.Grid.{Side, side, place, count}
use Rattle.lifting.specs.FiveThree.{five_three_filter}
use Rattle.lifting.proofs.Reach.{reach, forward-reach}
use Rattle.wavelet.specs.Bands.{Grid, Band, LL, across, down, band_of, columns_lifted, subband}
use Rattle.wavelet.specs.Levels.{next}
use Rattle.wavelet.specs.Plane.{half_at, place_in, in_corner, plane_cell}
use Rattle.wavelet.proofs.LevelTheory.{across-of, down-of}
use Rattle.map_levels.proofs.CellLaws.{half_in}
use Rattle.strokes.specs.Reach.{Span, changed, reached, low_span, in_reach}

-- ---- tests
pub clash : {A : Type 0} (b : Bool) → b ≡ true → b ≡ false → A
clash b p q = let z : ◌≡◌ {A = ℕ} 0 1 = cc in absurd (omega arith)

-- a choice is z where each of its cases is
pub pick_is : {A : Type 0} (b : Bool) {x y z : A} → (b ≡ true → x ≡ z) → (b ≡ false → y ≡ z) → pick b x y ≡ z
pick_is true f g = f refl
pick_is false f g = g refl

-- both tests fail together only if one of them does
pub one-no : {A : Type 0} (a b : Bool) → both a b ≡ false → (a ≡ false → A) → (b ≡ false → A) → A
one-no true b e f g = g e
one-no false b e f g = f refl

-- ---- one direction
module _ (s : Span) where
  pub changed-before : (i : ℕ) → i < s.first → changed s i ≡ false
  unfolding changed
  changed-before i a = simp (lt-leb s.first i a)

  pub changed-after : (i : ℕ) → s.last < i → changed s i ≡ false
  unfolding changed
  changed-after i a =
      elim (dec_lt i s.first) [
        | yes p ↦ changed-before i p
        | no p ↦ simp (le-leb s.first i (omega arith), lt-leb i s.last a)
      ]

  pub reached-in : (N : ℕ) (h : Half) (n i : ℕ) → s.first ≤ i → i ≤ s.last → place (side 0 N) h n ≤ i + reach h → i ≤ place (side 0 N) h n + reach h →
      reached s h n ≡ true
  unfolding reached place
  reached-in N lo n i a b l r = simp (le-leb (2 * n) (s.last + 2) (omega arith), le-leb s.first (2 * n + 2) (omega arith))
  reached-in N hi n i a b l r = simp (le-leb (2 * n) s.last (omega arith), le-leb s.first (2 * n + 2) (omega arith))

  -- the places that a value reads which is not reached are not changed
  pub changed-no : (N : ℕ) (h : Half) (n i : ℕ) → reached s h n ≡ false → place (side 0 N) h n ≤ i + reach h → i ≤ place (side 0 N) h n + reach h →
      changed s i ≡ false
  changed-no N h n i un l r =
      elim (dec_lt i s.first) [
        | yes p ↦ changed-before i p
        | no p ↦
            elim (dec_lt s.last i) [
              | yes q ↦ changed-after i q
              | no q ↦ clash (reached s h n) (reached-in N h n i (omega arith) (omega arith) l r) un
            ]
      ]

  -- the changed places of the next level are the low values reached
  pub low-span : (n : ℕ) → changed (low_span s) n ≡ reached s lo n
  unfolding changed reached low_span
  low-span n =
      elim (dec_lt n ((s.first - 1) / 2)) [
        | yes p ↦
            elim (dec_lt (s.last + 2) (2 * n)) [
              | yes q ↦ simp (lt-leb ((s.first - 1) / 2) n p, lt-leb (2 * n) (s.last + 2) q)
              | no q ↦ simp (lt-leb ((s.first - 1) / 2) n p, le-leb (2 * n) (s.last + 2) (omega arith), lt-leb s.first (2 * n + 2) (omega arith))
            ]
        | no p ↦
            elim (dec_lt (s.last + 2) (2 * n)) [
              | yes q ↦ simp (le-leb ((s.first - 1) / 2) n (omega arith), lt-leb n ((s.last + 2) / 2) (omega arith), lt-leb (2 * n) (s.last + 2) q)
              | no q ↦ simp (
                le-leb ((s.first - 1) / 2) n (omega arith),
                le-leb n ((s.last + 2) / 2) (omega arith),
                le-leb (2 * n) (s.last + 2) (omega arith),
                le-leb s.first (2 * n + 2) (omega arith),
              )
            ]
      ]

pub corner-in : (W H : Side) (r c : ℕ) → in_corner W H r c ≡ true → (r < count lo H) × (c < count lo W)
unfolding in_corner
corner-in W H r c e = let k = both_yes _ _ e in (ltb-true r (count lo H) k.0, ltb-true c (count lo W) k.1)

-- ---- one level
-- two grids of W columns and H rows that are the same where not both the column and the row are changed
abbrev pub SameOutside : ℕ → ℕ → Span → Span → Grid → Grid → Type 0
SameOutside W H s t g g' = (r c : ℕ) → r < H → c < W → both (changed s c) (changed t r) ≡ false → g r c ≡ g' r c

both-no : (a b : Bool) → b ≡ false → both a b ≡ false
both-no true b e = e
both-no false b e = refl

module _ (keep : ℤ → ℤ) (W H : ℕ) (s t : Span) (g g' : Grid) (e : SameOutside W H s t g g') where
  pub band-unreached : (b : Band) (r c : ℕ) → r < count (down b) (side 0 H) → c < count (across b) (side 0 W) →
      both (reached s (across b) c) (reached t (down b) r) ≡ false →
      subband five_three_filter keep (side 0 W) (side 0 H) g b r c ≡ subband five_three_filter keep (side 0 W) (side 0 H) g' b r c
  unfolding subband columns_lifted place
  band-unreached b r c p q un =
      forward-reach keep (side 0 W) _ _ (across b) c q
      (λ j jw l l'.
      forward-reach keep (side 0 H) _ _ (down b) r p
      (λ i ih k k'.
      e i j ih jw
      (one-no (reached s (across b) c) (reached t (down b) r) un
      (λ n. ap (λ (v : Bool). both v (changed t i)) (changed-no s W (across b) c j n l l'))
      (λ n. both-no (changed s j) (changed t i) (changed-no t H (down b) r i n k k')))))

  half-unreached : (a h : Half) (r c : ℕ) → r < count h (side 0 H) → c < count a (side 0 W) → both (reached s a c) (reached t h r) ≡ false →
      subband five_three_filter keep (side 0 W) (side 0 H) g (band_of a h) r c ≡ subband five_three_filter keep (side 0 W) (side 0 H) g' (band_of a h) r c
  half-unreached a h r c p q un =
      band-unreached (band_of a h) r c (rw (down-of a h) p) (rw (across-of a h) q) (rw (across-of a h, down-of a h) un)

  -- the low-low part, the changed places of the next level being the low reach
  low-unreached : SameOutside (count lo (side 0 W)) (count lo (side 0 H)) (low_span s) (low_span t) (subband five_three_filter keep (side 0 W) (side 0 H) g LL)
      (subband five_three_filter keep (side 0 W) (side 0 H) g' LL)
  unfolding across down
  low-unreached r c p q un = band-unreached LL r c p q (rw (low-span s c, low-span t r) at un)

-- ---- all levels
module _ (keep : ℤ → ℤ) (L W H : ℕ) (s t : Span) (g g' : Grid) (e : SameOutside W H s t g g') where
  abbrev low : Grid → Grid
  low x = subband five_three_filter keep (side 0 W) (side 0 H) x LL

  abbrev inner : Grid → Grid
  inner x = plane_cell five_three_filter keep L (next (side 0 W)) (next (side 0 H)) (low x)

  abbrev outer : Grid → Grid
  outer x r c =
      subband five_three_filter keep (side 0 W) (side 0 H) x (band_of (half_at (side 0 W) c) (half_at (side 0 H) r)) (place_in (side 0 H) r) (place_in (side 0 W) c)

  -- a place in the corner, and another
  by-corner : (r c : ℕ) → r < H → c < W →
      (r < count lo (side 0 H) → c < count lo (side 0 W) → in_reach L (next (side 0 W)) (next (side 0 H)) (low_span s) (low_span t) r c ≡ false →
      inner g r c ≡ inner g' r c) →
      (b : Bool) → in_corner (side 0 W) (side 0 H) r c ≡ b →
      pick b (in_reach L (next (side 0 W)) (next (side 0 H)) (low_span s) (low_span t) r c)
      (both (reached s (half_at (side 0 W) c) (place_in (side 0 W) c)) (reached t (half_at (side 0 H) r) (place_in (side 0 H) r))) ≡ false →
      pick b (inner g r c) (outer g r c) ≡ pick b (inner g' r c) (outer g' r c)
  by-corner r c p q deep true is un = let k = corner-in (side 0 W) (side 0 H) r c is in deep k.0 k.1 un
  by-corner r c p q deep false is un =
      half-unreached keep W H s t g g' e (half_at (side 0 W) c) (half_at (side 0 H) r) (place_in (side 0 H) r) (place_in (side 0 W) c) (half_in (side 0 H) r p)
      (half_in (side 0 W) c q) un

pub unreached : (keep : ℤ → ℤ) (L W H : ℕ) (s t : Span) (g g' : Grid) → SameOutside W H s t g g' → (r c : ℕ) → r < H → c < W →
    in_reach L (side 0 W) (side 0 H) s t r c ≡ false →
    plane_cell five_three_filter keep L (side 0 W) (side 0 H) g r c ≡ plane_cell five_three_filter keep L (side 0 W) (side 0 H) g' r c
unfolding in_reach plane_cell next
unreached keep zero W H s t g g' e r c p q un = e r c p q un
unreached keep (suc L) W H s t g g' e r c p q un =
    by-corner keep L W H s t g g' e r c p q
    (λ k m. unreached keep L (count lo (side 0 W)) (count lo (side 0 H)) (low_span s) (low_span t) _ _ (low-unreached keep W H s t g g' e) r c k m)
    (in_corner (side 0 W) (side 0 H) r c) refl un
