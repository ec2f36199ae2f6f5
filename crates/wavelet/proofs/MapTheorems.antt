-- Maps on the grid and the planes they have, over the definitions of specs/Maps, for every origin, every filter that meets its laws (FilterLaws of `lifting`)
-- and up to as many levels as it has. Demand 2's theorems rest on these, and so they hold for both filters, the 5/3 and the 9/7.
--     plane-in-range, plane-rebuilt, plane-back    of a plane that a map has: questions 7 and 14 are answered yes, and the way back gives the map
--     rebuilt-plane                                a plane that is answered so is the plane of the map that the way back gives
--     some_map, no_map, one_map                    so both are answered yes exactly where some map has the plane, and that map is one
--     back-exactly                                 and the way back then gives it
-- Proved by the inverse over words (LevelTheory) and the bridge to whole numbers (Bridge). Assumes nothing.
use mathlib.Core.Path.{◌≡◌, refl, sym, ap, ◌∙◌, subst}
use mathlib.Core.Bool.{Bool, true, false}
use mathlib.Core.Logic.{◌↔◌}
use Prim.Native.Nat.{ℕ, zero, suc, ◌+◌, ◌*◌, ◌^◌, ◌≤◌, ◌<◌}
use native.Mathlib.Omega.{arith}
use lib.IntN.{ℤ, pos, nat_abs}
use lib.Signed.{◌≤ℤ◌, le_z}
use lib.Dec.{T, leb}
use mir.Syntax.{w32}
use mir.Val.{SFits}
use borrow.Author.Tests.{leb-true, le-leb}
use Rattle.numbers.specs.Signal.{pick}
use Rattle.numbers.specs.Word.{wrap32, whole}
use Rattle.numbers.proofs.Words.{abs-fits}
use Rattle.numbers.proofs.Sweep.{both}
pub use Rattle.numbers.proofs.TestLaws.{every-each, each-every, every-same}
use Rattle.lifting.specs.Grid.{Side}
use Rattle.lifting.specs.Filter.{Filter}
use Rattle.lifting.proofs.FilterLaws.{words, FilterLaws}
use Rattle.wavelet.specs.Limits.{max_sample, range}
use Rattle.wavelet.specs.Bands.{Grid, LL, subband, level_has}
use Rattle.wavelet.specs.Maps.{IsMap, every, every_cell, value_fits, HasPlane, in-range, rebuilt_fits}
use Rattle.wavelet.specs.Levels.{next}
use Rattle.wavelet.specs.Plane.{in_corner, plane_cell, level_at, plane_bands, map_back}
use Rattle.wavelet.proofs.LevelTheory.{OnCells, Same, SameBands, AllHave, none, more, bands_back, plane-bands, same-corner, same-in-bands, over-same}
use Rattle.wavelet.proofs.LevelTheory.{plane-corner, plane-reads, map-back-reads, level-has, level-has-reads, subband-has, bands-plane}
use Rattle.wavelet.proofs.LevelTheory.{words-map-back-plane, words-plane-map-back}
use Rattle.wavelet.proofs.Bridge.{Within, grown-none, grown-first, range-zero, range-suc, range_small, word_cells}
use Rattle.wavelet.proofs.Bridge.{word-doubles, word-all-double, low-within, map-height}
use Rattle.wavelet.proofs.Bridge.{map-fits, map-plane, map-plane-range, map-all-double}

-- ---- a test of every cell
pub cells-each : (W H : ℕ) (p : ℕ → ℕ → Bool) → every_cell W H p ≡ true → (r c : ℕ) → r < H → c < W → p r c ≡ true
unfolding every_cell
cells-each W H p e r c u v = every-each W (p r) (every-each H (λ i. every W (p i)) e r u) c v

pub each-cells : (W H : ℕ) (p : ℕ → ℕ → Bool) → ((r c : ℕ) → r < H → c < W → p r c ≡ true) → every_cell W H p ≡ true
unfolding every_cell
each-cells W H p f = each-every H (λ i. every W (p i)) (λ r u. each-every W (p r) (λ c v. f r c u v))

-- tests that agree on every cell
pub cells_same : (W H : ℕ) (p q : ℕ → ℕ → Bool) → ((r c : ℕ) → r < H → c < W → p r c ≡ q r c) → every_cell W H p ≡ every_cell W H q
unfolding every_cell
cells_same W H p q e = every-same H (λ i. every W (p i)) (λ i. every W (q i)) (λ r u. every-same W (p r) (q r) (λ c v. e r c u v))

T_true : (b : Bool) → T b → b ≡ true
T_true true t = refl
T_true false t = absurd t

-- one of two is no exactly where not both are yes
both-no : (a b : Bool) → pick a b false ≡ false ↔ ((a ≡ true) × (b ≡ true) → ⊥)
both-no true true = (λ e h. subst T e tt, λ h. absurd (h (refl, refl)))
both-no true false = (λ e h. subst T (sym h.1) tt, λ h. refl)
both-no false b = (λ e h. subst T (sym h.0) tt, λ h. refl)

-- maps by their cells
pub same_map : (W H : Side) (g g' : Grid) → Same W H g g' → IsMap W.length H.length g → IsMap W.length H.length g'
same_map W H g g' e m = record { heights = λ r c p q. rw (sym (e r c p q)) (m.heights r c p q) }

module _ (F : Filter) where
  -- ---- a rebuilt value
  pub height-fits : (v : ℤ) → value_fits F 0 v ≡ true ↔ (pos 0 ≤ℤ v) × (v ≤ℤ pos max_sample)
  unfolding value_fits
  height-fits v = (
    λ e. let a = both (le_z (pos 0) v) (le_z v (pos max_sample)) e in
        (record { le = subst T (sym a.0) tt }, record { le = subst T (sym a.1) tt }),
    λ h. simp (T_true (le_z (pos 0) v) h.0.le, T_true (le_z v (pos max_sample)) h.1.le),
  )

  pub low-fits : (k : ℕ) (v : ℤ) → value_fits F (suc k) v ≡ true ↔ nat_abs v ≤ range F (suc k)
  unfolding value_fits
  low-fits k v = (leb-true (nat_abs v) (range F (suc k)), le-leb (nat_abs v) (range F (suc k)))

module _ (F : Filter) (laws : FilterLaws F) where
  abbrev G : ℕ
  G = F.growth

  pub fits-within : (k : ℕ) (v : ℤ) → value_fits F k v ≡ true → nat_abs v ≤ range F k
  fits-within zero v e = let a = (height-fits F v).0 e in rw (range-zero F laws) (map-height v a.0 a.1)
  fits-within (suc k) v e = (low-fits F k v).0 e

  -- the bands that are lifted back, as question 14 has them
  bands-are : (L : ℕ) (W H : Side) (x : Grid) → plane_bands W H (map_back F wrap32 L (next W) (next H) x) x ≡ bands_back F wrap32 L W H x
  bands-are L W H x = plane-bands W H (map_back F wrap32 L (next W) (next H) x) x

  bands-reads : (L : ℕ) (W H : Side) (x y : Grid) → Same W H x y → SameBands W H (bands_back F wrap32 L W H x) (bands_back F wrap32 L W H y)
  bands-reads L W H x y e =
      over-same W H _ _ _ _ (map-back-reads F laws wrap32 L (next W) (next H) x y (same-corner W H x y e)) (same-in-bands W H x y e)

  -- ---- question 14, for a grid whose values fit at level k and that has the plane x
  range-left : (k L : ℕ) → k + L ≤ F.levels → range F k * G ^ L < 2 ^ 31
  range-left k zero h = rw (grown-none G (range F k)) (range_small F laws k (omega arith))
  range-left k (suc L) h = rw (← grown-first G (range F k) L, ← range-suc F laws k) (range-left (suc k) L (omega arith))

  pub rebuilt-yes : (k L : ℕ) (W H : Side) (g x : Grid) → k + L ≤ F.levels → OnCells (λ v. value_fits F k v ≡ true) W H g →
      Same W H x (plane_cell F wrap32 L W H g) → rebuilt_fits F k L W H x ≡ true
  unfolding rebuilt_fits
  rebuilt-yes k zero W H g x h fit e = refl
  rebuilt-yes k (suc L) W H g x h fit e =
      let small : G * range F k < 2 ^ 31 = omega (arith, range-suc F laws k, range_small F laws (suc k) (omega arith)) in
      let left : G * range F k * G ^ L < 2 ^ 31 = rw (← range-suc F laws k) (range-left (suc k) L (omega arith)) in
      let within : OnCells (Within (range F k)) W H g = λ r c p q. fits-within k (g r c) (fit r c p q) in
      let fits = word_cells (range F k) W H g (range_small F laws k (omega arith)) within in
      let back : Same W H (map_back F wrap32 (suc L) W H x) g =
      λ r c p q.
      map-back-reads F laws wrap32 (suc L) W H x (plane_cell F wrap32 (suc L) W H g) e r c p q
      ∙ words-map-back-plane F laws (suc L) W H g fits (word-all-double F laws (range F k) (suc L) W H g (range-left k (suc L) h) within) r c p q in
      let low = low-within F laws (range F k) W H g small within in
      let rest =
      rebuilt-yes (suc k) L (next W) (next H) (subband F wrap32 W H g LL) x (omega arith)
      (λ r c p q. (low-fits F k (subband F wrap32 W H g LL r c)).1 (rw (range-suc F laws k) (low r c p q)))
      (λ r c p q. same-corner W H x (plane_cell F wrap32 (suc L) W H g) e r c p q ∙ plane-corner F wrap32 L W H g r c p q) in
      let bands : SameBands W H (bands_back F wrap32 L W H x) (subband F wrap32 W H g) =
      λ b r c p q.
      bands-reads L W H x (plane_cell F wrap32 (suc L) W H g) e b r c p q
      ∙ bands-plane F laws words L W H g fits (word-all-double F laws (G * range F k) L (next W) (next H) (subband F wrap32 W H g LL) left low) b r c p q in
      let has : level_has F W H (plane_bands W H (map_back F wrap32 L (next W) (next H) x) x) ≡ true =
      ap (level_has F W H) (bands-are L W H x)
      ∙ level-has-reads F laws W H (bands_back F wrap32 L W H x) (subband F wrap32 W H g) bands
      ∙ subband-has F laws W H g fits (word-doubles F laws (range F k) W H g small within) in
      simp (
        rest,
        has,
        each-cells W.length H.length (λ r c. value_fits F k (map_back F wrap32 (suc L) W H x r c))
            (λ r c p q. rw (back r c p q) (fit r c p q)),
      )

  -- ---- a plane that a map has
  module _ (L : ℕ) (W H : Side) (g x : Grid) (few : L ≤ F.levels) (has : HasPlane F L W H g x) where
    pub plane-words : Same W H x (plane_cell F wrap32 L W H g)
    plane-words r c p q = has.coefficients r c p q ∙ sym (map-plane F laws W H g has.map L few r c p q)

    pub plane-within : (r c : ℕ) → r < H.length → c < W.length → nat_abs (x r c) ≤ range F (level_at L W H r c)
    plane-within r c p q = rw (has.coefficients r c p q) (map-plane-range F laws W H g has.map L r c p q)

    pub plane-in-range : in-range F L W H x ≡ true
    unfolding in-range
    plane-in-range =
        each-cells W.length H.length (λ r c. leb (nat_abs (x r c)) (range F (level_at L W H r c))) (λ r c p q. le-leb _ _ (plane-within r c p q))

    pub plane-rebuilt : rebuilt_fits F 0 L W H x ≡ true
    plane-rebuilt =
        rebuilt-yes 0 L W H g x (omega arith) (λ r c p q. (height-fits F (g r c)).1 (has.map.heights r c p q)) plane-words

    pub plane-back : (r c : ℕ) → r < H.length → c < W.length → map_back F wrap32 L W H x r c ≡ g r c
    plane-back r c p q =
        map-back-reads F laws wrap32 L W H x (plane_cell F wrap32 L W H g) plane-words r c p q
        ∙ words-map-back-plane F laws L W H g (map-fits W H g has.map) (map-all-double F laws W H g has.map L few) r c p q

  -- ---- a plane whose rebuilt values fit
  pick-le : (t : Bool) (m n k : ℕ) → m ≤ k → n ≤ k → pick t m n ≤ k
  pick-le true m n k h h' = h
  pick-le false m n k h h' = h'

  pub level-le : (L : ℕ) (W H : Side) (r c : ℕ) → level_at L W H r c ≤ L
  unfolding level_at
  level-le zero W H r c = omega arith
  level-le (suc L) W H r c =
      let a = level-le L (next W) (next H) r c in
      pick-le (in_corner W H r c) (1 + level_at L (next W) (next H) r c) 1 (suc L) (omega arith) (omega arith)

  -- a plane in range is one of 32-bit numbers
  pub range-words : (L : ℕ) (W H : Side) (x : Grid) → L ≤ F.levels → in-range F L W H x ≡ true → OnCells (SFits w32) W H x
  unfolding in-range
  range-words L W H x few e r c p q =
      let a = leb-true _ _ (cells-each W.length H.length _ e r c p q) in
      abs-fits (x r c) (range F (level_at L W H r c)) (range_small F laws (level_at L W H r c) (omega (arith, level-le L W H r c))) a

  -- what question 14 asks of one level
  pub rebuilt-parts : (k L : ℕ) (W H : Side) (x : Grid) → rebuilt_fits F k (suc L) W H x ≡ true → (rebuilt_fits F (suc k) L (next W) (next H) x ≡ true)
      × (level_has F W H (bands_back F wrap32 L W H x) ≡ true) × OnCells (λ v. value_fits F k v ≡ true) W H (map_back F wrap32 (suc L) W H x)
  unfolding rebuilt_fits
  rebuilt-parts k L W H x e =
      let a = both (rebuilt_fits F (suc k) L (next W) (next H) x) _ e in
      let b = both (level_has F W H (plane_bands W H (map_back F wrap32 L (next W) (next H) x) x)) _ a.1 in (
        a.0,
        ap (level_has F W H) (sym (bands-are L W H x)) ∙ b.0,
        cells-each W.length H.length (λ r c. value_fits F k (map_back F wrap32 (suc L) W H x r c)) b.1,
      )

  pub rebuilt-fits : (k L : ℕ) (W H : Side) (x : Grid) → 1 ≤ L → rebuilt_fits F k L W H x ≡ true
      → OnCells (λ v. value_fits F k v ≡ true) W H (map_back F wrap32 L W H x)
  rebuilt-fits k zero W H x some e = absurd (omega arith)
  rebuilt-fits k (suc L) W H x some e = (rebuilt-parts k L W H x e).2

  pub rebuilt-have : (k L : ℕ) (W H : Side) (x : Grid) → rebuilt_fits F k L W H x ≡ true → AllHave F wrap32 L W H x
  rebuilt-have k zero W H x e = none
  rebuilt-have k (suc L) W H x e =
      let a = rebuilt-parts k L W H x e in
      more (rebuilt-have (suc k) L (next W) (next H) x a.0) ((level-has F W H (bands_back F wrap32 L W H x)).0 a.1)

  module _ (L : ℕ) (W H : Side) (x : Grid) (some : 1 ≤ L) (few : L ≤ F.levels) (fits : OnCells (SFits w32) W H x)
      (rebuilt : rebuilt_fits F 0 L W H x ≡ true) where
    pub rebuilt-map : IsMap W.length H.length (map_back F wrap32 L W H x)
    rebuilt-map = record { heights = λ r c p q. (height-fits F (map_back F wrap32 L W H x r c)).0 (rebuilt-fits 0 L W H x some rebuilt r c p q) }

    pub rebuilt-plane : HasPlane F L W H (map_back F wrap32 L W H x) x
    rebuilt-plane = record {
      map = rebuilt-map;
      coefficients = λ r c p q.
          sym (words-plane-map-back F laws L W H x fits (rebuilt-have 0 L W H x rebuilt) r c p q)
          ∙ map-plane F laws W H (map_back F wrap32 L W H x) rebuilt-map L few r c p q;
    }

  -- ---- so both questions are answered yes exactly where some map has the plane, and no other map has it
  pub some_map : (L : ℕ) (W H : Side) (x : Grid) → 1 ≤ L → L ≤ F.levels →
      (in-range F L W H x ≡ true) × (rebuilt_fits F 0 L W H x ≡ true) ↔ (g : Grid) × HasPlane F L W H g x
  some_map L W H x some few = (
    λ h. (map_back F wrap32 L W H x, rebuilt-plane L W H x some few (range-words L W H x few h.0) h.1),
    λ m. (plane-in-range L W H m.0 x few m.1, plane-rebuilt L W H m.0 x few m.1),
  )

  pub one_map : (L : ℕ) (W H : Side) (g g' x : Grid) → L ≤ F.levels → HasPlane F L W H g x → HasPlane F L W H g' x → Same W H g g'
  one_map L W H g g' x few m m' r c p q = sym (plane-back L W H g x few m r c p q) ∙ plane-back L W H g' x few m' r c p q

  -- and one of them no exactly where no map has it
  pub no_map : (L : ℕ) (W H : Side) (x : Grid) → 1 ≤ L → L ≤ F.levels →
      pick (in-range F L W H x) (rebuilt_fits F 0 L W H x) false ≡ false ↔ ((g : Grid) → HasPlane F L W H g x → ⊥)
  no_map L W H x some few =
      let asked = both-no (in-range F L W H x) (rebuilt_fits F 0 L W H x) in
      let maps = some_map L W H x some few in
      (λ e g m. asked.0 e (maps.1 (g, m)), λ h. asked.1 (λ a. let m = maps.0 a in h m.0 m.1))

  -- ---- planes by their cells
  pub same-plane : (L : ℕ) (W H : Side) (g g' x y : Grid) → Same W H g g' → Same W H x y → HasPlane F L W H g x → HasPlane F L W H g' y
  same-plane L W H g g' x y e d has = record {
    map = same_map W H g g' e has.map;
    coefficients = λ r c p q. sym (d r c p q) ∙ has.coefficients r c p q ∙ plane-reads F laws whole L W H g g' e r c p q;
  }

  -- the way back gives the map, with both questions answered yes, exactly where the plane is that map's
  pub back-exactly : (L : ℕ) (W H : Side) (g x : Grid) → 1 ≤ L → L ≤ F.levels →
      HasPlane F L W H g x ↔ (in-range F L W H x ≡ true) × (rebuilt_fits F 0 L W H x ≡ true) × Same W H (map_back F wrap32 L W H x) g
  back-exactly L W H g x some few = (
    λ has. (plane-in-range L W H g x few has, plane-rebuilt L W H g x few has, plane-back L W H g x few has),
    λ h. same-plane L W H (map_back F wrap32 L W H x) g x x h.2 (λ r c p q. refl)
        (rebuilt-plane L W H x some few (range-words L W H x few h.0) h.1),
  )
