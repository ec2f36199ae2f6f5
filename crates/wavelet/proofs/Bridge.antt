-- Ranges, and the bridge from words to whole numbers, for maps on the grid and every filter that meets its laws. Samples within ±M give values within ±G M a
-- level, a doubled one too, G being the filter's growth (4 for the 5/3, 6 for the 9/7), so k levels within ±M · G^k; where that is below 2^31 nothing wraps,
-- and word-lifting is the filter's own.
-- First for any grid within ±M, then for a map, whose values are within `range k` at level k.
-- Assumes nothing.
use mathlib.Core.Path.{◌≡◌, refl, sym, ap, ◌∙◌}
use Prim.Native.Nat.{ℕ, zero, suc, ◌+◌, ◌*◌, ◌^◌, ◌≤◌, ◌<◌}
use native.Mathlib.Nat.{pow-zero, pow-suc, pow-le-pow_right, mul-le-mul_left, mul-le-mul_right, mul_assoc, mul_comm, mul_left_comm, one-le-pow}
use native.Mathlib.Omega.{arith}
use lib.IntN.{ℤ, pos, nat_abs, ◌*ℤ◌}
use lib.Signed.{◌≤ℤ◌}
use mir.Syntax.{w32}
use mir.Val.{SFits}
use Rattle.numbers.specs.Word.{wrap32, whole}
use Rattle.numbers.proofs.Integers.{each, lin}
use Rattle.numbers.proofs.Words.{abs-fits}
use Rattle.lifting.specs.Line.{Half}
use Rattle.lifting.specs.Grid.{Side, count}
use Rattle.lifting.specs.Filter.{Filter}
use Rattle.lifting.proofs.FilterLaws.{words, FilterLaws, gain-below, growth-some}
use Rattle.lifting.proofs.SingleLaws.{single-high}
use Rattle.wavelet.specs.Limits.{max_sample, range}
use Rattle.wavelet.specs.Bands.{Grid, Band, LL, HL, LH, HH, across, down, columns_lifted, subband}
use Rattle.wavelet.specs.Maps.{IsMap}
use Rattle.wavelet.specs.Levels.{next, side_at, approximation, level_band}
use Rattle.wavelet.specs.Plane.{plane_cell, level_at}
use Rattle.wavelet.proofs.LimitLaws.{range_last}
use Rattle.wavelet.proofs.LevelTheory.{OnCells, OnBands, Same, SameBands, subband-same, over, over-same, by-band, band_in, same-bands, low-all, same_low}
use Rattle.wavelet.proofs.LevelTheory.{plane-at, level-at, plane-reads, Doubles, AllDouble, none, more}

-- z is within ±M
abbrev pub Within : ℕ → ℤ → Type 0
Within M z = nat_abs z ≤ M

-- a level's factor: G · M · G^k both ways
pub grown : (G M k : ℕ) → G * (M * G ^ k) ≡ M * G ^ suc k
grown G M k = mul_left_comm G M (G ^ k) ∙ ap (λ (z : ℕ). M * z) (mul_comm G (G ^ k) ∙ sym (pow-suc G k))

pub grown-first : (G M k : ℕ) → G * M * G ^ k ≡ M * G ^ suc k
grown-first G M k = mul_assoc G M (G ^ k) ∙ grown G M k

pub grown-none : (G M : ℕ) → M * G ^ 0 ≡ M
grown-none G M = let e = pow-zero G in rw e (omega arith)

grown-once : (G M : ℕ) → G * M ≡ M * G ^ 1
grown-once G M = sym (grown-none G (G * M)) ∙ grown-first G M 0

pub grows : (G M k : ℕ) → 1 ≤ G → M ≤ M * G ^ k
grows G M k p = let e = mul-le-mul_left M (one-le-pow k G p) in omega arith

one-more : (G N : ℕ) → 1 ≤ G → N ≤ G * N
one-more G N p = let e = mul-le-mul_right N p in omega arith

-- a doubled number
double-within : (M : ℕ) (v : ℤ) → nat_abs v ≤ M → nat_abs (pos 2 *ℤ v) ≤ 2 * M
double-within M = each _ λ p q. simp lin (omega arith)

pub word_cells : (M : ℕ) (W H : Side) (g : Grid) → M < 2 ^ 31 → OnCells (Within M) W H g → OnCells (SFits w32) W H g
word_cells M W H g small w r c p q = abs-fits (g r c) M small (w r c p q)

pub map-height : (v : ℤ) → pos 0 ≤ℤ v → v ≤ℤ pos max_sample → nat_abs v ≤ max_sample
map-height = each _ λ p q. simp lin (omega arith)

module _ (W H : Side) (g : Grid) (m : IsMap W.length H.length g) where
  pub map-within : OnCells (Within max_sample) W H g
  map-within r c p q = let a = m.heights r c p q in map-height (g r c) a.0 a.1

  pub map-fits : OnCells (SFits w32) W H g
  unfolding max_sample
  map-fits r c p q = abs-fits (g r c) max_sample (omega arith) (map-within r c p q)

module _ (F : Filter) (laws : FilterLaws F) where
  open laws use {forward-reads, gain, forward-range, forward-exact, gain-double, gain-twice}

  abbrev G : ℕ
  G = F.growth

  -- ---- one level
  columns-range : (M : ℕ) (W H : Side) (g : Grid) → OnCells (Within M) W H g → (h : Half) (r c : ℕ) → r < count h H → c < W.length →
      nat_abs (columns_lifted F whole H g h r c) ≤ gain M
  unfolding columns_lifted
  columns-range M W H g w h r c p q = forward-range M H (λ i. g i c) (λ i u. w i c u q) h r p

  pub subband-range : (M : ℕ) (W H : Side) (g : Grid) → OnCells (Within M) W H g → OnBands (Within (G * M)) W H (subband F whole W H g)
  unfolding subband
  subband-range M W H g w b r c p q =
      let a = forward-range (gain M) W (columns_lifted F whole H g (down b) r) (λ j u. columns-range M W H g w (down b) r j p u) (across b) c q in
      omega (arith, gain-twice M)

  columns-exact : (M : ℕ) (W H : Side) (g : Grid) → G * M < 2 ^ 31 → OnCells (Within M) W H g → (h : Half) (r c : ℕ) → r < count h H → c < W.length →
      columns_lifted F wrap32 H g h r c ≡ columns_lifted F whole H g h r c
  unfolding columns_lifted
  columns-exact M W H g small w h r c p q = forward-exact M H (omega (arith, gain-below F laws M)) (λ i. g i c) (λ i u. w i c u q) h r p

  pub subband-exact : (M : ℕ) (W H : Side) (g : Grid) → G * M < 2 ^ 31 → OnCells (Within M) W H g
      → SameBands W H (subband F wrap32 W H g) (subband F whole W H g)
  unfolding subband
  subband-exact M W H g small w b r c p q =
      forward-reads wrap32 W (columns_lifted F wrap32 H g (down b) r) (columns_lifted F whole H g (down b) r) (across b) c q
      (λ j u _. columns-exact M W H g small w (down b) r j p u)
      ∙ forward-exact (gain M) W (omega (arith, gain-twice M)) (columns_lifted F whole H g (down b) r)
      (λ j u. columns-range M W H g w (down b) r j p u) (across b) c q

  -- the same for two grids that agree, as the levels before leave them
  pub subband-bridge : (M : ℕ) (W H : Side) (g g' : Grid) → G * M < 2 ^ 31 → OnCells (Within M) W H g' → Same W H g g' →
      SameBands W H (subband F wrap32 W H g) (subband F whole W H g')
  subband-bridge M W H g g' small w e b r c p q =
      subband-same F laws wrap32 W H g g' e b r c p q ∙ subband-exact M W H g' small w b r c p q

  -- what is doubled fits 32 bits
  pub word-doubles : (M : ℕ) (W H : Side) (g : Grid) → G * M < 2 ^ 31 → OnCells (Within M) W H g → Doubles F words W H g
  word-doubles M W H g small w = record {
    columns = λ e c v.
        let t = single-high H e in
        abs-fits (pos 2 *ℤ g 0 c) (2 * M) (omega (arith, gain-double M, gain-below F laws M)) (double-within M (g 0 c) (w 0 c (omega arith) v));
    rows = λ e h r p.
        let t = single-high W e in
        let a : nat_abs (columns_lifted F wrap32 H g h r 0) ≤ gain M =
        rw (columns-exact M W H g small w h r 0 p (omega arith)) (columns-range M W H g w h r 0 p (omega arith)) in
        abs-fits (pos 2 *ℤ columns_lifted F wrap32 H g h r 0) (2 * gain M) (omega (arith, gain-below F laws M))
        (double-within (gain M) (columns_lifted F wrap32 H g h r 0) a);
  }

  -- ---- k levels, for any grid within ±M
  module _ (M : ℕ) (W H : Side) (g : Grid) (within : OnCells (Within M) W H g) where
    pub approximation-range : (k : ℕ) → OnCells (Within (M * G ^ k)) (side_at k W) (side_at k H) (approximation F whole W H g k)
    unfolding approximation side_at
    approximation-range zero = λ r c p q. rw (grown-none G M) (within r c p q)
    approximation-range (suc k) =
        rw (← grown G M k)
        (low-all (Within (G * (M * G ^ k))) (side_at k W) (side_at k H) (subband F whole (side_at k W) (side_at k H) (approximation F whole W H g k))
        (subband-range (M * G ^ k) (side_at k W) (side_at k H) (approximation F whole W H g k) (approximation-range k)))

    pub band-range : (k : ℕ) → OnBands (Within (M * G ^ suc k)) (side_at k W) (side_at k H) (level_band F whole W H g (suc k))
    unfolding level_band
    band-range k =
        rw (← grown G M k) (subband-range (M * G ^ k) (side_at k W) (side_at k H) (approximation F whole W H g k) (approximation-range k))

    pub approximation-exact : (k : ℕ) → M * G ^ k < 2 ^ 31 → Same (side_at k W) (side_at k H) (approximation F wrap32 W H g k) (approximation F whole W H g k)
    unfolding approximation side_at
    approximation-exact zero small = λ r c p q. refl
    approximation-exact (suc k) small =
        let s : G * (M * G ^ k) < 2 ^ 31 = rw (grown G M k) small in
        same_low (side_at k W) (side_at k H)
        (subband F wrap32 (side_at k W) (side_at k H) (approximation F wrap32 W H g k))
        (subband F whole (side_at k W) (side_at k H) (approximation F whole W H g k))
        (subband-bridge (M * G ^ k) (side_at k W) (side_at k H) (approximation F wrap32 W H g k) (approximation F whole W H g k) s
        (approximation-range k) (approximation-exact k (omega (arith, one-more G (M * G ^ k) (growth-some F laws)))))

    pub band-exact : (k : ℕ) → M * G ^ suc k < 2 ^ 31 → SameBands (side_at k W) (side_at k H) (level_band F wrap32 W H g (suc k)) (level_band F whole W H g (suc k))
    unfolding level_band
    band-exact k small =
        let s : G * (M * G ^ k) < 2 ^ 31 = rw (grown G M k) small in
        subband-bridge (M * G ^ k) (side_at k W) (side_at k H) (approximation F wrap32 W H g k) (approximation F whole W H g k) s
        (approximation-range k) (approximation-exact k (omega (arith, one-more G (M * G ^ k) (growth-some F laws))))

  -- ---- the plane: each coefficient within its level's bound
  bands-range : (M L : ℕ) (W H : Side) (x : Grid) (p : Band → Grid) →
      ((r c : ℕ) → r < (next H).length → c < (next W).length → nat_abs (x r c) ≤ G * M * G ^ level_at L (next W) (next H) r c) → OnBands (Within (G * M)) W H p →
      (b : Band) (r c : ℕ) → r < count (down b) H → c < count (across b) W →
      nat_abs (over x p b r c) ≤ M * G ^ over (λ i j. 1 + level_at L (next W) (next H) i j) (λ d i j. 1) b r c
  unfolding over across down next
  bands-range M L W H x p low one LL r c u v =
      let a = low r c u v in
      let e : 1 + level_at L (next W) (next H) r c ≡ suc (level_at L (next W) (next H) r c) = omega arith in
      rw (e, ← grown-first G M (level_at L (next W) (next H) r c)) a
  bands-range M L W H x p low one HL r c u v = rw (← grown-once G M) (one HL r c u v)
  bands-range M L W H x p low one LH r c u v = rw (← grown-once G M) (one LH r c u v)
  bands-range M L W H x p low one HH r c u v = rw (← grown-once G M) (one HH r c u v)

  pub plane-range : (M L : ℕ) (W H : Side) (g : Grid) → OnCells (Within M) W H g → (r c : ℕ) → r < H.length → c < W.length →
      nat_abs (plane_cell F whole L W H g r c) ≤ M * G ^ level_at L W H r c
  unfolding plane_cell level_at band_in
  plane-range M zero W H g within = λ r c p q. rw (grown-none G M) (within r c p q)
  plane-range M (suc L) W H g within =
      let one = subband-range M W H g within in
      let low = plane-range (G * M) L (next W) (next H) (subband F whole W H g LL) (low-all (Within (G * M)) W H (subband F whole W H g) one) in
      by-band W H (λ r c. nat_abs (plane_cell F whole (suc L) W H g r c) ≤ M * G ^ level_at (suc L) W H r c)
      (λ b r c p q. rw (plane-at F whole L W H g b r c p q, level-at L W H b r c p q) (bands-range M L W H _ _ low one b r c p q))

  pub plane-exact : (M L : ℕ) (W H : Side) (g : Grid) → M * G ^ L < 2 ^ 31 → OnCells (Within M) W H g →
      Same W H (plane_cell F wrap32 L W H g) (plane_cell F whole L W H g)
  unfolding plane_cell
  plane-exact M zero W H g small within = λ r c p q. refl
  plane-exact M (suc L) W H g small within =
      let s : G * M * G ^ L < 2 ^ 31 = rw (grown-first G M L) small in
      let one = subband-exact M W H g (omega (arith, grows G (G * M) L (growth-some F laws))) within in
      let ih =
      plane-exact (G * M) L (next W) (next H) (subband F whole W H g LL) s
      (low-all (Within (G * M)) W H (subband F whole W H g) (subband-range M W H g within)) in
      let low : Same (next W) (next H) (plane_cell F wrap32 L (next W) (next H) (subband F wrap32 W H g LL))
      (plane_cell F whole L (next W) (next H) (subband F whole W H g LL)) =
      λ r c p q.
      plane-reads F laws wrap32 L (next W) (next H) (subband F wrap32 W H g LL) (subband F whole W H g LL)
      (same_low W H (subband F wrap32 W H g) (subband F whole W H g) one) r c p q
      ∙ ih r c p q in
      same-bands W H (plane_cell F wrap32 (suc L) W H g) (plane_cell F whole (suc L) W H g)
      (λ b r c p q.
      plane-at F wrap32 L W H g b r c p q ∙ over-same W H _ _ _ _ low one b r c p q ∙ sym (plane-at F whole L W H g b r c p q))

  -- the low-low part over words is within ±4M too
  pub low-within : (M : ℕ) (W H : Side) (g : Grid) → G * M < 2 ^ 31 → OnCells (Within M) W H g →
      OnCells (Within (G * M)) (next W) (next H) (subband F wrap32 W H g LL)
  low-within M W H g small within r c p q =
      rw (same_low W H (subband F wrap32 W H g) (subband F whole W H g) (subband-exact M W H g small within) r c p q)
      (low-all (Within (G * M)) W H (subband F whole W H g) (subband-range M W H g within) r c p q)

  -- so at every level what is doubled fits 32 bits
  pub word-all-double : (M L : ℕ) (W H : Side) (g : Grid) → M * G ^ L < 2 ^ 31 → OnCells (Within M) W H g → AllDouble F words L W H g
  word-all-double M zero W H g small within = none
  word-all-double M (suc L) W H g small within =
      let s : G * M * G ^ L < 2 ^ 31 = rw (grown-first G M L) small in
      let four : G * M < 2 ^ 31 = omega (arith, grows G (G * M) L (growth-some F laws)) in
      more (word-doubles M W H g four within) (word-all-double (G * M) L (next W) (next H) (subband F wrap32 W H g LL) s (low-within M W H g four within))

  -- ---- maps
  pub range-zero : range F 0 ≡ max_sample
  unfolding range
  range-zero = grown-none G max_sample

  pub range-suc : (k : ℕ) → range F (suc k) ≡ G * range F k
  unfolding range
  range-suc k = sym (grown G max_sample k)

  pub range-le : (j k : ℕ) → j ≤ k → range F j ≤ range F k
  unfolding range
  range-le j k h = mul-le-mul_left max_sample (pow-le-pow_right {n = G} (growth-some F laws) h)

  pub range_small : (k : ℕ) → k ≤ F.levels → range F k < 2 ^ 31
  range_small k h = omega (arith, range-le k F.levels h, range_last F laws)

  module _ (W H : Side) (g : Grid) (m : IsMap W.length H.length g) where
    -- "Range: every level-k coefficient of a map lies within ±65,535 × 4^k", 6^k for the 9/7
    pub map-approximation-range : (k : ℕ) → OnCells (Within (range F k)) (side_at k W) (side_at k H) (approximation F whole W H g k)
    unfolding range
    map-approximation-range = approximation-range max_sample W H g (map-within W H g m)

    pub map-band-range : (k : ℕ) → OnBands (Within (range F (suc k))) (side_at k W) (side_at k H) (level_band F whole W H g (suc k))
    unfolding range
    map-band-range = band-range max_sample W H g (map-within W H g m)

    pub map-plane-range : (L r c : ℕ) → r < H.length → c < W.length → nat_abs (plane_cell F whole L W H g r c) ≤ range F (level_at L W H r c)
    unfolding range
    map-plane-range L = plane-range max_sample L W H g (map-within W H g m)

    -- the bridge: for a map the word transform is the definition's, in every level and in the plane
    pub map-approximation : (k : ℕ) → k ≤ F.levels → Same (side_at k W) (side_at k H) (approximation F wrap32 W H g k) (approximation F whole W H g k)
    unfolding range
    map-approximation k h = approximation-exact max_sample W H g (map-within W H g m) k (range_small k h)

    pub map-band : (k : ℕ) → suc k ≤ F.levels → SameBands (side_at k W) (side_at k H) (level_band F wrap32 W H g (suc k)) (level_band F whole W H g (suc k))
    unfolding range
    map-band k h = band-exact max_sample W H g (map-within W H g m) k (range_small (suc k) h)

    pub map-plane : (L : ℕ) → L ≤ F.levels → Same W H (plane_cell F wrap32 L W H g) (plane_cell F whole L W H g)
    unfolding range
    map-plane L h = plane-exact max_sample L W H g (range_small L h) (map-within W H g m)

    -- and at every level what is doubled fits 32 bits
    pub map-all-double : (L : ℕ) → L ≤ F.levels → AllDouble F words L W H g
    unfolding range
    map-all-double L h = word-all-double max_sample L W H g (range_small L h) (map-within W H g m)

    -- level by level over words: the low-low part of level k is of 32-bit numbers, its doubles too, and its bands never give 14
    words-within : (k : ℕ) → k ≤ F.levels → OnCells (Within (range F k)) (side_at k W) (side_at k H) (approximation F wrap32 W H g k)
    words-within k h r c p q = rw (map-approximation k h r c p q) (map-approximation-range k r c p q)

    pub map-words : (k : ℕ) → k ≤ F.levels → OnCells (SFits w32) (side_at k W) (side_at k H) (approximation F wrap32 W H g k)
    map-words k h = word_cells (range F k) (side_at k W) (side_at k H) (approximation F wrap32 W H g k) (range_small k h) (words-within k h)
