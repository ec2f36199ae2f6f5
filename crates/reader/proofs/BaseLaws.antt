-- A low-low part of level `base`, a map or numbers in that level's range: its own levels are within the ranges of the map's levels that they are, so
-- word-lifting
-- is the filter's own there, as it is for a map (wavelet's Bridge). Assumes nothing.
use mathlib.Core.Path.{◌≡◌, refl, sym, ap, subst, ◌∙◌}
use mathlib.Core.Bool.{true}
use Prim.Native.Nat.{ℕ, zero, suc, ◌+◌, ◌*◌, ◌^◌, ◌≤◌, ◌<◌}
use native.Mathlib.Nat.{mul_assoc}
use lib.Pow.{pow-add}
use native.Mathlib.Omega.{arith}
use lib.IntN.{nat_abs}
use mir.Syntax.{w32}
use mir.Val.{SFits}
use Rattle.numbers.specs.Word.{wrap32, whole}
use Rattle.lifting.specs.Grid.{Side}
use Rattle.lifting.specs.Filter.{Filter}
use Rattle.lifting.proofs.FilterLaws.{words}
use Rattle.wavelet.specs.Limits.{max_sample, range}
use Rattle.wavelet.specs.Bands.{Grid, level_has}
use Rattle.wavelet.specs.Levels.{side_at, approximation, level_band}
use Rattle.wavelet.specs.Maps.{IsMap, value_fits}
use Rattle.wavelet.proofs.LevelTheory.{OnCells, Same, SameBands, Doubles, subband-has}
use Rattle.wavelet.proofs.Bridge.{Within, word_cells, map-within, word-doubles, approximation-range, approximation-exact, band-exact}
use Rattle.wavelet.proofs.Bridge.{range-zero, range-suc, range_small}
use Rattle.wavelet.proofs.MapTheorems.{height-fits, low-fits}
use Rattle.filters.specs.Filters.{filter_of}
use Rattle.filters.proofs.Filters.{filter-laws}
use Rattle.reader.specs.Demand3.{IsPart}

-- k levels further on
range-on : (F : Filter) (b k : ℕ) → range F b * F.growth ^ k ≡ range F (b + k)
unfolding range
range-on F b k = mul_assoc max_sample (F.growth ^ b) (F.growth ^ k) ∙ ap (λ (i : ℕ). max_sample * i) (sym (pow-add F.growth b k))

-- each value of a part fits, and numbers that fit are a part
pub part-value : (f b w h : ℕ) (g : Grid) → IsPart (filter_of f) b w h g → (r c : ℕ) → r < h → c < w → value_fits (filter_of f) b (g r c) ≡ true
part-value f zero w h g m r c p q = (height-fits (filter_of f) (g r c)).1 (m.heights r c p q)
part-value f (suc b) w h g m r c p q = (low-fits (filter_of f) b (g r c)).1 (m r c p q)

pub value-part : (f b w h : ℕ) (g : Grid) → ((r c : ℕ) → r < h → c < w → value_fits (filter_of f) b (g r c) ≡ true) → IsPart (filter_of f) b w h g
value-part f zero w h g v = record { heights = λ r c p q. (height-fits (filter_of f) (g r c)).0 (v r c p q) }
value-part f (suc b) w h g v = λ r c p q. (low-fits (filter_of f) b (g r c)).0 (v r c p q)

part_in : (f b : ℕ) (W H : Side) (g : Grid) → IsPart (filter_of f) b W.length H.length g → OnCells (Within (range (filter_of f) b)) W H g
part_in f zero W H g m r c p q = rw (range-zero (filter_of f) (filter-laws f)) (map-within W H g m r c p q)
part_in f (suc b) W H g m r c p q = m r c p q

module _ (f base : ℕ) (W H : Side) (g : Grid) (m : IsPart (filter_of f) base W.length H.length g) where
  abbrev F : Filter
  F = filter_of f

  within : OnCells (Within (range F base)) W H g
  within = part_in f base W H g m

  pub part-range : (k : ℕ) → OnCells (Within (range F (base + k))) (side_at k W) (side_at k H) (approximation F whole W H g k)
  part-range k r c p q =
      subst (λ i. Within i (approximation F whole W H g k r c)) (range-on F base k)
      (approximation-range F (filter-laws f) (range F base) W H g within k r c p q)

  small : (k : ℕ) → base + k ≤ F.levels → range F base * F.growth ^ k < 2 ^ 31
  small k h = rw (range-on F base k) (range_small F (filter-laws f) (base + k) h)

  pub part-exact : (k : ℕ) → base + k ≤ F.levels → Same (side_at k W) (side_at k H) (approximation F wrap32 W H g k) (approximation F whole W H g k)
  part-exact k h = approximation-exact F (filter-laws f) (range F base) W H g within k (small k h)

  pub part-band : (k : ℕ) → base + suc k ≤ F.levels
      → SameBands (side_at k W) (side_at k H) (level_band F wrap32 W H g (suc k)) (level_band F whole W H g (suc k))
  part-band k h = band-exact F (filter-laws f) (range F base) W H g within k (small (suc k) h)

  -- over words
  words-in : (k : ℕ) → base + k ≤ F.levels → OnCells (Within (range F (base + k))) (side_at k W) (side_at k H) (approximation F wrap32 W H g k)
  words-in k h r c p q = rw (part-exact k h r c p q) (part-range k r c p q)

  pub part-words : (k : ℕ) → base + k ≤ F.levels → OnCells (SFits w32) (side_at k W) (side_at k H) (approximation F wrap32 W H g k)
  part-words k h =
      word_cells (range F (base + k)) (side_at k W) (side_at k H) (approximation F wrap32 W H g k) (range_small F (filter-laws f) (base + k) h) (words-in k h)

  pub part-doubles : (k : ℕ) → base + suc k ≤ F.levels → Doubles F words (side_at k W) (side_at k H) (approximation F wrap32 W H g k)
  part-doubles k h =
      word-doubles F (filter-laws f) (range F (base + k)) (side_at k W) (side_at k H) (approximation F wrap32 W H g k)
      (let e : suc (base + k) ≡ base + suc k = omega arith in
      let s = range_small F (filter-laws f) (suc (base + k)) (omega arith) in
      omega (arith, range-suc F (filter-laws f) (base + k), s))
      (words-in k (omega arith))

  pub part-level-has : (k : ℕ) → base + suc k ≤ F.levels → level_has F (side_at k W) (side_at k H) (level_band F wrap32 W H g (suc k)) ≡ true
  unfolding level_band
  part-level-has k h =
      subband-has F (filter-laws f) (side_at k W) (side_at k H) (approximation F wrap32 W H g k) (part-words k (omega arith)) (part-doubles k h)

  -- every value of its low-low parts fits
  pub part-values : (k : ℕ) → base + k ≤ F.levels → (r c : ℕ) → r < (side_at k H).length → c < (side_at k W).length →
      value_fits F (base + k) (approximation F wrap32 W H g k r c) ≡ true
  unfolding approximation side_at
  part-values zero h r c p q =
      subst (λ i. value_fits F i (g r c) ≡ true) (omega arith) (part-value f base W.length H.length g m r c p q)
  part-values (suc k) h r c p q =
      let e : suc (base + k) ≡ base + suc k = omega arith in
      subst (λ i. value_fits F i (approximation F wrap32 W H g (suc k) r c) ≡ true) e
      ((low-fits F (base + k) _).1
      (subst (λ i. Within (range F i) (approximation F wrap32 W H g (suc k) r c)) (sym e) (words-in (suc k) h r c p q)))
