-- What a tolerant way back makes of band rows by their names, P, level by level, is `map_back_limited` of the plane that has them. Assumes nothing.
use mathlib.Core.Path.{◌≡◌, ◌∙◌}
use Prim.Native.Nat.{ℕ, zero, suc, ◌+◌, ◌-◌, ◌<◌}
use native.Mathlib.Omega.{arith}
use Rattle.numbers.specs.Word.{wrap32}
use Rattle.lifting.specs.Grid.{Side, count}
use Rattle.lifting.specs.Filter.{Filter}
use Rattle.lifting.specs.FiveThree.{five_three_filter}
use Rattle.wavelet.specs.Bands.{Grid, Band, LL, HL, LH, HH, across, down}
use Rattle.wavelet.specs.Levels.{next, side_at}
use Rattle.wavelet.specs.Order.{row_name}
use Rattle.wavelet.specs.Plane.{plane_bands}
use Rattle.wavelet.proofs.LevelTheory.{Same, SameBands, band_in, placed}
use Rattle.tolerance.specs.Back.{level_back_limited, map_back_limited}
use Rattle.reader.specs.Rebuilt.{Rows, bands_by}
use Rattle.rounding_error.proofs.LimitedWords.{level-reads}

abbrev F : Filter
F = five_three_filter

-- the bands of the plane x of L levels, level by level, are the rows P by their names
pub record PlaneHas (L : ℕ) (W H : Side) (P : Rows) (x : Grid) : Type 0 where
  pub are : (k : ℕ) (b : Band) → k < L → (b ≡ LL → suc k ≡ L) → (r c : ℕ) → r < count (down b) (side_at k H) → c < count (across b) (side_at k W) →
      P (row_name (suc k) b r) c ≡ band_in (side_at k W) (side_at k H) x b r c

module _ (L : ℕ) (W H : Side) (P : Rows) (x : Grid) (has : PlaneHas L W H P x) (some : 0 < L)
    -- what is rebuilt of level k, with m levels from there on
    (back : ℕ → ℕ → Grid)
    (last : (k r c : ℕ) → back 0 k r c ≡ P (row_name k LL r) c)
    (more : (m k r c : ℕ) → back (suc m) k r c ≡ level_back_limited F wrap32 k (side_at k W) (side_at k H) (bands_by P (suc k) (back m (suc k))) r c) where
  bands-same : (k : ℕ) (a a' : Grid) → k < L → Same (side_at (suc k) W) (side_at (suc k) H) a a' →
      SameBands (side_at k W) (side_at k H) (bands_by P (suc k) a) (plane_bands (side_at k W) (side_at k H) a' x)
  unfolding bands_by plane_bands side_at next across down band_in placed
  bands-same k a a' h e LL r c p q = e r c p q
  bands-same k a a' h e HL r c p q = has.are k HL h (λ z. absurd (let z : ◌≡◌ {A = ℕ} 0 1 = cc in omega arith)) r c p q
  bands-same k a a' h e LH r c p q = has.are k LH h (λ z. absurd (let z : ◌≡◌ {A = ℕ} 0 1 = cc in omega arith)) r c p q
  bands-same k a a' h e HH r c p q = has.are k HH h (λ z. absurd (let z : ◌≡◌ {A = ℕ} 0 1 = cc in omega arith)) r c p q

  low : (k : ℕ) → k ≡ L → (r c : ℕ) → r < (side_at k H).length → c < (side_at k W).length → P (row_name k LL r) c ≡ x r c
  unfolding side_at next across down band_in placed
  low zero e r c p q = absurd (omega arith)
  low (suc k) e r c p q = has.are k LL (omega arith) (λ _. e) r c p q

  pub back-limited : (m k : ℕ) → k + m ≡ L → Same (side_at k W) (side_at k H) (back m k) (map_back_limited F wrap32 k m (side_at k W) (side_at k H) x)
  unfolding map_back_limited side_at
  back-limited zero k e r c p q = last k r c ∙ low k (omega arith) r c p q
  back-limited (suc m) k e r c p q =
      more m k r c
      ∙ level-reads wrap32 k (side_at k W) (side_at k H) _ _
      (bands-same k (back m (suc k)) (map_back_limited F wrap32 (suc k) m (side_at (suc k) W) (side_at (suc k) H) x) (omega arith)
      (back-limited m (suc k) (omega arith))) r c p q
