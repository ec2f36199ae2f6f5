-- The levels from the other end: level k + 1 of a map is level k of its low-low part. Assumes nothing.
use mathlib.Core.Path.{◌≡◌, refl, sym, ◌∙◌}
use Prim.Native.Nat.{ℕ, zero, suc}
use lib.IntN.{ℤ}
use Rattle.lifting.specs.Grid.{Side}
use Rattle.lifting.specs.Filter.{Filter}
use Rattle.wavelet.specs.Bands.{Grid, Band, LL, subband}
use Rattle.wavelet.specs.Levels.{next, side_at, approximation, level_band}
use Rattle.wavelet.proofs.SideLaws.{size-inner}

module _ (F : Filter) (keep : ℤ → ℤ) (W H : Side) (g : Grid) where
  pub approximation-suc : (k : ℕ) → approximation F keep W H g (suc k) ≡ subband F keep (side_at k W) (side_at k H) (approximation F keep W H g k) LL
  unfolding approximation
  approximation-suc k = refl

  pub level-suc : (k : ℕ) (b : Band) → level_band F keep W H g (suc k) b ≡ subband F keep (side_at k W) (side_at k H) (approximation F keep W H g k) b
  unfolding level_band
  level-suc k b = refl

  pub level-first : (b : Band) → level_band F keep W H g 1 b ≡ subband F keep W H g b
  unfolding level_band approximation side_at
  level-first b = refl

alike : (F : Filter) (keep : ℤ → ℤ) (W W' H H' : Side) (g g' : Grid) (b : Band) → W ≡ W' → H ≡ H' → g ≡ g' → subband F keep W H g b ≡ subband F keep W' H' g' b
alike F keep W W' H H' g g' b p q r = cc

module _ (F : Filter) (keep : ℤ → ℤ) (W H : Side) (g : Grid) where
  approximation-first : approximation F keep W H g 1 ≡ approximation F keep (next W) (next H) (subband F keep W H g LL) 0
  unfolding approximation side_at
  approximation-first = refl

  pub approximation-inner : (k : ℕ) → approximation F keep W H g (suc k) ≡ approximation F keep (next W) (next H) (subband F keep W H g LL) k
  approximation-inner zero = approximation-first
  approximation-inner (suc k) =
      approximation-suc F keep W H g (suc k)
      ∙ alike F keep _ _ _ _ _ _ LL (size-inner k W) (size-inner k H) (approximation-inner k)
      ∙ sym (approximation-suc F keep (next W) (next H) (subband F keep W H g LL) k)

  pub level-inner : (k : ℕ) (b : Band) → level_band F keep W H g (suc (suc k)) b ≡ level_band F keep (next W) (next H) (subband F keep W H g LL) (suc k) b
  level-inner k b =
      level-suc F keep W H g (suc k) b
      ∙ alike F keep _ _ _ _ _ _ b (size-inner k W) (size-inner k H) (approximation-inner k)
      ∙ sym (level-suc F keep (next W) (next H) (subband F keep W H g LL) k b)
