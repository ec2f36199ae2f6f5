-- The levels of a map from level j on are those of its low-low part there: sides, low-low parts and bands. Assumes nothing.
use mathlib.Core.Path.{◌≡◌, refl, sym, ap, ap₂, ◌∙◌}
use Prim.Native.Nat.{ℕ, zero, suc, ◌+◌, ◌-◌}
use native.Mathlib.Omega.{arith}
use lib.IntN.{ℤ}
use Rattle.lifting.specs.Grid.{Side, count}
use Rattle.lifting.specs.Filter.{Filter}
use Rattle.wavelet.specs.Bands.{Grid, Band, LL, across, subband}
use Rattle.wavelet.specs.Levels.{next, side_at, approximation, level_band}
use Rattle.wavelet.specs.View.{band_columns}
use Rattle.reader.proofs.StopLaws.{side-on}

module _ (F : Filter) (keep : ℤ → ℤ) (W H : Side) (g : Grid) (j : ℕ) where
  -- one level, of sides and a grid that are equal
  same-level : (A A' B B' : Side) (p q : Grid) (b : Band) → A ≡ A' → B ≡ B' → p ≡ q → subband F keep A B p b ≡ subband F keep A' B' q b
  same-level A A' B B' p q b ea eb ep = ap₂ (λ (S T : Side). subband F keep S T p b) ea eb ∙ ap (λ (u : Grid). subband F keep A' B' u b) ep

  pub part-on : (k : ℕ) → approximation F keep W H g (j + k) ≡ approximation F keep (side_at j W) (side_at j H) (approximation F keep W H g j) k
  unfolding approximation
  part-on zero = let e : j + 0 ≡ j = omega arith in ap (λ (i : ℕ). approximation F keep W H g i) e
  part-on (suc k) =
      let e : j + suc k ≡ suc (j + k) = omega arith in
      ap (λ (i : ℕ). approximation F keep W H g i) e ∙ same-level _ _ _ _ _ _ LL (side-on j k W) (side-on j k H) (part-on k)

  pub band-on : (k : ℕ) (b : Band) →
      level_band F keep W H g (j + suc k) b ≡ level_band F keep (side_at j W) (side_at j H) (approximation F keep W H g j) (suc k) b
  unfolding level_band
  band-on k b =
      let e : j + suc k ≡ suc (j + k) = omega arith in
      ap (λ (i : ℕ). level_band F keep W H g i b) e ∙ same-level _ _ _ _ _ _ b (side-on j k W) (side-on j k H) (part-on k)

pub columns-on : (W : Side) (j k : ℕ) (b : Band) → band_columns W (j + suc k) b ≡ band_columns (side_at j W) (suc k) b
unfolding band_columns
columns-on W j k b =
    let e : j + suc k - 1 ≡ j + k = omega arith in
    let z : suc k - 1 ≡ k = omega arith in
    ap (λ (i : ℕ). count (across b) (side_at i W)) e ∙ ap (count (across b)) (side-on j k W) ∙ ap (λ (i : ℕ). count (across b) (side_at i (side_at j W))) (sym z)
