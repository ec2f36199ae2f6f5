-- One level forward and the levels left: what a call of the levels comes to, from what its own calls give. Assumes nothing.
use mathlib.Core.Path.{◌≡◌, refl, ap}
use mathlib.Core.Bool.{true, false}
use Prim.Native.Nat.{ℕ, ◌+◌, ◌-◌, ◌*◌, ◌≤◌, ◌<◌}
use native.Mathlib.Nat.{mul-le-mul_left, mul-le-mul_right}
use native.Mathlib.Omega.{arith}
use lib.IntN.{ℤ}
use borrow.Author.Tests.{ltb-true}
use Rattle.numbers.proofs.Sweep.{both}
use Rattle.lifting.specs.Line.{lo}
use Rattle.lifting.specs.Grid.{Side, count}
use Rattle.lifting.specs.Filter.{Filter}
use Rattle.lifting.proofs.FilterLaws.{FilterLaws}
use Rattle.lifting.proofs.GridLaws.{counts}
use Rattle.wavelet.specs.Plane.{cells, flat}
use Rattle.wavelet.specs.Levels.{next}
use Rattle.map_levels.specs.Passes.{Rows, KeptFrom, grid_halved, grid_copied}
use Rattle.map_levels.specs.ByFilter.{level_lifted_by}
use Rattle.map_levels.specs.LevelPasses.{corner_grid, plane_written, has_next}
use Rattle.map_levels.proofs.CellLaws.{copied-out, kept-flat, kept_then}
use Rattle.map_levels.proofs.LevelsMath.{forward-last, forward-more}

-- more levels follow: there are some, and the low-low part is not empty
pub has-next : (L w h : ℕ) → has_next L w h ≡ true → (1 < L) × (0 < w) × (0 < h)
unfolding has_next
has-next L w h e =
    let a = both _ _ e in
    let b = both _ _ a.1 in
    (ltb-true 1 L a.0, ltb-true 0 w b.0, ltb-true 0 h b.1)

-- rows of its own width, and those of the low-low part: no more of them, and no longer
pub own-end : (W H : Side) → (count lo H - 1) * count lo W + count lo W ≤ (H.length - 1) * W.length + W.length
own-end W H =
    let l = counts H in
    let k = counts W in
    let a : (count lo H - 1) * count lo W ≤ (H.length - 1) * count lo W = mul-le-mul_right (count lo W) (omega arith) in
    let b : (H.length - 1) * count lo W ≤ (H.length - 1) * W.length = mul-le-mul_left (H.length - 1) (omega arith) in
    omega arith

pub own-rows : (n n' : ℕ) (W H : Side) (w' h' : ℕ) → n' ≡ n → w' ≡ count lo W → h' ≡ count lo H → 0 < w' → 0 < h' → Rows n W.length W.length H.length →
    Rows n' w' w' h'
own-rows n n' W H w' h' size ew eh sw sh R =
    let end = own-end W H in
    let room = R.room in
    record { apart = sw; wide = omega arith; some = sh; room = rw (size, ew, eh) (omega arith) }

-- ---- forward: z₁ is the plane with the level lifted
module _ (F : Filter) (laws : FilterLaws F) (A : ℕ) (W H : Side) (z₀ z₁ : ℕ → ℤ) (wa : W.length ≤ A) (some : 0 < A)
    (f₁ : z₁ ≡ flat A (level_lifted_by F W H (cells A z₀))) where
  pub forward-end : (L w' h' : ℕ) → 0 < L → w' ≡ count lo W → h' ≡ count lo H → has_next L w' h' ≡ false →
      z₁ ≡ flat A (plane_written F L W H (corner_grid W H (cells A z₀)) (cells A z₀))
  forward-end L w' h' a ew eh e = forward-last F laws A W H z₀ z₁ wa some f₁ L a (rw (ew, eh) at e)

  -- x₁ is the work area with the low-low part, of sides W' and H', z₂ the plane with it in halves, z₃ and x₃ what the levels left leave
  pub forward-step : (n L : ℕ) (W' H' : Side) (x₀ x₁ x₃ z₂ z₃ : ℕ → ℤ) → Rows n W.length W.length H.length → 1 < L → W' ≡ next W → H' ≡ next H →
      0 < W'.length → 0 < H'.length → x₁ ≡ flat W'.length (grid_copied W'.length H'.length (cells A z₁) (cells W'.length x₀)) →
      z₂ ≡ flat A (grid_halved W' H' (cells W'.length x₁) (cells A z₁)) →
      z₃ ≡ flat A (plane_written F (L - 1) W' H' (corner_grid W' H' (cells A z₂)) (cells A z₂)) →
      KeptFrom ((H'.length - 1) * W'.length + W'.length) x₁ x₃ →
      (z₃ ≡ flat A (plane_written F L W H (corner_grid W H (cells A z₀)) (cells A z₀))) × KeptFrom ((H.length - 1) * W.length + W.length) x₀ x₃
  unfolding next
  forward-step n L W' H' x₀ x₁ x₃ z₂ z₃ R b e_w e_h sw sh e₁ f₂ f₃ k₃ =
      let w' = W'.length in
      let h' = H'.length in
      let end = own-end W H in
      let ew : w' ≡ count lo W = ap (λ (S : Side). S.length) e_w in
      let eh : h' ≡ count lo H = ap (λ (S : Side). S.length) e_h in
      let R' = own-rows n n W H w' h' refl ew eh sw sh R in
      let k = kept-flat n w' w' h' x₀ x₁ _ R' e₁ (copied-out w' h' (cells A z₁) (cells w' x₀)) in
      let e : x₁ ≡ flat (count lo W) (grid_copied (count lo W) (count lo H) (cells A z₁) (cells (count lo W) x₀)) = rw (e_w, e_h) at e₁ in
      let f : z₂ ≡ flat A (grid_halved (next W) (next H) (cells (count lo W) x₁) (cells A z₁)) = rw (e_w, e_h) at f₂ in
      let f' : z₃ ≡ flat A (plane_written F (L - 1) (next W) (next H) (corner_grid (next W) (next H) (cells A z₂)) (cells A z₂)) = rw (e_w, e_h) at f₃ in
      let all : KeptFrom ((count lo H - 1) * count lo W + count lo W) x₀ x₃ = rw (ew, eh) at (kept_then k k₃ (omega arith)) in (
        forward-more F laws A W H z₀ z₁ wa some f₁ x₀ x₁ z₂ e f L z₃ b f',
        record { kept = λ j g. all.kept j (omega arith) },
      )
