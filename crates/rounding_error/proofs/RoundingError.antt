-- Document 02, Q-10: "from the rounded plane of a map ... no height is off from that map by more than level 1's figure." Over the definitions: `rounded_cell` is
-- what the rounding leaves, `map_back_limited` what a tolerant way back makes of a plane, `error_bound` the figure.
--     rounded-back      no height is off by more than the figure
--     rounded-whole     a step of 1 gives the map itself
-- Assumes nothing.
use mathlib.Core.Path.{◌≡◌, refl, sym, ap, ◌∙◌}
use Prim.Native.Nat.{ℕ, ◌-◌, ◌≤◌, ◌<◌}
use native.Mathlib.Omega.{arith}
use lib.IntN.{ℤ, nat_abs, ◌-ℤ◌}
use Rattle.numbers.specs.Word.{wrap32, whole}
use Rattle.numbers.proofs.Integers.{each, lin}
use Rattle.lifting.specs.Grid.{Side}
use Rattle.lifting.specs.Filter.{Filter}
use Rattle.lifting.specs.FiveThree.{five_three_filter}
use Rattle.lifting.proofs.FiveThreeFilter.{five-three-laws}
use Rattle.wavelet.specs.Limits.{range}
use Rattle.wavelet.specs.Bands.{Grid}
use Rattle.wavelet.specs.Plane.{plane_cell, level_at}
use Rattle.wavelet.specs.Maps.{HasPlane}
use Rattle.wavelet.proofs.LevelTheory.{OnCells}
use Rattle.wavelet.proofs.Bridge.{Within, range-le}
use Rattle.wavelet.proofs.MapTheorems.{height-fits, plane-within, level-le}
use Rattle.rounding.specs.Rounding.{rounded_cell}
use Rattle.rounding.specs.Figure.{error_bound}
use Rattle.tolerance.specs.Back.{map_back_limited}
use Rattle.rounding_error.proofs.LevelApart.{map-apart}
use Rattle.rounding_error.proofs.LimitedWords.{most, map-words}
use Rattle.rounding_error.proofs.Rounded.{rounded-off, rounded-small, exact}

abbrev F : Filter
F = five_three_filter

-- two numbers that are off by nothing are one
same : (x y : ℤ) → nat_abs (x -ℤ y) ≤ 0 → x ≡ y
same = each _ λ p q. each _ λ r s. simp lin (omega arith)

module _ (L : ℕ) (W H : Side) (g x : Grid) (few : L ≤ 5) (has : HasPlane F L W H g x) where
  -- the rounded plane's numbers are in the range of the last level
  inside : (q : ℕ) → OnCells (Within most) W H (rounded_cell L W H q x)
  unfolding most
  inside q r c u v =
      omega (
        arith,
        rounded-small L W H q x r c,
        plane-within F five-three-laws L W H g x few has r c u v,
        range-le F five-three-laws (level_at L W H r c) 5 (omega (arith, level-le F five-three-laws L W H r c)),
      )

  pub rounded-back : (q : ℕ) → 1 ≤ q → (r c : ℕ) → r < H.length → c < W.length →
      nat_abs (map_back_limited F wrap32 0 L W H (rounded_cell L W H q x) r c -ℤ g r c) ≤ error_bound L q
  unfolding error_bound
  rounded-back q h r c u v =
      rw (map-words 0 L W H (rounded_cell L W H q x) (omega arith) (inside q) r c u v)
      (map-apart (q - 1) 0 L W H g (rounded_cell L W H q x) x (λ r c u v. (height-fits F (g r c)).1 (has.map.heights r c u v)) has.coefficients
      (rounded-off L W H q x h) r c u v)

  pub rounded-whole : (r c : ℕ) → r < H.length → c < W.length → map_back_limited F wrap32 0 L W H (rounded_cell L W H 1 x) r c ≡ g r c
  unfolding error_bound
  rounded-whole r c u v = same _ (g r c) (omega (arith, rounded-back 1 (omega arith) r c u v, exact L))
