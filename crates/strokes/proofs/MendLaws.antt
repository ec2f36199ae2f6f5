-- What a mended plane is. A plane that belonged to a map equal outside the rectangle is now the new map's (`mended-map`; in memory `mended-plane`), and in any
-- plane what is out of reach stays, though the heights inside may be any (`mended-else`).
-- Assumes nothing.
use mathlib.Core.Path.{◌≡◌, refl, ◌∙◌}
use mathlib.Core.Bool.{Bool, true, false}
use Prim.Native.Nat.{ℕ, ◌+◌, ◌*◌, ◌/◌, ◌%◌, ◌<◌}
use native.Mathlib.Nat.{mod-lt}
use lib.IntN.{ℤ}
use Rattle.numbers.specs.Word.{whole}
use Rattle.lifting.specs.Grid.{side}
use Rattle.lifting.specs.FiveThree.{five_three_filter}
use Rattle.wavelet.specs.Bands.{Grid}
use Rattle.wavelet.specs.Maps.{IsMap, HasPlane}
use Rattle.wavelet.specs.Plane.{cells, flat, plane_cell, plane_of}
use Rattle.wavelet.proofs.GridLaws.{row_below, place-below, flat-at}
use Rattle.strokes.specs.Reach.{in_reach}
use Rattle.strokes.specs.Strokes.{column_span, row_span, mended_cell, mended_plane}
use Rattle.strokes.specs.declared.rectangle.Rectangle.{Rectangle}
use Rattle.strokes.proofs.ReachLaws.{SameOutside, pick_is, unreached}

-- two maps of W columns and H rows that are equal outside a rectangle
abbrev pub EqualOutside : ℕ → ℕ → Rectangle → Grid → Grid → Type 0
EqualOutside W H q g g' = SameOutside W H (column_span q) (row_span q) g g'

module _ (L W H : ℕ) (q : Rectangle) where
  abbrev plane : Grid → Grid
  plane g = plane_cell five_three_filter whole L (side 0 W) (side 0 H) g

  abbrev touched : ℕ → ℕ → Bool
  touched r c = in_reach L (side 0 W) (side 0 H) (column_span q) (row_span q) r c

  -- ---- the contract place by place
  pub mended-reach : (g P : Grid) (r c : ℕ) → touched r c ≡ true → mended_cell L W H q g P r c ≡ plane g r c
  unfolding mended_cell
  mended-reach g P r c e = simp e

  pub mended-else : (g P : Grid) (r c : ℕ) → touched r c ≡ false → mended_cell L W H q g P r c ≡ P r c
  unfolding mended_cell
  mended-else g P r c e = simp e

  -- ---- "If the plane belonged to a map equal outside the rectangle, it is now the new map's plane."
  pub mended-is : (g g' P : Grid) → EqualOutside W H q g g' → ((r c : ℕ) → r < H → c < W → P r c ≡ plane g r c) → (r c : ℕ) → r < H → c < W →
      mended_cell L W H q g' P r c ≡ plane g' r c
  unfolding mended_cell
  mended-is g g' P e is r c p b =
      pick_is (touched r c) (λ on. refl) (λ un. is r c p b ∙ unreached whole L W H (column_span q) (row_span q) g g' e r c p b un)

  pub mended-map : (g g' P : Grid) → EqualOutside W H q g g' → IsMap W H g' → HasPlane five_three_filter L (side 0 W) (side 0 H) g P →
      HasPlane five_three_filter L (side 0 W) (side 0 H) g' (mended_cell L W H q g' P)
  mended-map g g' P e map has =
      record { map = map; coefficients = λ r c p b. mended-is g g' P e has.coefficients r c p b }

  -- the same of planes in memory: z begins with the plane of the map g, and x are the new heights
  pub mended-plane : (g z x : ℕ → ℤ) → 0 < W → EqualOutside W H q (cells W g) (cells W x) →
      ((j : ℕ) → j < H * W → z j ≡ plane_of five_three_filter whole L (side 0 W) (side 0 H) (cells W g) j) → (j : ℕ) → j < H * W →
      mended_plane L W H q x z j ≡ plane_of five_three_filter whole L (side 0 W) (side 0 H) (cells W x) j
  unfolding mended_plane plane_of flat cells
  mended-plane g z x some e is j b =
      mended-is (cells W g) (cells W x) (cells W z) e
      (λ r c p k. is (r * W + c) (place-below W H r c p k) ∙ flat-at W (plane (cells W g)) r c k)
      (j / W) (j % W) (row_below W H j b some) (mod-lt j some)
