-- Two artists, one plane: either order of two strokes in rectangles that share no height ends in the same plane, from any plane (`either_order`); and from the
-- starting map's it is the whole transform of the final heights (`two-strokes`), as after any list of strokes (`all-strokes`), so that lists that end in the
-- same heights end in the same plane (`same_end`). Assumes nothing.
use mathlib.Core.Path.{◌≡◌, refl, sym, ap, ◌∙◌, fun_ext}
use mathlib.Core.Bool.{Bool, true, false}
use mathlib.Core.List.{List, [], ◌∷◌}
use Prim.Native.Nat.{ℕ, ◌<◌}
use lib.IntN.{ℤ}
use Rattle.numbers.specs.Signal.{pick}
use Rattle.numbers.specs.Word.{whole}
use Rattle.lifting.specs.Grid.{side}
use Rattle.lifting.specs.FiveThree.{five_three_filter}
use Rattle.wavelet.specs.Bands.{Grid}
use Rattle.wavelet.specs.Plane.{plane_cell}
use Rattle.strokes.specs.Reach.{in_reach}
use Rattle.strokes.specs.Strokes.{column_span, row_span, mended_cell}
use Rattle.strokes.specs.Artists.{Stroke, Apart, in_rectangle, painted, after_two, heights_after, plane_after}
use Rattle.strokes.proofs.ReachLaws.{unreached}
use Rattle.strokes.proofs.MendLaws.{EqualOutside, mended-is}

-- ---- the heights
-- a stroke leaves what is outside its rectangle
pub painted-outside : (W H : ℕ) (s : Stroke) (g : Grid) → EqualOutside W H s.rectangle g (painted s g)
unfolding painted in_rectangle
painted-outside W H s g r c p q un = sym (ap (λ (b : Bool). pick b (s.heights r c) (g r c)) un)

either : (a b : Bool) (x y z : ℤ) → (a ≡ true → b ≡ false) → pick b y (pick a x z) ≡ pick a x (pick b y z)
either true b x y z f = ap (λ (v : Bool). pick v y x) (f refl)
either false b x y z f = refl

-- strokes that share no height set the same heights in either order
pub same-heights : (s t : Stroke) (g : Grid) → Apart s.rectangle t.rectangle → painted t (painted s g) ≡ painted s (painted t g)
unfolding painted
same-heights s t g a =
    fun_ext λ r. fun_ext λ c. either (in_rectangle s.rectangle r c) (in_rectangle t.rectangle r c) (s.heights r c) (t.heights r c) (g r c) (a.none r c)

-- ---- the plane
-- a is whether the place is in reach of the second stroke, b of the first
cross : (a b : Bool) (x y z p : ℤ) → (b ≡ false → x ≡ z) → (a ≡ false → y ≡ x) → pick a x (pick b y p) ≡ pick b x (pick a z p)
cross true true x y z p f g = refl
cross true false x y z p f g = f refl
cross false true x y z p f g = g refl
cross false false x y z p f g = refl

module _ (L W H : ℕ) where
  abbrev plane : Grid → Grid
  plane g = plane_cell five_three_filter whole L (side 0 W) (side 0 H) g

  abbrev touched : Stroke → ℕ → ℕ → Bool
  touched s r c = in_reach L (side 0 W) (side 0 H) (column_span s.rectangle) (row_span s.rectangle) r c

  -- out of its reach a stroke does not change the whole transform
  still : (s : Stroke) (g : Grid) (r c : ℕ) → r < H → c < W → touched s r c ≡ false → plane g r c ≡ plane (painted s g) r c
  still s g r c p q un =
      unreached whole L W H (column_span s.rectangle) (row_span s.rectangle) g (painted s g) (painted-outside W H s g) r c p q un

  -- from any plane P: "either order of the two strokes ends in the same plane"
  pub either_order : (s t : Stroke) (g P : Grid) → Apart s.rectangle t.rectangle → (r c : ℕ) → r < H → c < W →
      after_two L W H s t g P r c ≡ after_two L W H t s g P r c
  unfolding after_two mended_cell
  either_order s t g P a r c p q =
      let same : plane (painted t (painted s g)) r c ≡ plane (painted s (painted t g)) r c = ap (λ (x : Grid). plane x r c) (same-heights s t g a) in
      cross (touched t r c) (touched s r c) (plane (painted t (painted s g)) r c) (plane (painted s g) r c) (plane (painted t g) r c) (P r c)
      (λ un. same ∙ sym (still s (painted t g) r c p q un))
      (λ un. still t (painted s g) r c p q un)
      ∙ ap (λ (v : ℤ). pick (touched s r c) v (pick (touched t r c) (plane (painted t g) r c) (P r c))) same

  -- "namely the whole transform of the final heights, if the plane began as that of the starting map"
  pub all-strokes : (l : List Stroke) (g P : Grid) → ((r c : ℕ) → r < H → c < W → P r c ≡ plane g r c) → (r c : ℕ) → r < H → c < W →
      plane_after L W H l g P r c ≡ plane (heights_after l g) r c
  unfolding plane_after heights_after
  all-strokes [] g P is = is
  all-strokes (s ∷ l) g P is =
      all-strokes l (painted s g) _ (mended-is L W H s.rectangle g (painted s g) P (painted-outside W H s g) is)

  pub two-strokes : (s t : Stroke) (g P : Grid) → ((r c : ℕ) → r < H → c < W → P r c ≡ plane g r c) → (r c : ℕ) → r < H → c < W →
      after_two L W H s t g P r c ≡ plane (painted t (painted s g)) r c
  unfolding after_two plane_after heights_after
  two-strokes s t g P is = all-strokes (s ∷ t ∷ []) g P is

  -- any number of strokes in any order: lists that end in the same heights, as those of strokes that share no height pairwise do, end in the same plane
  pub same_end : (l m : List Stroke) (g P : Grid) → ((r c : ℕ) → r < H → c < W → P r c ≡ plane g r c) → heights_after l g ≡ heights_after m g → (r c : ℕ) →
      r < H → c < W →
      plane_after L W H l g P r c ≡ plane_after L W H m g P r c
  same_end l m g P is e r c p q =
      all-strokes l g P is r c p q ∙ ap (λ (x : Grid). plane x r c) e ∙ sym (all-strokes m g P is r c p q)
