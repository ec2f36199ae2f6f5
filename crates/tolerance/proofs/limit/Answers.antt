-- `limit` meets its contract: its two tests in their order. Assumes nothing.
use mathlib.Core.Path.{◌≡◌, refl, sym, ap, ap₂, ◌∙◌}
use mathlib.Core.Bool.{true, false}
use lib.IntN.{ℤ}
use lib.Signed.{lt_z}
use mir.Syntax.{w32}
use mir.ValLaws.{to_z-of_z}
use Rattle.tolerance.specs.Limits.{clamped}
use Rattle.tolerance.proofs.limit.Goals as goal

-- numbers read back: x' is x
module _ (a b v a' b' v' : ℤ) (ea : a' ≡ a) (eb : b' ≡ b) (ev : v' ≡ v) where
  low : lt_z v' a' ≡ true → a' ≡ clamped a b v
  unfolding clamped
  low t = ea ∙ sym (rw (sym (ap₂ lt_z ev ea) ∙ t))

  high : lt_z v' a' ≡ false → lt_z b' v' ≡ true → b' ≡ clamped a b v
  unfolding clamped
  high f t = eb ∙ sym (simp (sym (ap₂ lt_z ev ea) ∙ f, sym (ap₂ lt_z eb ev) ∙ t))

  inside : lt_z v' a' ≡ false → lt_z b' v' ≡ false → v' ≡ clamped a b v
  unfolding clamped
  inside f g = ev ∙ sym (simp (sym (ap₂ lt_z ev ea) ∙ f, sym (ap₂ lt_z eb ev) ∙ g))

pub returns-then-v-least : goal.returns-then-v-least
returns-then-v-least c =
    let f = c.ranges in
    low _ _ _ _ _ _ (to_z-of_z w32 _ f.least) (to_z-of_z w32 _ f.most) (to_z-of_z w32 _ f.v) c.if-v-least.true

pub returns-then-most-v : goal.returns-then-most-v
returns-then-most-v c =
    let f = c.ranges in
    high _ _ _ _ _ _ (to_z-of_z w32 _ f.least) (to_z-of_z w32 _ f.most) (to_z-of_z w32 _ f.v) c.if-v-least.false c.if-most-v.true

pub returns : goal.returns
returns c =
    let f = c.ranges in
    inside _ _ _ _ _ _ (to_z-of_z w32 _ f.least) (to_z-of_z w32 _ f.most) (to_z-of_z w32 _ f.v) c.if-v-least.false c.if-most-v.false
