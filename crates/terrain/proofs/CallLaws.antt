-- The laws of a call on a state array. Assumes nothing.
use mathlib.Core.Path.{◌≡◌, refl, sym, ap, ◌∙◌}
use mathlib.Core.Bool.{Bool, true, false, not}
use Prim.Native.Nat.{ℕ}
use native.Mathlib.Omega.{arith}
use Rattle.numbers.specs.Signal.{pick, both}
use Rattle.calls.proofs.QuestionLaws.{not_yes}

-- what a test chooses
pub pick_no : {A : Type 0} (t : Bool) (a b : A) → t ≡ false → pick t a b ≡ b
pick_no t a b e = rw e refl

-- b is what the code asked of it, `is` what that says; the code goes by `not b`
pub not-no : (b : Bool) → not b ≡ false → b ≡ true
not-no true e = refl
not-no false e = let z : ◌≡◌ {A = ℕ} 0 1 = cc in absurd (omega arith)

module _ (is b : Bool) (told : b ≡ is) where
  -- the array is none
  pub turned : {A : Type 0} (x y : A) → not b ≡ true → pick is x y ≡ y
  turned x y e = pick_no is x y (sym told ∙ not_yes b e)

  -- it is one: w is what was unpacked, r what the call on it says
  pub went : {S A : Type 0} (f : S → A) (s w : S) (y r : A) → not b ≡ false → w ≡ s → r ≡ f w → pick is (f s) y ≡ r
  went f s w y r e of g = let t : is ≡ true = sym told ∙ not-no b e in rw t (ap f (sym of) ∙ sym g)

-- the state that the array holds, if it is of its kind, is turned away: r is whether its counts are in range
pub pick-off : {A : Type 0} (is r : Bool) (a b : A) → both is r ≡ false → (r ≡ false → a ≡ b) → pick is a b ≡ b
pick-off true r a b e h = h e
pick-off false r a b e h = refl
