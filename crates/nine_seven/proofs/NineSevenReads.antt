-- What the values of a line read: of the line the places that are there, of the coefficients those that are there. By the general lifting. Assumes nothing.
use mathlib.Core.Path.{◌≡◌}
use Prim.Native.Nat.{ℕ, ◌+◌, ◌≤◌, ◌<◌}
use native.Mathlib.Omega.{arith}
use lib.IntN.{ℤ}
use Rattle.lifting.specs.Line.{Half, lo, hi}
use Rattle.lifting.specs.Grid.{Side, place, count}
use Rattle.lifting.proofs.TwoSteps.{span}
use Rattle.lifting.proofs.TwoSteps as two
use Rattle.nine_seven.specs.NineSeven.{line_forward, line_halves_back, line_back}
use Rattle.nine_seven.proofs.NineSeven.{nine-seven}

-- the place of low number n + 2 is the last that number n of either half reads
pub span-in : (S : Side) (h : Half) (n : ℕ) → place S h n + span nine-seven h ≤ place S lo (n + 2)
unfolding place
span-in S lo n = omega arith
span-in S hi n = omega arith

pub forward-reads : (keep : ℤ → ℤ) (S : Side) (x y : ℕ → ℤ) (h : Half) (n : ℕ) → n < count h S
    → ((i : ℕ) → i < S.length → i ≤ place S lo (n + 2) → x i ≡ y i) → line_forward keep S x h n ≡ line_forward keep S y h n
forward-reads keep S x y h n b e = two.forward-reads nine-seven keep S x y h n b (λ i p q. let r = span-in S h n in e i p (omega arith))

module _ (keep : ℤ → ℤ) (S : Side) (c c' : Half → ℕ → ℤ) (e : (h : Half) (n : ℕ) → n < count h S → c h n ≡ c' h n) where
  pub halves-back-reads : (h : Half) (n : ℕ) → n < count h S → line_halves_back keep S c h n ≡ line_halves_back keep S c' h n
  halves-back-reads = two.halves-back-reads nine-seven keep S c c' e

  pub back-reads : (i : ℕ) → i < S.length → line_back keep S c i ≡ line_back keep S c' i
  unfolding line_back
  back-reads = two.back-reads nine-seven keep S c c' e
