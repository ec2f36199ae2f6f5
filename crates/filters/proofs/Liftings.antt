-- Each filter, by its number, as a lifting in two steps (TwoSteps of `lifting`), and what it takes from there: two lines that agree up to where a number looks
-- have the same number, however they go on and end, and so on the way back. Assumes nothing.
use mathlib.Core.Path.{◌≡◌, refl}
use Prim.Native.Nat.{ℕ, zero, suc, ◌+◌, ◌-◌, ◌*◌, ◌≤◌, ◌<◌}
use lib.IntN.{ℤ}
use Rattle.lifting.specs.Line.{Half, lo, hi}
use Rattle.lifting.specs.Grid.{side, place}
use Rattle.lifting.proofs.TwoSteps as two
use Rattle.lifting.proofs.TwoSteps.{Lifting, span, span_back}
use Rattle.lifting.proofs.FiveThree.{five-three}
use Rattle.nine_seven.proofs.NineSeven.{nine-seven}
use Rattle.filters.specs.Filters.{filter_of}

abbrev pub lifting_of : ℕ → Lifting
lifting_of zero = five-three
lifting_of (suc f) = nine-seven

forward-is : (f : ℕ) → (lifting_of f).forward ≡ (filter_of f).forward
unfolding filter_of
forward-is zero = refl
forward-is (suc f) = refl

halves_are : (f : ℕ) → (lifting_of f).halves ≡ (filter_of f).halves_back
unfolding filter_of
halves_are zero = refl
halves_are (suc f) = refl

-- how far on a number of each half looks along the line, at the look-ahead a, and the other way along the values
abbrev pub reach : ℕ → Half → ℕ
reach a lo = 2 * a
reach a hi = 2 * a - 1

abbrev pub reach_back : ℕ → Half → ℕ
reach_back a lo = 1
reach_back a hi = 2 * a

span-is : (f : ℕ) (h : Half) → span (lifting_of f) h ≡ reach (filter_of f).ahead h
unfolding filter_of
span-is zero lo = refl
span-is zero hi = refl
span-is (suc f) lo = refl
span-is (suc f) hi = refl

back_is : (f : ℕ) (h : Half) → span_back (lifting_of f) h ≡ reach_back (filter_of f).ahead h
unfolding filter_of
back_is zero lo = refl
back_is zero hi = refl
back_is (suc f) lo = refl
back_is (suc f) hi = refl

module _ (f : ℕ) (keep : ℤ → ℤ) (s N N' : ℕ) where
  pub forward-local : (x y : ℕ → ℤ) (h : Half) (n : ℕ) → place (side s N) h n + reach (filter_of f).ahead h < N
      → place (side s N') h n + reach (filter_of f).ahead h < N' → ((i : ℕ) → i ≤ place (side s N') h n + reach (filter_of f).ahead h → x i ≡ y i)
      → (filter_of f).forward keep (side s N) x h n ≡ (filter_of f).forward keep (side s N') y h n
  forward-local x y h n = rw (← forward-is f, ← span-is f h) (two.forward-local (lifting_of f) keep s N N' x y h n)

  pub halves-local : (c d : Half → ℕ → ℤ) (h : Half) (n : ℕ) → place (side s N) h n + reach_back (filter_of f).ahead h < N
      → place (side s N') h n + reach_back (filter_of f).ahead h < N'
      → ((k : Half) (i : ℕ) → place (side s N') k i ≤ place (side s N') h n + reach_back (filter_of f).ahead h → c k i ≡ d k i)
      → (filter_of f).halves_back keep (side s N) c h n ≡ (filter_of f).halves_back keep (side s N') d h n
  halves-local c d h n = rw (← halves_are f, ← back_is f h) (two.halves-local (lifting_of f) keep s N N' c d h n)
