-- What a call keeps, by the number that it answers: the cases of the definitions that the contracts cite. Assumes nothing.
use mathlib.Core.Path.{◌≡◌}
use Prim.Native.Nat.{ℕ}
use lib.IntN.{ℤ, pos}
use lib.Dec.{eqb}
use borrow.Author.Tests.{eq-eqb, ne_eqb, lt-ltb, le-ltb}
use Rattle.numbers.specs.Signal.{pick}
use Rattle.lifting.specs.Halves.{fronted}
use Rattle.demand_1.specs.Words.{Kept, KeptBut14, Zeroed, Surplus}

-- ---- an area whose first n numbers are written
pub front-zeroed : (n : ℕ) (x : ℕ → ℤ) → Zeroed n x (fronted n (λ _. pos 0) x)
unfolding fronted
front-zeroed n x = record { front = λ j h. rw (lt-ltb j n h); surplus = λ j h. rw (le-ltb j n h) }

pub front-surplus : (n : ℕ) (y x : ℕ → ℤ) → Surplus n x (fronted n y x)
unfolding fronted
front-surplus n y x j h = rw (le-ltb j n h)

-- ---- y where the call passes (0), w where it gives 14, x as before otherwise
module _ {A : Type 0} (q : ℕ) where
  pub kept : (y x : A) → Kept q x (pick (eqb q 0) y x)
  kept y x h = rw (ne_eqb q 0 h)

  pub kept_but : (y w x : A) → KeptBut14 q x (pick (eqb q 0) y (pick (eqb q 14) w x))
  kept_but y w x h g = rw (ne_eqb q 0 h, ne_eqb q 14 g)

  pub on-pass : (y x : A) → q ≡ 0 → pick (eqb q 0) y x ≡ y
  on-pass y x e = rw (eq-eqb q 0 e)

  pub on-14 : (y w x : A) → q ≡ 14 → pick (eqb q 0) y (pick (eqb q 14) w x) ≡ w
  on-14 y w x e = rw e
