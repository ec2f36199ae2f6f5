-- One pass at one place: which neighbours it reads, and what it leaves. Nothing here knows what a float is or what a factor is worth.
-- Assumes nothing.
use mathlib.Core.Path.{◌≡◌, refl, sym, ◌∙◌}
use mathlib.Core.Logic.{◌≢◌}
use Prim.Native.Nat.{ℕ, ◌+◌, ◌%◌, ◌≤◌, ◌<◌}
use native.Mathlib.Omega.{arith}
use native.Mathlib.Numerals.{add-one}
use borrow.Author.Tests.{lt-ltb, le-ltb, eq-eqb, ne_eqb}
use lib.Dec.{ltb, eqb}
use lib.Ieee.{Float}
use Rattle.numbers.specs.Signal.{pick}
use Rattle.profile.specs.Profile.{before, after, pass, lifted}
use Rattle.profile.specs.Calls.{fronted}

-- ---- choices
module _ {A : Type 0} (a b : ℕ) (x y : A) where
  pub below : a < b → pick (ltb a b) x y ≡ x
  below h = simp (lt-ltb a b h)

  pub not-below : b ≤ a → pick (ltb a b) x y ≡ y
  not-below h = simp (le-ltb a b h)

  pub same : a ≡ b → pick (eqb a b) x y ≡ x
  same h = simp (eq-eqb a b h)

  pub differs : a ≢ b → pick (eqb a b) x y ≡ y
  differs h = simp (ne_eqb a b h)

-- ---- neighbours: j comes before i, j comes after i, and j comes after i once more since i is the last
pub before-is : (i j : ℕ) → i ≡ j + 1 → before i ≡ j
unfolding before
before-is i j e = rw (e, add-one j)

pub before-first : before 0 ≡ 1
unfolding before
before-first = refl

pub after_is : (n i j : ℕ) → j ≡ i + 1 → j < n → after n i ≡ j
unfolding after
after_is n i j e h = below (i + 1) n _ _ (omega arith) ∙ sym e

pub after_last : (n i j : ℕ) → i ≡ j + 1 → n ≤ i + 1 → after n i ≡ j
unfolding after
after_last n i j e h = not-below (i + 1) n _ _ h ∙ before-is i j e

-- ---- a pass
module _ (q : ℕ) (c : Float) (n : ℕ) (x : ℕ → Float) (i : ℕ) where
  pub lifts : i % 2 ≡ q → pass q c n x i ≡ lifted c (x (before i)) (x i) (x (after n i))
  unfolding pass
  lifts h = simp (eq-eqb (i % 2) q h)

  pub leaves : i % 2 ≢ q → pass q c n x i ≡ x i
  unfolding pass
  leaves h = simp (ne_eqb (i % 2) q h)

-- ---- what stands in the area
module _ (n : ℕ) (y z : ℕ → Float) (j : ℕ) where
  pub front : j < n → fronted n y z j ≡ y j
  unfolding fronted
  front h = below j n _ _ h

  pub surplus : n ≤ j → fronted n y z j ≡ z j
  unfolding fronted
  surplus h = not-below j n _ _ h
