-- The two halves of a line that starts at any coordinate: its even places are one and its odd places the other, whichever these are. Assumes nothing.
use mathlib.Core.Path.{◌≡◌, refl, sym}
use Prim.Native.Nat.{ℕ, ◌+◌, ◌-◌, ◌/◌, ◌%◌, ◌≤◌}
use native.Mathlib.Decide.{ℕ_discrete}
use native.Mathlib.Omega.{arith}
use Rattle.lifting.specs.Line.{Half, lo, hi}
use Rattle.lifting.specs.Grid.{Side, half, count}
use Rattle.lifting.proofs.GridLaws.{count-lo, count-hi, half-even, half-odd}
use Rattle.areas.specs.Places.{begins}

module _ (S : Side) where
  -- the half of the even places, and of the odd ones
  abbrev pub evens : Half
  evens = half S.start

  abbrev pub odds : Half
  odds = half (S.start + 1)

  pub by-parity : (P : Half → Half → Type 0) → (S.start % 2 ≡ 0 → P lo hi) → (S.start % 2 ≡ 1 → P hi lo) → P evens odds
  by-parity P f g =
      elim (ℕ_discrete (S.start % 2) 0) [
        | yes e ↦ rw (half-even S.start e, half-odd (S.start + 1) (omega arith)) (f e)
        | no d ↦ rw (half-odd S.start (omega arith), half-even (S.start + 1) (omega arith)) (g (omega arith))
      ]

  -- where they begin in the row
  pub evens-first : S.start % 2 ≡ 0 → 0 ≡ begins S evens
  unfolding begins
  evens-first e = rw (half-even S.start e) refl

  pub odds-last : S.start % 2 ≡ 0 → S.length - S.length / 2 ≡ begins S odds
  unfolding begins
  odds-last e = rw (half-odd (S.start + 1) (omega arith)) (sym (count-lo S e))

  pub evens-last : S.start % 2 ≡ 1 → S.length / 2 ≡ begins S evens
  unfolding begins
  evens-last e = rw (half-odd S.start e) (sym (count-hi S e))

  pub odds-first : S.start % 2 ≡ 1 → 0 ≡ begins S odds
  unfolding begins
  odds-first e = rw (half-even (S.start + 1) (omega arith)) refl

  -- each half within the row
  pub evens-fit : begins S evens + (S.length - S.length / 2) ≤ S.length
  unfolding begins count
  evens-fit = by-parity (λ e o. begins S e + (S.length - S.length / 2) ≤ S.length) (λ z. omega arith) (λ z. omega arith)

  pub odds-fit : begins S odds + S.length / 2 ≤ S.length
  unfolding begins count
  odds-fit = by-parity (λ e o. begins S o + S.length / 2 ≤ S.length) (λ z. omega arith) (λ z. omega arith)

  pub evens-within : (a : ℕ) → a ≡ begins S evens → a + (S.length - S.length / 2) ≤ S.length
  evens-within a e = rw e evens-fit

  pub odds-within : (b : ℕ) → b ≡ begins S odds → b + S.length / 2 ≤ S.length
  odds-within b e = rw e odds-fit
