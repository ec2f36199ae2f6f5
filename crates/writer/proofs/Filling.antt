-- A loop that fills the n places at the front with the numbers of a signal y: its invariant, how it starts, a turn, and how it ends.
-- Assumes nothing.
use mathlib.Core.Path.{◌≡◌, sym, ◌∙◌}
use mathlib.Core.List.{List}
use Prim.Native.Nat.{ℕ, ◌+◌, ◌≤◌, ◌<◌}
use native.Mathlib.Omega.{arith}
use lib.IntN.{ℤ}
use lib.ListN.{length, set}
use borrow.Author.Tests.{lt-ltb, le-ltb}
use Rattle.numbers.specs.Signal.{at}
use Rattle.numbers.proofs.Sweep.{Swept, start, store, finish}
use Rattle.lifting.specs.Halves.{fronted}

module _ (n : ℕ) (y z : ℕ → ℤ) where
  pub front-in : (j : ℕ) → j < n → fronted n y z j ≡ y j
  unfolding fronted
  front-in j h = simp (lt-ltb j n h)

  pub front-past : (j : ℕ) → n ≤ j → fronted n y z j ≡ z j
  unfolding fronted
  front-past j h = simp (le-ltb j n h)

-- before turn j, m₀ being the list at the start
pub record Fronting (n : ℕ) (y : ℕ → ℤ) (m₀ : List ℤ) (j : ℕ) (m : List ℤ) : Type 0 where
  pub within : j ≤ n
  pub room : n ≤ length m₀
  pub swept : Swept (length m₀) (fronted n y (at m₀)) (at m₀) j m

module _ (n : ℕ) (y : ℕ → ℤ) (m₀ : List ℤ) where
  pub front-start : n ≤ length m₀ → Fronting n y m₀ 0 m₀
  front-start h = record { within = omega arith; room = h; swept = start m₀ _ _ (λ j lt. absurd (omega arith)) }

  pub front-turn : (j : ℕ) (m : List ℤ) (v : ℤ) → Fronting n y m₀ j m → j < n → v ≡ y j → Fronting n y m₀ (j + 1) (set m j v)
  front-turn j m v f h e =
      record { within = omega arith; room = f.room; swept = store v f.swept (omega (arith, f.room)) (e ∙ sym (front-in n y (at m₀) j h)) }

  pub front-end : (j : ℕ) (m : List ℤ) → Fronting n y m₀ j m → n ≤ j → at m ≡ fronted n y (at m₀)
  front-end j m f h = finish f.swept (λ p past. front-past n y (at m₀) p (omega arith))
