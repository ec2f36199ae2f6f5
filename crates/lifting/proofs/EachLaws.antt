-- Each number of a row changed by f: before turn i of its loop, its start, a turn and its end. Assumes nothing.
use mathlib.Core.Path.{◌≡◌, sym, ap, ◌∙◌}
use mathlib.Core.List.{List}
use Prim.Native.Nat.{ℕ, ◌+◌, ◌≤◌, ◌<◌}
use native.Mathlib.Omega.{arith}
use lib.IntN.{ℤ}
use lib.ListN.{length, set}
use Rattle.numbers.specs.Signal.{at}
use Rattle.numbers.proofs.Sweep.{Swept, start, store, finish}
use Rattle.lifting.specs.Halves.{fronted}
use Rattle.lifting.proofs.GridLaws.{front-in, front-past}

pub record Each (f : ℤ → ℤ) (l₀ : List ℤ) (i : ℕ) (l : List ℤ) : Type 0 where
  pub within : i ≤ length l₀
  pub swept : Swept (length l₀) (fronted (length l₀) (λ j. f (at l₀ j)) (at l₀)) (at l₀) i l

module _ (f : ℤ → ℤ) (l₀ : List ℤ) where
  pub each_start : Each f l₀ 0 l₀
  each_start = record { within = omega arith; swept = start l₀ _ 0 (λ j lt. absurd (omega arith)) }

  module _ (i : ℕ) (l : List ℤ) (h : Each f l₀ i l) where
    pub each_turn : (v : ℤ) → i < length l → v ≡ f (at l i) → Each f l₀ (i + 1) (set l i v)
    each_turn v b is =
        let s = h.swept in
        let lt : i < length l₀ = omega (arith, s.size) in
        record { within = omega arith; swept = store v s lt (is ∙ ap f (s.rest i (omega arith)) ∙ sym (front-in (length l₀) _ _ i lt)) }

    pub each-end : length l ≤ i → at l ≡ fronted (length l₀) (λ j. f (at l₀ j)) (at l₀)
    each-end b = finish h.swept (λ j le. front-past (length l₀) _ _ j (omega (arith, h.swept.size)))
