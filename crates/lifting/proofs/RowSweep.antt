-- The loop that sweeps row t, for any step f: its invariant, how it starts, a turn, and how it ends. Assumes nothing.
use mathlib.Core.Path.{◌≡◌}
use mathlib.Core.List.{List}
use Prim.Native.Nat.{ℕ, ◌+◌, ◌*◌, ◌≤◌, ◌<◌}
use native.Mathlib.Nat.{add_assoc}
use native.Mathlib.Decide.{ℕ_discrete}
use native.Mathlib.Omega.{arith}
use lib.IntN.{ℤ}
use lib.ListN.{length, set}
use Rattle.numbers.specs.Signal.{at}
use Rattle.numbers.proofs.Sweep.{Swept, start, store, left, finish}
use Rattle.lifting.specs.Rows.{row_changed}
use Rattle.lifting.proofs.RowLaws.{RowsIn, row-at, row-before, row-past, row_other}

-- before turn i, m₀ being the area at the start: up to place i of the row the area m is changed, and from there on it is as it was
pub record Turned (f : ℤ → ℤ → ℤ → ℤ) (s w t l r : ℕ) (m₀ : List ℤ) (i : ℕ) (m : List ℤ) : Type 0 where
  pub within : i ≤ w
  pub rows : RowsIn (length m₀) s w t l r
  pub swept : Swept (length m₀) (row_changed f s w t l r (at m₀)) (at m₀) (t * s + i) m

module _ (f : ℤ → ℤ → ℤ → ℤ) (s w t l r : ℕ) (m₀ : List ℤ) where
  pub row-start : RowsIn (length m₀) s w t l r → Turned f s w t l r m₀ 0 m₀
  row-start rows = record { within = omega arith; rows = rows; swept = start m₀ _ _ (λ j lt. row-before f s w t l r (at m₀) j (omega arith)) }

  -- what a turn reads, in its own row or another, is not yet written
  unwritten : (i : ℕ) (m : List ℤ) → Turned f s w t l r m₀ i m → i < w → (q : ℕ) → at m (q * s + i) ≡ at m₀ (q * s + i)
  unwritten i m c h q =
      elim (ℕ_discrete q t) [
        | yes p ↦ c.swept.rest (q * s + i) (rw p (omega arith))
        | no d ↦ left (q * s + i) c.swept (row_other f s w t l r (at m₀) q i d c.rows.one.wide (omega arith))
      ]

  pub row-turn : (i : ℕ) (m : List ℤ) → Turned f s w t l r m₀ i m → i < w
      → Turned f s w t l r m₀ (i + 1) (set m (t * s + i) (f (at m (t * s + i)) (at m (l * s + i)) (at m (r * s + i))))
  row-turn i m c h =
      let u = unwritten i m c h in
      let e = row-at f s w t l r (at m₀) i h in
      record { within = omega arith; rows = c.rows; swept = rw (← add_assoc) (store _ c.swept (omega arith) (cc (u t, u l, u r, e))) }

  pub row-end : (i : ℕ) (m : List ℤ) → Turned f s w t l r m₀ i m → w ≤ i → at m ≡ row_changed f s w t l r (at m₀)
  row-end i m c h = finish c.swept (λ j past. row-past f s w t l r (at m₀) j (omega arith))
