-- One number stored, as a signal and into a list. Assumes nothing.
use mathlib.Core.Path.{◌≡◌, sym, ap, ◌∙◌, fun_ext}
use mathlib.Core.List.{List}
use Prim.Native.Nat.{ℕ, ◌<◌}
use native.Mathlib.Decide.{ℕ_discrete}
use lib.IntN.{ℤ, pos}
use lib.ListN.{length, set}
use lib.Seq.{get_or-set_same, get_or-set_other}
use borrow.Author.Tests.{eq-eqb, ne_eqb}
use Rattle.numbers.specs.Signal.{at, stored}

module _ (a j : ℕ) (v : ℤ) (x : ℕ → ℤ) where
  pub stored_at : j ≡ a → stored a v x j ≡ v
  unfolding stored
  stored_at e = simp (eq-eqb j a e)

  pub stored-off : (j ≡ a → ⊥) → stored a v x j ≡ x j
  unfolding stored
  stored-off d = simp (ne_eqb j a d)

-- a store into a list is a store into its signal
pub at_stored : (l : List ℤ) (p : ℕ) (v : ℤ) → p < length l → at (set l p v) ≡ stored p v (at l)
at_stored l p v h =
    fun_ext λ j.
    elim (ℕ_discrete j p) [
      | yes e ↦ ap (at (set l p v)) e ∙ get_or-set_same l p v (pos 0) h ∙ sym (stored_at p j v (at l) e)
      | no d ↦ get_or-set_other l p j v (pos 0) d ∙ sym (stored-off p j v (at l) d)
    ]
