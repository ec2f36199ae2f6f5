-- Two parts of a signal laid one after the other, in either order. Assumes nothing.
use mathlib.Core.Path.{◌≡◌, sym, ◌∙◌, fun_ext}
use Prim.Native.Nat.{ℕ, ◌+◌, ◌≤◌}
use native.Mathlib.Decide.{dec_lt}
use native.Mathlib.Omega.{arith}
use lib.IntN.{ℤ}
use Rattle.numbers.specs.Signal.{spliced}
use Rattle.numbers.proofs.Parts.{splice-below, splice-in, splice-past}

pub splice-swap : (a m b k : ℕ) (f g x : ℕ → ℤ) → a + m ≤ b → spliced a m f (spliced b k g x) ≡ spliced b k g (spliced a m f x)
splice-swap a m b k f g x h =
    fun_ext λ j.
    elim (dec_lt j a) [
      | yes p ↦
          splice-below a m f _ j p ∙ splice-below b k g x j (omega arith) ∙ sym (splice-below b k g _ j (omega arith) ∙ splice-below a m f x j p)
      | no p ↦
          elim (dec_lt j (a + m)) [
            | yes q ↦ splice-in a m f _ j (omega arith) q ∙ sym (splice-below b k g _ j (omega arith) ∙ splice-in a m f x j (omega arith) q)
            | no q ↦
                splice-past a m f _ j (omega arith)
                ∙ elim (dec_lt j b) [
                  | yes r ↦ splice-below b k g x j r ∙ sym (splice-below b k g _ j r ∙ splice-past a m f x j (omega arith))
                  | no r ↦
                      elim (dec_lt j (b + k)) [
                        | yes t ↦ splice-in b k g x j (omega arith) t ∙ sym (splice-in b k g _ j (omega arith) t)
                        | no t ↦ splice-past b k g x j (omega arith) ∙ sym (splice-past b k g _ j (omega arith) ∙ splice-past a m f x j (omega arith))
                      ]
                ]
          ]
    ]
