-- What is kept of a sum: good numbers are those that are kept as they are. 32-bit words, and whole numbers. Assumes nothing.
use Prim.Native.Nat.{◌^◌}
use mathlib.Core.Path.{◌≡◌, refl}
use native.Mathlib.Decide.{dec_lt}
use native.Mathlib.Omega.{arith}
use lib.IntN.{ℤ, ◌+ℤ◌, ◌-ℤ◌}
use lib.Signed.{shr_z, mag}
use mir.Syntax.{w32}
use mir.Val.{SFits, hbits}
use Rattle.numbers.specs.Word.{wrap32, whole}
use Rattle.numbers.proofs.Integers.{each, lin}
use Rattle.numbers.proofs.Words.{wrap-fits, wrap-kept, add-sub, sub-add}
use Rattle.lifting.proofs.Fits.{lower-half}

pub record Keeping (keep : ℤ → ℤ) : Type 1 where
  pub Good : ℤ → Type 0
  pub good? : (z : ℤ) → Dec (Good z)
  pub kept : (z : ℤ) → Good (keep z)
  pub put_back : (x f : ℤ) → Good x → keep (keep (x -ℤ f) +ℤ f) ≡ x
  pub take_back : (x f : ℤ) → Good x → keep (keep (x +ℤ f) -ℤ f) ≡ x
  pub same : (z : ℤ) → Good z → keep z ≡ z
  pub half-good : (z : ℤ) → Good z → Good (shr_z z 2)

pub fits? : (z : ℤ) → Dec (SFits w32 z)
fits? z = elim (dec_lt (mag z) (2 ^ hbits w32)) [ yes p ↦ yes record { sfits = p } | no n ↦ no (λ f. n f.sfits) ]

-- 32-bit words
abbrev pub words : Keeping wrap32
words = record { Good = SFits w32; good? = fits?; kept = wrap-fits; put_back = add-sub; take_back = sub-add; same = wrap-kept; half-good = lower-half }

-- whole numbers: all are good
pub whole-put-back : (x f : ℤ) → (x -ℤ f) +ℤ f ≡ x
whole-put-back = each _ λ p q. each _ λ r s. simp lin (omega arith)

pub whole-take-back : (x f : ℤ) → (x +ℤ f) -ℤ f ≡ x
whole-take-back = each _ λ p q. each _ λ r s. simp lin (omega arith)

abbrev pub wholes : Keeping whole
wholes = record {
  Good = λ z. Unit {0};
  good? = λ z. yes tt;
  kept = λ z. tt;
  put_back = λ x f _. whole-put-back x f;
  take_back = λ x f _. whole-take-back x f;
  same = λ z _. refl;
  half-good = λ z _. tt;
}
