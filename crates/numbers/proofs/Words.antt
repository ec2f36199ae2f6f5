-- The laws of numbers that 32 bits keep. Assumes nothing.
use mathlib.Core.Path.{◌≡◌}
use Prim.Native.Nat.{ℕ, ◌≤◌, ◌<◌, ◌^◌}
use native.Mathlib.Omega.{arith}
use lib.IntN.{ℤ, nat_abs, ◌+ℤ◌, ◌-ℤ◌}
use lib.Signed.{mag}
use mir.Syntax.{w32}
use mir.Val.{SFits, hbits, to_z, of_z}
use mir.ValLaws.{to_z-of_z}
use borrow.Author.Rules.{sfits_of}
use Rattle.numbers.specs.Word.{wrap32}
use Rattle.numbers.proofs.Integers.{each, lin}

-- what is kept is always a 32-bit number, and a 32-bit number is kept as it is
pub wrap-fits : (z : ℤ) → SFits w32 (wrap32 z)
unfolding wrap32
wrap-fits = each _ λ p q. simp lin (omega arith)

pub wrap-kept : (z : ℤ) → SFits w32 z → wrap32 z ≡ z
unfolding wrap32
wrap-kept = each _ λ p q. simp lin (omega arith)

-- what was taken off is put back, and the other way round
pub add-sub : (x f : ℤ) → SFits w32 x → wrap32 (wrap32 (x -ℤ f) +ℤ f) ≡ x
unfolding wrap32
add-sub = each _ λ p q. each _ λ r s. simp lin (omega arith)

pub sub-add : (x f : ℤ) → SFits w32 x → wrap32 (wrap32 (x +ℤ f) -ℤ f) ≡ x
unfolding wrap32
sub-add = each _ λ p q. each _ λ r s. simp lin (omega arith)

-- a number within N fits, where N is below 2^31
pub abs-fits : (z : ℤ) (N : ℕ) → N < 2147483648 → nat_abs z ≤ N → SFits w32 z
abs-fits = each _ λ p q. simp lin (omega arith)

-- an i32 read from a slice, stored there or handed back by a call is a number's bits read back: the number. The bound is `.given` of a read, `.ok` of a call
pub read_back : (z : ℤ) → mag z < 2 ^ hbits w32 → to_z w32 (of_z w32 z) ≡ z
read_back z h = to_z-of_z w32 z (sfits_of h)
