-- What the steps take: each sum fits 64 bits, and each half 32. Assumes nothing.
use mathlib.Core.Path.{◌≡◌, sym, ap, ◌∙◌}
use Prim.Native.Nat.{ℕ, ◌%◌, ◌≤◌}
use native.Mathlib.Decide.{ℕ_discrete}
use native.Mathlib.Omega.{arith}
use lib.IntN.{ℤ, pos, nat_abs, ◌+ℤ◌, ◌-ℤ◌, ◌*ℤ◌}
use lib.Signed.{shr_z, mag_shr}
use mir.Syntax.{w32, w64}
use mir.Val.{SFits, to_z, of_z}
use mir.ValLaws.{to_z-of_z, sfits_le}
use lib.Dec.{eqb}
use borrow.Author.Tests.{eq-eqb, ne_eqb}
use Rattle.numbers.proofs.Integers.{each, lin, dif-nat_abs}
use Rattle.lifting.specs.Grid.{is_even}

pub widen : (z : ℤ) → SFits w32 z → SFits w64 z
widen = each _ λ p q. simp lin (omega arith)

pub shifted : (z : ℤ) (m : ℕ) → SFits w64 z → SFits w64 (shr_z z m)
shifted z m h = sfits_le (mag_shr z m) h

-- the sum and the difference of two numbers of 32 bits
pub sum : (a b : ℤ) → SFits w32 a → SFits w32 b → SFits w64 (a +ℤ b)
sum = each _ λ p q. each _ λ r s. simp lin (omega arith)

pub difference : (a b : ℤ) → SFits w32 a → SFits w32 b → SFits w64 (a -ℤ b)
difference = each _ λ p q. each _ λ r s. simp lin (omega arith)

pub sum-small : (a b : ℤ) → SFits w32 a → SFits w32 b → nat_abs (a +ℤ b) ≤ 4294967296
sum-small = each _ λ p q. each _ λ r s. simp lin (omega arith)

pub difference-small : (a b : ℤ) → SFits w32 a → SFits w32 b → nat_abs (a -ℤ b) ≤ 4294967296
difference-small = each _ λ p q. each _ λ r s. simp lin (omega arith)

pub half : (a b : ℤ) → SFits w32 a → SFits w32 b → SFits w32 (shr_z (a +ℤ b) 2)
half = each _ λ p q. each _ λ r s. simp lin (omega arith)

-- a number is its lower half and its upper one, and a quarter, rounded as `updated` rounds it, is the upper half of a half
pub lower-half : (z : ℤ) → SFits w32 z → SFits w32 (shr_z z 2)
lower-half = each _ λ p q. simp lin (omega arith)

pub upper-half : (z : ℤ) → SFits w32 z → SFits w32 (z -ℤ shr_z z 2)
upper-half = each _ λ p q. simp lin (omega arith)

pub quarter : (a b : ℤ) → shr_z (a +ℤ b) 2 -ℤ shr_z (shr_z (a +ℤ b) 2) 2 ≡ shr_z (a +ℤ b +ℤ pos 2) 4
quarter = each _ λ p q. each _ λ r s. simp lin (omega arith)

-- the three steps of `wrap`
pub raised : (z : ℤ) → nat_abs z ≤ 4294967296 → SFits w64 (z +ℤ pos 2147483648)
raised = each _ λ p q. simp lin (omega arith)

pub whole : (z : ℤ) → nat_abs z ≤ 4294967296 → SFits w64 (pos 4294967296 *ℤ shr_z (z +ℤ pos 2147483648) 4294967296)
whole = each _ λ p q. simp lin (omega arith)

pub rest : (z : ℤ) → SFits w32 (z -ℤ pos 4294967296 *ℤ shr_z (z +ℤ pos 2147483648) 4294967296)
rest = each _ λ p q. simp lin (omega arith)

-- ---- twice a number, and half of it
pub twice : (z : ℤ) → z +ℤ z ≡ pos 2 *ℤ z
twice = each _ λ p q. simp lin (omega arith)

pub halves-fit : (z : ℤ) → SFits w32 z → SFits w32 (shr_z z 2 +ℤ shr_z z 2)
halves-fit = each _ λ p q. simp lin (omega arith)

-- an even number is twice its half, and what is twice its half is even
even-twice : (z : ℤ) → nat_abs z % 2 ≡ 0 → shr_z z 2 +ℤ shr_z z 2 ≡ z
even-twice = each _ λ p q. simp (lin, dif-nat_abs) (omega arith)

twice-even : (z : ℤ) → shr_z z 2 +ℤ shr_z z 2 ≡ z → nat_abs z % 2 ≡ 0
twice-even = each _ λ p q. simp (lin, dif-nat_abs) (omega arith)

pub even-bits : (z : ℤ) → SFits w32 z → eqb (of_z w32 (shr_z z 2 +ℤ shr_z z 2)) (of_z w32 z) ≡ is_even z
unfolding is_even
even-bits z h =
    let g = halves-fit z h in
    elim (ℕ_discrete (nat_abs z % 2) 0) [
      | yes e ↦ eq-eqb (of_z w32 (shr_z z 2 +ℤ shr_z z 2)) (of_z w32 z) (ap (of_z w32) (even-twice z e)) ∙ sym (eq-eqb (nat_abs z % 2) 0 e)
      | no d ↦
          ne_eqb (of_z w32 (shr_z z 2 +ℤ shr_z z 2)) (of_z w32 z) (λ s. d (twice-even z (sym (to_z-of_z w32 _ g) ∙ ap (to_z w32) s ∙ to_z-of_z w32 _ h)))
          ∙ sym (ne_eqb (nat_abs z % 2) 0 d)
    ]

pub ruleset wraps = (to_z-of_z, widen, shifted, raised, whole)

pub ruleset sums = (to_z-of_z, widen, shifted, sum, difference, half)

-- a step: of numbers read back, x is changed by what k makes of a and b. An x' is x read back
pub step-parts : (g k : ℤ → ℤ → ℤ) (x x' a a' b b' h h' r r' : ℤ) → x' ≡ x → a' ≡ a → b' ≡ b → h' ≡ h → r' ≡ r → h ≡ k a' b' → r ≡ g x' h' → r' ≡ g x (k a b)
step-parts g k x x' a a' b b' h h' r r' ex ea eb eh er made done = cc
