-- Heights, u16, as whole numbers: a list l of them is the list `wholes l` of i32's kind, so that its loops go by the same laws. Assumes nothing.
use mathlib.Core.Path.{◌≡◌, refl, sym, ap, ◌∙◌}
use mathlib.Core.List.{List}
use Prim.Native.Nat.{ℕ, ◌≤◌, ◌<◌}
use native.Mathlib.Omega.{arith}
use lib.Dec.{T}
use lib.IntN.{ℤ, pos, negsuc, nat_abs, ◌-ℤ◌, ◌*ℤ◌}
use lib.Signed.{shr_z, non_neg, mag_shr, ◌≤ℤ◌}
use lib.ListN.{length, length-map}
use mir.Syntax.{w32}
use mir.Val.{SFits, to_z}
use borrow.Author.Rules.{sfits_of}
use mir.ValLaws.{sfits_le}
use Rattle.numbers.proofs.Integers.{each, lin}
use Rattle.numbers.proofs.Words.{read_back}
use Rattle.numbers.proofs.Sweep.{Swept, finish}
use Rattle.areas.specs.Areas.{heights_at, height16, wholes}
pub use Rattle.areas.specs.Kept.{wholes-at, wholes-set}

pub start-heights : (l : List ℕ) (y : ℕ → ℤ) (k : ℕ) → ((j : ℕ) → j < k → y j ≡ heights_at l j) → Swept (length l) y (heights_at l) k (wholes l)
start-heights l y k h =
    let e = wholes-at l in
    record {
      size = length-map l pos;
      done = λ j lt. ap (λ (f : ℕ → ℤ). f j) e ∙ sym (h j lt);
      rest = λ j le. ap (λ (f : ℕ → ℤ). f j) e;
    }

module _ {n : ℕ} {y x : ℕ → ℤ} {k : ℕ} (l : List ℕ) (sw : Swept n y x k (wholes l)) where
  pub size-heights : length l ≡ n
  size-heights = sym (length-map l pos) ∙ sw.size

  pub finish-heights : ((j : ℕ) → k ≤ j → y j ≡ x j) → heights_at l ≡ y
  finish-heights h = sym (wholes-at l) ∙ finish sw h

-- ---- a height as a 32-bit number
pub height-fits : (v : ℕ) → v < 65536 → SFits w32 (pos v)
height-fits v h = sfits_of (omega arith)

pub height-read : (v : ℕ) → v < 65536 → to_z w32 v ≡ pos v
height-read v h = read_back (pos v) (omega arith)

-- ---- a value modulo 65,536
pub shift_fits : (z : ℤ) → SFits w32 z → SFits w32 (shr_z z 65536)
shift_fits z h = sfits_le (mag_shr z 65536) h

pub multiple-fits : (z : ℤ) → SFits w32 z → SFits w32 (pos 65536 *ℤ shr_z z 65536)
multiple-fits = each _ λ p q. simp lin (omega arith)

pub rest-fits : (z : ℤ) → SFits w32 (z -ℤ pos 65536 *ℤ shr_z z 65536)
rest-fits = each _ λ p q. simp lin (omega arith)

pub rest-positive : (z : ℤ) → T (non_neg (z -ℤ pos 65536 *ℤ shr_z z 65536))
rest-positive = each _ λ p q. simp lin (omega arith)

pub rest-small : (z : ℤ) → nat_abs (z -ℤ pos 65536 *ℤ shr_z z 65536) ≤ 65535
rest-small = each _ λ p q. simp lin (omega arith)

-- a height is its own remainder
pub height-kept : (z : ℤ) → pos 0 ≤ℤ z → z ≤ℤ pos 65535 → height16 z ≡ z
unfolding height16
height-kept = each _ λ p q. simp lin (omega arith)

pub positive : (z : ℤ) → T (non_neg z) → pos (nat_abs z) ≡ z
positive (pos n) h = refl
positive (negsuc n) h = absurd h
