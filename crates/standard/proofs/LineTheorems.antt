-- The lines of the calls are T.800's: by the 5/3, and by the 9/7 with 02's steps. The way back is their inverse. Assumes nothing.
use mathlib.Core.Path.{◌≡◌, refl, sym, ap, ap₂, ◌∙◌}
use Prim.Native.Nat.{ℕ, ◌+◌, ◌-◌, ◌*◌, ◌%◌, ◌≤◌, ◌<◌, min}
use native.Mathlib.Decide.{dec_lt}
use native.Mathlib.Nat.{mod-eq_of_lt, mod_self}
use native.Mathlib.Omega.{arith}
use lib.IntN.{ℤ, pos, nat_abs, ◌+ℤ◌, ◌-ℤ◌, ◌*ℤ◌, +ℤ_comm}
use lib.Signed.{shr_z}
use borrow.Author.Tests.{lt-ltb}
use Rattle.numbers.specs.Word.{whole}
use Rattle.numbers.proofs.Integers.{dif, dif-nat_abs}
use Rattle.lifting.specs.Line.{Half, lo, hi, predicted, updated}
use Rattle.lifting.specs.Line as line
use Rattle.lifting.specs.Grid.{Side, place, count}
use Rattle.lifting.specs.Grid as grid
use Rattle.lifting.specs.FiveThree.{five_three_filter}
use Rattle.lifting.proofs.GridLaws.{place-in}
use Rattle.lifting.proofs.GridLaws as laws
use Rattle.nine_seven.specs.NineSeven.{mirror, before, after}
use Rattle.nine_seven.specs.NineSeven as nine
use Rattle.nine_seven.specs.NineSevenFilter.{nine_seven_filter}
use Rattle.nine_seven.proofs.NineSevenLaws as nine-laws
use Rattle.standard.specs.Line.{five_three, nine_seven, folded, line_value}
use Rattle.standard.specs.Joins.{Joins}
use Rattle.standard.proofs.Extension.{mirror-fold, mirror-below}
use Rattle.standard.proofs.LineLaws.{Even, high_by, low_by, value-low-one, value-high-one, value_low, value-high}

-- neither tells left from right
swap₂ : (a b : ℤ) → shr_z (a +ℤ b) 2 ≡ shr_z (b +ℤ a) 2
swap₂ a b = ap (λ (z : ℤ). shr_z z 2) (+ℤ_comm a b)

five-three-even : Even five_three
five-three-even a b c e = swap₂ a b

nine-seven-even : Even nine_seven
nine-seven-even a b c e = ap₂ (λ (y z : ℤ). shr_z (pos 9 *ℤ y -ℤ z +ℤ pos 8) 16) (+ℤ_comm a b) (+ℤ_comm c e)

-- a line with a value has a sample
some : (S : Side) (h : Half) (n : ℕ) → n < count h S → S.length ≤ 1 → S.length ≡ 1
some S h n b l = let p = place-in S h n b in omega arith

-- ---- the 9/7
module _ (S : Side) (g : 1 < S.length) (x : ℕ → ℤ) where
  nine-high : (q : ℕ) → nine.high_at whole S.length x q ≡ high_by nine_seven S.length x q
  unfolding nine.high_at nine.predicted
  nine-high q = refl

  nine-high-is : (n : ℕ) → nine.line_forward whole S x hi n ≡ high_by nine_seven S.length x (place S hi n)
  unfolding nine.line_forward
  nine-high-is n = simp (lt-ltb 1 S.length g) (nine-high (place S hi n))

  nine-low-is : (n : ℕ) → nine.line_forward whole S x lo n ≡ low_by nine_seven S.length x (place S lo n)
  unfolding nine.line_forward nine.low_at nine.updated nine.low_part
  nine-low-is n =
      simp (lt-ltb 1 S.length g)
      (ap₂ (λ (a b : ℤ). x (place S lo n) -ℤ shr_z (pos 2 -ℤ a -ℤ b) 4) (nine-high _) (nine-high _))

pub nine-seven-joins : Joins nine_seven_filter nine_seven
nine-seven-joins = record {
  line = λ S x h n b.
      elim (dec_lt 1 S.length) [
        | yes g ↦ elim h as (λ h. n < count h S → nine.line_forward whole S x h n ≡ line_value nine_seven S x h n) [
          | lo ↦ λ b. nine-low-is S g x n ∙ sym (value_low nine_seven S x nine-seven-even g n b)
          | hi ↦ λ b. nine-high-is S g x n ∙ sym (value-high nine_seven S x nine-seven-even g n b)
        ] b
        | no d ↦ elim h as (λ h. n < count h S → nine.line_forward whole S x h n ≡ line_value nine_seven S x h n) [
          | lo ↦ λ b. nine-laws.low-one S (omega arith) whole x n ∙ sym (value-low-one nine_seven S x (some S lo n b (omega arith)) n)
          | hi ↦ λ b. nine-laws.high_one S (omega arith) whole x n ∙ sym (value-high-one nine_seven S x (some S hi n b (omega arith)) n)
        ] b
      ];
}

-- ---- the 5/3: one reflection is enough one place off
once : (N a : ℕ) → 1 < N → a ≤ N → folded (2 * (N - 1)) (a % (2 * (N - 1))) ≡ min a (2 * (N - 1) - a)
unfolding folded
once N a g b =
    elim (dec_lt a (2 * (N - 1))) [
      | yes l ↦ let e : a % (2 * (N - 1)) ≡ a = mod-eq_of_lt {m = 2 * (N - 1)} l in rw e refl
      | no l ↦
          let e : a % (2 * (N - 1)) ≡ 0 = ap (λ (k : ℕ). k % (2 * (N - 1))) (omega arith) ∙ mod_self (2 * (N - 1)) in
          rw e (omega arith)
    ]

gap-one : (q : ℕ) → nat_abs (pos q -ℤ pos 1) ≡ (q - 1) + (1 - q)
unfolding dif
gap-one q = dif-nat_abs q 1

module _ (N : ℕ) (g : 1 < N) where
  before-once : (q : ℕ) → q < N → grid.before N q ≡ before N 1 q
  unfolding grid.before before line.mirror
  before-once q b =
      let e = gap-one q in
      sym (mirror-fold N (pos q -ℤ pos 1) ∙ once N (nat_abs (pos q -ℤ pos 1)) g (omega arith))

  after-once : (q : ℕ) → q < N → grid.after N q ≡ after N 1 q
  unfolding grid.after after line.mirror
  after-once q b = sym (mirror-fold N (pos (q + 1)) ∙ once N (q + 1) g (omega arith))

  before-below : (q : ℕ) → before N 1 q < N
  unfolding before
  before-below q = mirror-below N (pos q -ℤ pos 1) (omega arith)

  after-below : (q : ℕ) → after N 1 q < N
  unfolding after
  after-below q = mirror-below N (pos (q + 1)) (omega arith)

  module _ (x : ℕ → ℤ) where
    five-high : (q : ℕ) → q < N → grid.high_at whole N x q ≡ high_by five_three N x q
    unfolding grid.high_at predicted
    five-high q b = ap₂ (λ (i j : ℕ). x q -ℤ shr_z (x i +ℤ x j) 2) (before-once q b) (after-once q b)

    five-low : (q : ℕ) → q < N → grid.low_at whole N x q ≡ low_by five_three N x q
    unfolding grid.low_at updated
    five-low q b =
        ap₂ (λ (i j : ℕ). x q +ℤ shr_z (grid.high_at whole N x i +ℤ grid.high_at whole N x j +ℤ pos 2) 4) (before-once q b) (after-once q b)
        ∙ ap₂ (λ (y z : ℤ). x q +ℤ shr_z (y +ℤ z +ℤ pos 2) 4) (five-high (before N 1 q) (before-below q)) (five-high (after N 1 q) (after-below q))

module _ (S : Side) (g : 1 < S.length) (x : ℕ → ℤ) where
  five-high-is : (n : ℕ) → n < count hi S → grid.line_forward whole S x hi n ≡ high_by five_three S.length x (place S hi n)
  unfolding grid.line_forward
  five-high-is n b = simp (lt-ltb 1 S.length g) (five-high S.length g x (place S hi n) (place-in S hi n b))

  five-low-is : (n : ℕ) → n < count lo S → grid.line_forward whole S x lo n ≡ low_by five_three S.length x (place S lo n)
  unfolding grid.line_forward
  five-low-is n b = simp (lt-ltb 1 S.length g) (five-low S.length g x (place S lo n) (place-in S lo n b))

pub five-three-joins : Joins five_three_filter five_three
five-three-joins = record {
  line = λ S x h n b.
      elim (dec_lt 1 S.length) [
        | yes g ↦ elim h as (λ h. n < count h S → grid.line_forward whole S x h n ≡ line_value five_three S x h n) [
          | lo ↦ λ b. five-low-is S g x n b ∙ sym (value_low five_three S x five-three-even g n b)
          | hi ↦ λ b. five-high-is S g x n b ∙ sym (value-high five_three S x five-three-even g n b)
        ] b
        | no d ↦ elim h as (λ h. n < count h S → grid.line_forward whole S x h n ≡ line_value five_three S x h n) [
          | lo ↦ λ b. laws.low-one S (omega arith) whole x n ∙ sym (value-low-one five_three S x (some S lo n b (omega arith)) n)
          | hi ↦ λ b. laws.high_one S (omega arith) whole x n ∙ sym (value-high-one five_three S x (some S hi n b (omega arith)) n)
        ] b
      ];
}
