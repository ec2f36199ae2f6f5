-- The mirror as the code works it out. Assumes nothing.
use mathlib.Core.Path.{◌≡◌, sym, ap, ap₂, ◌∙◌}
use Prim.Native.Nat.{ℕ, ◌+◌, ◌-◌, ◌*◌, ◌%◌, ◌≤◌, ◌<◌, min}
use native.Mathlib.Nat.{mod-eq_of_lt}
use native.Mathlib.Omega.{arith}
use lib.IntN.{ℤ, pos, nat_abs, ◌-ℤ◌}
use Rattle.numbers.proofs.Integers.{lin, dif_pos, dif-nat_abs}
use Rattle.lifting.specs.Grid.{Side}
use Rattle.nine_seven.specs.NineSeven.{mirror, before, after}
use Rattle.synthesis.specs.Columns.{row_before, row_after}

-- a place in the line, and one past it
pub mirror-in : (N a : ℕ) → 1 < N → a < N → a ≡ mirror N (pos a)
unfolding mirror
mirror-in N a g b = let e : a % (2 * (N - 1)) ≡ a = mod-eq_of_lt {m = 2 * (N - 1)} (omega arith) in rw e (omega arith)

module _ (N a r : ℕ) (is : r ≡ a % (2 * (N - 1))) where
  pub mirror-on : r < 2 * (N - 1) - r → r ≡ mirror N (pos a)
  unfolding mirror
  mirror-on h = rw (← is) (omega arith)

  pub mirror-back : 2 * (N - 1) - r ≤ r → 2 * (N - 1) - r ≡ mirror N (pos a)
  unfolding mirror
  mirror-back h = rw (← is) (omega arith)

-- ---- the rows before and after one
nat_abs-less : (i k : ℕ) → nat_abs (pos i -ℤ pos k) ≡ (i - k) + (k - i)
nat_abs-less i k = ap₂ (λ (u v : ℤ). nat_abs (u -ℤ v)) (dif_pos i) (dif_pos k) ∙ simp lin (dif-nat_abs (i + 0) (0 + k) ∙ omega arith)

module _ (H : Side) (k q m : ℕ) where
  pub before-is : m ≡ mirror H.length (pos ((q - H.start % 2 - k) + (k - (q - H.start % 2)))) → H.start % 2 + m ≡ row_before H k q
  unfolding row_before before mirror
  before-is e = ap (λ (i : ℕ). H.start % 2 + i) (e ∙ ap (λ (a : ℕ). min (a % (2 * (H.length - 1))) (2 * (H.length - 1) - a % (2 * (H.length - 1))))
      (sym (nat_abs-less (q - H.start % 2) k)))

  pub after_is : m ≡ mirror H.length (pos (q - H.start % 2 + k)) → H.start % 2 + m ≡ row_after H k q
  unfolding row_after after
  after_is e = ap (λ (i : ℕ). H.start % 2 + i) e

-- the row before an even row is the odd one before it, and the row after an odd row the even one after it, where there is one
module _ (H : Side) (n : ℕ) (some : 0 < n) (there : 2 * n < H.start % 2 + H.length) where
  pub odd-before : 2 * n - 1 ≡ row_before H 1 (2 * n)
  odd-before =
      let e : H.start % 2 + (2 * n - H.start % 2 - 1) ≡ 2 * n - 1 = omega arith in
      let f : 2 * n - H.start % 2 - 1 ≡ (2 * n - H.start % 2 - 1) + (1 - (2 * n - H.start % 2)) = omega arith in
      sym e ∙ before-is H 1 (2 * n) (2 * n - H.start % 2 - 1)
      (mirror-in H.length (2 * n - H.start % 2 - 1) (omega arith) (omega arith) ∙ ap (λ (i : ℕ). mirror H.length (pos i)) f)

  pub even-after : 2 * n ≡ row_after H 1 (2 * n - 1)
  even-after =
      let e : H.start % 2 + (2 * n - 1 - H.start % 2 + 1) ≡ 2 * n = omega arith in
      sym e ∙ after_is H 1 (2 * n - 1) (2 * n - 1 - H.start % 2 + 1)
      (mirror-in H.length (2 * n - 1 - H.start % 2 + 1) (omega arith) (omega arith))
