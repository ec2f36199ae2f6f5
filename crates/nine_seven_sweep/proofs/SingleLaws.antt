-- A row at the front of an area, lent as a part: each of its numbers changed, or tested. Assumes nothing.
use mathlib.Core.Path.{◌≡◌, sym, ap, ◌∙◌, fun_ext}
use mathlib.Core.Bool.{Bool}
use mathlib.Core.List.{List}
use Prim.Native.Nat.{ℕ, ◌+◌, ◌-◌, ◌≤◌, ◌<◌}
use native.Mathlib.Decide.{dec_lt}
use native.Mathlib.Omega.{arith}
use lib.IntN.{ℤ}
use lib.ListN.{length}
use borrow.Rule.Slice.PartMut.{mid_of, put_mid}
use Rattle.numbers.specs.Signal.{at}
use Rattle.numbers.specs.Tests.{every}
use Rattle.numbers.proofs.Parts.{window-in, splice-in, splice-past, length-mid, at_mid, at-put}
use Rattle.numbers.proofs.TestLaws.{every-same}
use Rattle.lifting.specs.Halves.{fronted}
use Rattle.areas.proofs.AreaLaws.{front_at, front_rest}

module _ (n k : ℕ) (l : List ℤ) (e : k ≡ n) (room : n ≤ length l) where
  mid : length (mid_of 0 k l) ≡ n
  mid = length-mid 0 k l (omega arith) ∙ e

  lent : (j : ℕ) → j < n → at (mid_of 0 k l) j ≡ at l j
  lent j b =
      let t : 0 + j ≡ j = omega arith in
      ap (λ (u : ℕ → ℤ). u j) (at_mid 0 k l) ∙ window-in 0 k (at l) j (omega arith) ∙ ap (at l) t

  -- each number of the part changed by f
  pub mapped-part : (f : ℤ → ℤ) (z : List ℤ) → length z ≡ length (mid_of 0 k l) →
      at z ≡ fronted (length (mid_of 0 k l)) (λ i. f (at (mid_of 0 k l) i)) (at (mid_of 0 k l)) → at (put_mid 0 k l z) ≡ fronted n (λ i. f (at l i)) (at l)
  mapped-part f z size is =
      let long = mid in
      at-put 0 k l z (omega arith) (omega arith)
      ∙ fun_ext λ j.
      elim (dec_lt j n) [
        | yes a ↦
            let t : j - 0 ≡ j = omega arith in
            splice-in 0 k (at z) (at l) j (omega arith) (omega arith)
            ∙ ap (at z) t
            ∙ ap (λ (u : ℕ → ℤ). u j) is
            ∙ front_at _ _ _ j (omega arith)
            ∙ ap f (lent j a)
            ∙ sym (front_at n _ _ j a)
        | no a ↦ splice-past 0 k (at z) (at l) j (omega arith) ∙ sym (front_rest n _ _ j (omega arith))
      ]

  -- a test of each of them
  pub front-test : (f : ℤ → Bool) → every (length (mid_of 0 k l)) (λ i. f (at (mid_of 0 k l) i)) ≡ every n (λ i. f (at l i))
  front-test f = ap (λ (m : ℕ). every m (λ i. f (at (mid_of 0 k l) i))) mid ∙ every-same n _ _ (λ i b. ap f (lent i b))
