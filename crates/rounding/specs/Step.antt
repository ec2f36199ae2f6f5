-- What the private functions say: one value rounded by a product, and a stretch of a plane.
use Rattle.std.specs.Prelude.{ℕ, ◌-◌, ◌*◌, ◌^◌, ◌≤◌, ◌<◌, ℤ, pos, negsuc, neg_ℤ, leb, ltb}
use Rattle.numbers.specs.Signal.{pick, both}
use Rattle.rounding.specs.Rounding.{toward_zero}
use Rattle.rounding.specs.declared.step.Reciprocal.{Reciprocal}

-- 31 bits, and as many as the step has
unfoldable pub shift_of : ℕ → ℕ
shift_of q =
    pick (leb q 1) 31
    (pick (leb q 2) 32
    (pick (leb q 4) 33
    (pick (leb q 8) 34
    (pick (leb q 16) 35
    (pick (leb q 32) 36
    37)))))

-- m with the sign of v
unfoldable pub with_sign : ℤ → ℕ → ℤ
with_sign (pos n) m = pos m
with_sign (negsuc n) m = neg_ℤ (pos m)

-- `by` times the step is 2^shift and so little more that the product divides every size of a 32-bit number
pub record Divides (q : Reciprocal) : Type 0 where
  pub some : 1 ≤ q.step
  pub few : q.step ≤ 64
  pub low : 2 ^ q.shift ≤ q.by * q.step
  pub high : 2147483648 * (q.by * q.step - 2 ^ q.shift) < 2 ^ q.shift
  pub small : q.by < 2 ^ 32
  pub short : q.shift < 64

-- the numbers from place a on, before place b, rounded
unfoldable pub rounded_from : ℕ → ℕ → ℕ → (ℕ → ℤ) → ℕ → ℤ
rounded_from q a b x j = pick (both (leb a j) (ltb j b)) (toward_zero q (x j)) (x j)
