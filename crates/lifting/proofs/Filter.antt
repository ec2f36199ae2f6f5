-- Where the numbers of the halves stand in a line whose first sample is of half `first`: lo where it stands at an even coordinate, which is so throughout
-- document 01, hi where it stands at an odd one. Assumes nothing.
use Prim.Native.Nat.{ℕ, zero, suc, ◌+◌, ◌*◌, ◌<◌}
use mathlib.Core.Path.{subst}
use native.Mathlib.Omega.{arith}
use Rattle.lifting.specs.Line.{Half, lo, hi, count}

abbrev pub other : Half → Half
other lo = hi
other hi = lo

-- the place of number n of half h
abbrev pub place : Half → Half → ℕ → ℕ
place lo lo n = 2 * n
place lo hi n = 2 * n + 1
place hi lo n = 2 * n + 1
place hi hi n = 2 * n

-- how many numbers half h has in a line of N
abbrev pub many : Half → Half → ℕ → ℕ
many lo h N = count h N
many hi h N = count (other h) N

pub in_place : (first h : Half) (N n : ℕ) → place first h n < N → n < many first h N
unfolding count
in_place lo lo N n p = omega arith
in_place lo hi N n p = omega arith
in_place hi lo N n p = omega arith
in_place hi hi N n p = omega arith

by-parity : (P : ℕ → Type 0) → ((n : ℕ) → P (2 * n)) → ((n : ℕ) → P (2 * n + 1)) → (i : ℕ) → P i
by-parity P e o zero = e 0
by-parity P e o (suc i) =
    by-parity (λ j. P (suc j)) (λ n. subst P (omega arith) (o n)) (λ n. subst P (omega arith) (e (suc n))) i

-- every place is the place of a number of a half
pub by_place : (first : Half) (P : ℕ → Type 0) → ((h : Half) (n : ℕ) → P (place first h n)) → (i : ℕ) → P i
by_place lo P f = by-parity P (f lo) (f hi)
by_place hi P f = by-parity P (f hi) (f lo)
