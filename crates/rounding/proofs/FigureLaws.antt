-- The figure step by step, and that it stays small. Assumes nothing.
use mathlib.Core.Path.{◌≡◌, refl}
use Prim.Native.Nat.{ℕ, ◌+◌, ◌*◌, ◌≤◌}
use native.Mathlib.Numerals.{add-one}
use native.Mathlib.Omega.{arith}
use Rattle.tolerance.specs.Figure.{half_up, even_error, odd_error, level_error, error_after}

pub half-up-small : (n : ℕ) → half_up n ≤ n
unfolding half_up
half-up-small n = omega arith

-- the sums of a level's error, written out
pub level-is : (e f : ℕ) → level_error e f ≡ f + e + half_up e + (2 * e + half_up e) + half_up (2 * e + half_up e)
unfolding level_error even_error odd_error
level-is e f = refl

pub level-small : (e f : ℕ) → e ≤ 63 → level_error e f ≤ f + 332
unfolding level_error even_error odd_error half_up
level-small e f h = omega arith

pub after_none : (e : ℕ) → error_after e 0 ≡ 0
unfolding error_after
after_none e = refl

pub after_next : (e k : ℕ) → error_after e (k + 1) ≡ level_error e (error_after e k)
unfolding error_after
after_next e k = rw (add-one k)
