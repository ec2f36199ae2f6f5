-- A value of a row as the saver has it.
use Rattle.std.specs.Prelude.{Bool, ℕ, ◌+◌, ◌*◌, ◌/◌, ◌%◌, ◌^◌, ℤ, pos, negsuc, eqb}
use Rattle.std.specs.Int.Signed.{mag}

unfoldable pub sign_of : ℤ → ℕ
sign_of (pos n) = 0
sign_of (negsuc n) = 1

-- divided by the step, as a number, in 28 bits: of a value in its level's range `zigzag` of the quotient
unfoldable pub kept : ℕ → ℤ → ℕ
kept q v = 2 * ((mag v / q) % 2 ^ 27) + sign_of v

-- is it a multiple of the step?
unfoldable pub is_multiple : ℕ → ℤ → Bool
is_multiple q v = eqb ((mag v + sign_of v) % q) 0
