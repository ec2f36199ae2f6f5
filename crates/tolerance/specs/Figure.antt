-- How far off a height can be. Document 02, Q-10: "Let e = q − 1 and f the error so far, 0 at level L. With A = f + e + ceil(e/2) and B = 2e + ceil(e/2), a
-- level's error is at most A + B + ceil(B/2)."
use Rattle.std.specs.Prelude.{ℕ, zero, suc, ◌+◌, ◌*◌, ◌/◌}

-- ceil(n/2)
unfoldable pub half_up : ℕ → ℕ
half_up n = (n + 1) / 2

-- A: of the low rows of a level, lifted back along the row; B: of the high ones
unfoldable pub even_error : ℕ → ℕ → ℕ
even_error e f = f + e + half_up e

unfoldable pub odd_error : ℕ → ℕ
odd_error e = 2 * e + half_up e

unfoldable pub level_error : ℕ → ℕ → ℕ
level_error e f = even_error e f + odd_error e + half_up (odd_error e)

-- the error after the L coarsest levels were rebuilt
unfoldable pub error_after : ℕ → ℕ → ℕ
error_after e zero = 0
error_after e (suc L) = level_error e (error_after e L)
