-- What is done to rows whatever filter the level has: an only row doubled, a row deinterleaved by pairs.
use Rattle.std.specs.Prelude.{ℕ, ◌+◌, ◌*◌, ℤ, pos, ◌*ℤ◌}
use Rattle.numbers.specs.Signal.{spliced}
use Rattle.numbers.specs.Word.{wrap32}
use Rattle.level.specs.Level.{Memory}

-- a number of an only row, at an odd coordinate: a step on three rows that reads the first alone
abbrev pub doubled : ℤ → ℤ → ℤ → ℤ
doubled v a b = wrap32 (pos 2 *ℤ v)

-- ---- Cited by private functions alone.
-- k pairs of numbers from place a on, the first of each to the places from e on, the second to those from o on
unfoldable pub separated : ℕ → ℕ → ℕ → ℕ → Memory → Memory
separated a e o k x = spliced o k (λ j. x (a + (2 * j + 1))) (spliced e k (λ j. x (a + 2 * j)) x)
