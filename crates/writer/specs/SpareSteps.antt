-- What the private functions of the spare row require and leave. Nothing here needs to be believed.
use Rattle.std.specs.Prelude.{◌≡◌, true, ℕ, zero, suc, ◌+◌, ◌*◌, ◌^◌, ◌<◌, ◌≤◌, ◌%◌, eqb, ℤ}
use Rattle.numbers.specs.Signal.{pick, stored}
use Rattle.wavelet.specs.Limits.{max_height}
use Rattle.filters.specs.Filters.{filter_of}
use Rattle.filters.specs.Figures.{streamable}
use Rattle.level.specs.Level.{Memory}
use Rattle.writer.specs.declared.Writer.{Writer}
use Rattle.writer.specs.Taking.{columns_of}
use Rattle.writer.specs.OfferSteps.{Taker}
use Rattle.writer.specs.Spare.{spare_at, moving}

-- the spare row of a writer, in a store of l numbers, has room for n heights more
pub record Holder (s : Writer) (n l : ℕ) : Type 0 where
  pub sized : streamable s.filter (columns_of s) s.levels ≡ true
  pub row : s.column + n ≤ s.width
  pub room : spare_at s + s.width ≤ l

-- n numbers from place a on lie in a store of l, past the stretch of a level of w columns, which has as many at least
pub record Mover (f w a n l : ℕ) : Type 0 where
  pub wide : w < 2 ^ 16
  pub row : n ≤ w
  pub past : (filter_of f).rows * w ≤ a
  pub room : a + n ≤ l

-- k pairs of numbers from place a on, the first of each to the places from e on, the second to those from o on, one pair after the other
unfoldable pub separated : ℕ → ℕ → ℕ → ℕ → Memory → Memory
separated a e o zero x = x
separated a e o (suc k) x = stored (o + k) (x (a + (2 * k + 1))) (stored (e + k) (x (a + 2 * k)) (separated a e o k x))

-- where the first number of a row in halves stands whose columns start at x, the even ones being `low`
abbrev pub first_place : ℕ → ℕ → ℕ
first_place x low = pick (eqb (x % 2) 0) 0 low

-- the heights of the spare row have gone on
pub record Moved (s : Writer) (x : Memory) (r : Writer) (y : Memory) : Type 0 where
  pub writer : r ≡ (moving s x).writer
  pub store : y ≡ (moving s x).store
